-- A connection has one open check at most, and it is the one that is found by its connection.
use Rattle.std.proofs.Common.{◌≡◌, ℕ, zero, suc, ◌≤◌, List, [], ◌∷◌, Bool, true, false, ◌&&◌, ◌==◌, if◌then◌else◌, Option, Some, None, refl, sym, ap, ap₂, ◌∙◌, arith}
use Rattle.std.specs.Option.{option_map, unwrap_or}
use Rattle.std.proofs.lemmas.Bool.Decides.{nat_tests}
use Rattle.std.proofs.lemmas.Option.{none-some, same_Some}
use Rattle.sq_base.specs.declared.requests.Field.{Field}
use Rattle.sq_machine.specs.declared.entries.Event.{Event}
use Rattle.sq_machine.specs.declared.entries.Event.TheVariants.{Begin, Ask}
use Rattle.sq_machine.specs.declared.entries.Told.{Told}
use Rattle.sq_machine.specs.declared.refusals.Refusal.{Refusal}
use Rattle.sq_machine.specs.Checks.{Asked, ask_count, ask_of, check_open, conn_in, conn_of, ends_check, is_open_of, numbered, open_among, open_check}
use Rattle.sq_rules.specs.Configurations.{Configuration}
use Rattle.sq_machine.specs.Entries.{History, Noted}
use Rattle.sq_machine.specs.Events.{Asking, asking, is_number, is_begin}
use Rattle.sq_machine.specs.Machine.{Legal, next_at}
use Rattle.sq_machine.specs.Next.{Next, gives, refuse_if, refuse_open}
use Rattle.sq_machine.specs.Marking.{marked}
use Rattle.sq_machine.specs.Marks.{Past, entries}
use Rattle.sq_machine.proofs.CheckLaws.{IsAsked, ask_of_begun, ask_of_kept, check_open_kept, open_asked, open_born}
use Rattle.sq_machine.proofs.OpenCheckLaws.{IsOpenOf, open_check_found}
use Rattle.sq_model.specs.CheckRows.{Held, held_checks, held_of, held_on, unasked}
use Rattle.sq_model.specs.Carried.{NamesOnce}
use Rattle.sq_model.proofs.CheckLaws.{unopened}
use Rattle.sq_model.proofs.ClassParts.{equal, itself}
use Rattle.sq_model.proofs.LegalLaws.{legal_induction}
use Rattle.sq_model.proofs.NumberLaws.{open_positive}
use Rattle.sq_model.proofs.RowLaws.{none_found, row_found}

-- no two checks of a connection are open
pub record IsAlone (h : History) : Type 0 where
  pub alone : (c n k : ℕ) → IsOpenOf h c n → IsOpenOf h c k → n ≡ k

was_open : (e : Noted) (h : History) (c n : ℕ) → numbered n (ask_count h) (asking e.event) ≡ None → IsOpenOf (e ∷ h) c n
    → IsOpenOf h c n
was_open e h c n old o = record {
  open_is = by (ends_check n (conn_of h n) e.event) (check_open h n) (sym (check_open_kept e h n old) ∙ o.open_is);
  conn_is = sym (ap conn_in (ask_of_kept e h n old)) ∙ o.conn_is;
}
  where
    by : (a b : Bool) → (if a then false else b) ≡ true → b ≡ true
    by true b t = absurd (cc)
    by false b t = t

quiet_alone : (e : Noted) (h : History) → asking e.event ≡ None → IsAlone h → IsAlone (e ∷ h)
quiet_alone e h none a =
    record {
      alone = λ c n k o r. a.alone c n k (was_open e h c n (ap (numbered n (ask_count h)) none) o)
          (was_open e h c k (ap (numbered k (ask_count h)) none) r);
    }

free_by : (b : Bool) (o : Option ℕ) (r : Refusal) (rest : Next) (t : Told)
    → refuse_if b r (refuse_open o rest) ≡ gives t → o ≡ None
free_by true o r rest t e = absurd (cc)
free_by false None r rest t e = refl
free_by false (Some n) r rest t e = absurd (cc)

shut_among : (h : History) (c k n : ℕ) → open_among h c k ≡ None → 1 ≤ n → n ≤ k → is_open_of h c n ≡ false
unfolding open_among
shut_among h c zero n e low high = absurd (omega arith)
shut_among h c (suc k) n e low high = by (is_open_of h c (suc k)) refl (n == suc k) refl (shut_among h c k n) e
  where
    below : (n k : ℕ) → n ≤ suc k → (n == suc k) ≡ false → n ≤ k
    below n k l e = grind (arith, nat_tests)

    by : (b : Bool) → is_open_of h c (suc k) ≡ b → (d : Bool) → (n == suc k) ≡ d
        → (open_among h c k ≡ None → 1 ≤ n → n ≤ k → is_open_of h c n ≡ false)
        → (if b then Some (suc k) else open_among h c k) ≡ None → is_open_of h c n ≡ false
    by true is d at more e = absurd (none-some (suc k) (sym e))
    by false is true at more e = ap (is_open_of h c) (equal n (suc k) at) ∙ is
    by false is false at more e = more e low (below n k high at)

-- where a connection has no open check, no check of it is open
pub open_check_none : (h : History) (c n : ℕ) → open_check h c ≡ None → IsOpenOf h c n → ⊥
open_check_none h c n e o =
    let shut = shut_among h c (ask_count h) n e (open_positive h n o.open_is) (open_born h n o.open_is) in
    let opened : is_open_of h c n ≡ true = ap₂ (λ (b : Bool) (z : Option ℕ). b && is_number c z) o.open_is o.conn_is
    ∙ itself c in
    cc

asked_alone : (h : History) (now c : ℕ) (method target : List ℕ) (fields : List Field) (answer : Told)
    → open_check h c ≡ None → IsAlone h
    → IsAlone (record { moment = now; event = Ask c method target fields; answer = answer } ∷ h)
asked_alone h now c method target fields answer free a = record {
  alone =
      λ d n k o r. by d n k (n == suc (ask_count h)) (k == suc (ask_count h)) refl refl o r;
}
  where
    e : Noted
    e = record { moment = now; event = Ask c method target fields; answer = answer }

    asked : Asking
    asked = record { conn = c; method = method; target = target; fields = fields }

    old : (n : ℕ) → (n == suc (ask_count h)) ≡ false → numbered n (ask_count h) (Some asked) ≡ None
    old n t = ap (λ (b : Bool). if b then Some asked else None) t

    new_conn : (d n : ℕ) → (n == suc (ask_count h)) ≡ true → IsOpenOf (e ∷ h) d n → c ≡ d
    new_conn d n t o = same_Some _ _
        (sym (ap conn_in (ask_of_begun e h n asked (ap (λ (b : Bool). if b then Some asked else None) t))) ∙ o.conn_is)

    clash : (d n k : ℕ) → (n == suc (ask_count h)) ≡ true → (k == suc (ask_count h)) ≡ false → IsOpenOf (e ∷ h) d n
        → IsOpenOf (e ∷ h) d k → ⊥
    clash d n k t f o r = open_check_none h d k (ap (open_check h) (sym (new_conn d n t o)) ∙ free)
        (was_open e h d k (old k f) r)

    by : (d n k : ℕ) (x y : Bool) → (n == suc (ask_count h)) ≡ x → (k == suc (ask_count h)) ≡ y → IsOpenOf (e ∷ h) d n
        → IsOpenOf (e ∷ h) d k → n ≡ k
    by d n k true true p q o r = equal n (suc (ask_count h)) p ∙ sym (equal k (suc (ask_count h)) q)
    by d n k true false p q o r = absurd (clash d n k p q o r)
    by d n k false true p q o r = absurd (clash d k n q p r o)
    by d n k false false p q o r = a.alone d n k (was_open e h d n (old n p) o) (was_open e h d k (old k q) r)

alone_next : (configs : List Configuration) (m : Past) (now : ℕ) (event : Event) (answer : Told)
    → next_at configs m now event ≡ gives answer → IsAlone (entries m)
    → IsAlone (record { moment = now; event = event; answer = answer } ∷ entries m)
unfolding next_at
alone_next configs m now (Ask c method target fields) answer is a =
    asked_alone (entries m) now c method target fields answer (free_by _ (open_check (entries m) c) _ _ answer is) a
alone_next configs m now event answer is a = quiet_alone (record { moment = now; event = event; answer = answer })
    (entries m) refl a

first_alone : (now : ℕ) (event : Event) (answer : Told) → is_begin event ≡ true
    → IsAlone (record { moment = now; event = event; answer = answer } ∷ [])
unfolding check_open
first_alone now (Begin offset) answer b =
    quiet_alone (record { moment = now; event = Begin offset; answer = answer }) [] refl
    (record { alone = λ c n k o r. absurd (let shut = o.open_is in cc) })
first_alone now event answer b = absurd (cc)

-- so it is in every legal history
pub legal_alone : (configs : List Configuration) (h : History) → NamesOnce configs → Legal configs h
    → IsAlone (entries (marked configs h))
legal_alone configs h once legal =
    (legal_induction configs (λ m. IsAlone (entries m)) once (λ x b. first_alone x.moment x.event x.answer b)
    (λ m now event answer is c a. alone_next configs m now event answer is a) h legal).1

of_conn : (m : Past) (c k : ℕ) → check_open (entries m) k ≡ true → (b : Bool)
    → (c == (unwrap_or (ask_of (entries m) k) unasked).conn) ≡ b → b ≡ true → IsOpenOf (entries m) c k
of_conn m c k opened b is t = record {
  open_is = opened;
  conn_is = by (ask_of (entries m) k) (open_asked (entries m) k opened) (is ∙ t);
}
  where
    by : (o : Option Asked) → IsAsked o → (c == (unwrap_or o unasked).conn) ≡ true → option_map (λ x. x.conn) o ≡ Some c
    by None a t = let is = a.is in absurd (cc)
    by (Some x) a t = ap (λ (i : ℕ). Some i) (sym (equal c x.conn t))

conn_is : (m : Past) (c k : ℕ) → IsOpenOf (entries m) c k
    → (c == (unwrap_or (ask_of (entries m) k) unasked).conn) ≡ true
conn_is m c k o = by (ask_of (entries m) k) o.conn_is
  where
    by : (o : Option Asked) → option_map (λ x. x.conn) o ≡ Some c → (c == (unwrap_or o unasked).conn) ≡ true
    by None e = absurd (none-some c e)
    by (Some x) e = ap (λ (i : ℕ). c == i) (same_Some _ _ e) ∙ itself c

found_on : (configs : List Configuration) (m : Past) (c : ℕ) (o : Option ℕ) → IsAlone (entries m)
    → open_check (entries m) c ≡ o → held_on c (held_checks configs m) ≡ option_map (held_of configs m) o
found_on configs m c None a is =
    none_found (λ (h : Held). c == h.asked.conn) (held_of configs m) (check_open (entries m)) (ask_count (entries m))
    (λ k low high opened. by k opened (c == (held_of configs m k).asked.conn) refl)
  where
    by : (k : ℕ) → check_open (entries m) k ≡ true → (b : Bool) → (c == (held_of configs m k).asked.conn) ≡ b
        → b ≡ false
    by k opened true t = absurd (open_check_none (entries m) c k is (of_conn m c k opened true t refl))
    by k opened false t = refl
found_on configs m c (Some n) a is =
    row_found (λ (h : Held). c == h.asked.conn) (held_of configs m) (check_open (entries m)) (ask_count (entries m)) n
    (λ k low high opened. by k opened (c == (held_of configs m k).asked.conn) refl (n == k) refl)
    ∙ ap (λ (b : Bool). if b then Some (held_of configs m n) else None) (unopened m n true mine.open_is)
  where
    mine : IsOpenOf (entries m) c n
    mine = open_check_found (entries m) c n is

    by : (k : ℕ) → check_open (entries m) k ≡ true → (b : Bool) → (c == (held_of configs m k).asked.conn) ≡ b
        → (d : Bool) → (n == k) ≡ d → b ≡ d
    by k opened true t d same =
        sym (itself n) ∙ ap (λ (j : ℕ). n == j) (a.alone c n k mine (of_conn m c k opened true t refl)) ∙ same
    by k opened false t true same =
        sym t ∙ ap (λ (j : ℕ). c == (held_of configs m j).asked.conn) (sym (equal n k same)) ∙ conn_is m c n mine
    by k opened false t false same = refl

-- the open check of a connection, among the open checks
pub held_on_is : (configs : List Configuration) (m : Past) (c : ℕ) → IsAlone (entries m)
    → held_on c (held_checks configs m) ≡ option_map (held_of configs m) (open_check (entries m) c)
held_on_is configs m c a = found_on configs m c (open_check (entries m) c) a refl
