-- A process that lives was not told to stop.
use Rattle.std.proofs.Common.{◌≡◌, ℕ, zero, suc, ◌<◌, ◌≤◌, List, [], ◌∷◌, ◌++◌, Bool, true, false, not, ◌&&◌, ◌||◌, ◌==◌, nat_le, bytes_eq, if◌then◌else◌, Option, Some, None, is_some, refl, sym, ap, ap₂, subst, ◌∙◌, arith}
use Rattle.std.specs.List.{list_any}
use Rattle.std.specs.Option.{option_map_or, option_or}
use Rattle.std.proofs.lemmas.Bool.{and_left, and_parts, and_right}
use Rattle.std.proofs.lemmas.Bool.Decides.{nat_tests}
use Rattle.std.proofs.lemmas.List.Folds.{list_any-append}
use Rattle.sq_base.specs.declared.helpers.Cause.{Cause}
use Rattle.sq_machine.specs.declared.entries.Event.{Event}
use Rattle.sq_machine.specs.declared.entries.Event.TheVariants.{Begin, Started, Act}
use Rattle.sq_machine.specs.declared.entries.Told.{Told}
use Rattle.sq_machine.specs.declared.entries.Told.TheVariants as told
use Rattle.sq_machine.specs.Checks.{Asked, ask_count, ask_of, check_open, conn_of, ends_check, numbered}
use Rattle.sq_rules.specs.Configurations.{Configuration}
use Rattle.sq_machine.specs.Entries.{History, Noted}
use Rattle.sq_machine.specs.Epochs.{has_open_check, is_check_of, is_live}
use Rattle.sq_machine.specs.Events.{Asking, asking, begins_epoch, is_begin}
use Rattle.sq_machine.specs.Machine.{Legal, next_at}
use Rattle.sq_machine.specs.Next.{gives}
use Rattle.sq_machine.specs.Marking.{marked}
use Rattle.sq_machine.specs.Marks.{Past, entries}
use Rattle.sq_machine.specs.Numbered.{picks}
use Rattle.sq_machine.specs.Processes.{Home, ended_by, home_of, is_at_home, is_stopped, lives_on, proc_count, proc_end, started_by, stop_due, stops}
use Rattle.sq_machine.specs.Readings.{current, epoch_after}
use Rattle.sq_machine.proofs.CheckLaws.{ask_of_begun, ask_of_kept, check_open_kept, open_born}
use Rattle.sq_model.specs.Carried.{Carried, NamesOnce}
use Rattle.sq_model.proofs.ClassParts.{bytes_itself, equal, itself}
use Rattle.sq_model.proofs.NumberLaws.{above_before, open_positive}
use Rattle.sq_model.proofs.LegalLaws.{legal_induction, next_acts, next_stop}
use Rattle.sq_model.proofs.ProcessLaws.{due_by, lives_by}

-- a number that is picked, and passes
any_in : (test p : ℕ → Bool) (n k : ℕ) → 1 ≤ k → k ≤ n → p k ≡ true → test k ≡ true → list_any test (picks p n) ≡ true
any_in test p zero k low high t u = absurd (omega arith)
any_in test p (suc n) k low high t u = by (k == suc n) refl (any_in test p n k low) (p (suc n)) refl
  where
    or_true : (b : Bool) → (b || true) ≡ true
    or_true true = refl
    or_true false = refl

    below : (k n : ℕ) → k ≤ suc n → (k == suc n) ≡ false → k ≤ n
    below k n l e = grind (arith, nat_tests)

    by : (b : Bool) → (k == suc n) ≡ b → (k ≤ n → p k ≡ true → test k ≡ true → list_any test (picks p n) ≡ true)
        → (d : Bool) → p (suc n) ≡ d
        → list_any test (if d then picks p n ++ suc n ∷ [] else picks p n) ≡ true
    by true same more true is =
        list_any-append test (picks p n) (suc n ∷ [])
        ∙ ap (λ (b : Bool). list_any test (picks p n) || (b || false)) (ap test (sym (equal k (suc n) same)) ∙ u)
        ∙ or_true (list_any test (picks p n))
    by true same more false is = absurd (let no : false ≡ true = sym is ∙ ap p (sym (equal k (suc n) same)) ∙ t in cc)
    by false other more true is =
        list_any-append test (picks p n) (suc n ∷ [])
        ∙ ap (λ (b : Bool). b || (test (suc n) || false)) (more (below k n high other) t u)
    by false other more false is = more (below k n high other) t u

-- some number passes
any_out : (test : ℕ → Bool) (xs : List ℕ) → list_any test xs ≡ true → (k : ℕ) × (test k ≡ true)
any_out test [] e = absurd (cc)
any_out test (x ∷ xs) e = by (test x) refl (any_out test xs) e
  where
    by : (b : Bool) → test x ≡ b → (list_any test xs ≡ true → (k : ℕ) × (test k ≡ true))
        → (b || list_any test xs) ≡ true → (k : ℕ) × (test k ≡ true)
    by true t more e = (x, t)
    by false t more e = more e

-- an epoch that lives and had begun lived before: no entry brings one back
pub live_before : (e : Noted) (h : History) (f : ℕ) → f ≤ current h → is_live (e ∷ h) f ≡ true → is_live h f ≡ true
live_before e h f begun live = by_current (begins_epoch e.event) (f == epoch_after (begins_epoch e.event) (current h))
    refl refl live
  where
    or_true : (b : Bool) → (b || true) ≡ true
    or_true true = refl
    or_true false = refl

    old_open : (a b : Bool) → (if a then false else b) ≡ true → b ≡ true
    old_open true b t = absurd (cc)
    old_open false b t = t

    of_check : (n : ℕ) → is_check_of (e ∷ h) f n ≡ true → is_live h f ≡ true
    of_check n t = at (numbered n (ask_count h) (asking e.event)) refl
      where
        parts : (option_map_or (λ a. a.epoch == f) (ask_of (e ∷ h) n) false ≡ true) × (check_open (e ∷ h) n ≡ true)
        parts = and_parts (option_map_or (λ a. a.epoch == f) (ask_of (e ∷ h) n) false) (check_open (e ∷ h) n) t

        at : (o : Option Asking) → numbered n (ask_count h) (asking e.event) ≡ o → is_live h f ≡ true
        at None is =
            let opened = old_open (ends_check n (conn_of h n) e.event) (check_open h n)
            (sym (check_open_kept e h n is) ∙ parts.1) in
            let epoch = sym (ap (λ (o : Option Asked). option_map_or (λ a. a.epoch == f) o false)
            (ask_of_kept e h n is)) ∙ parts.0 in
            ap (λ (b : Bool). f == current h || b)
            (any_in (is_check_of h f) (check_open h) (ask_count h) n (open_positive h n opened) (open_born h n opened)
            opened (ap₂ (λ (a b : Bool). a && b) epoch opened)) ∙ or_true (f == current h)
        at (Some a) is =
            let epoch : (current h == f) ≡ true =
            sym (ap (λ (o : Option Asked). option_map_or (λ a. a.epoch == f) o false) (ask_of_begun e h n a is))
            ∙ parts.0 in
            ap (λ (b : Bool). b || has_open_check h f) (ap (λ (i : ℕ). f == i) (equal (current h) f epoch) ∙ itself f)

    by_open : has_open_check (e ∷ h) f ≡ true → is_live h f ≡ true
    by_open t = let n = any_out (is_check_of (e ∷ h) f) (picks (check_open (e ∷ h)) (ask_count (e ∷ h))) t in
        of_check n.0 n.1

    past : (f n : ℕ) → f ≤ n → (f == suc n) ≡ true → ⊥
    past f n l t = grind (arith, nat_tests)

    by_current : (b d : Bool) → begins_epoch e.event ≡ b → (f == epoch_after b (current h)) ≡ d
        → (d || has_open_check (e ∷ h) f) ≡ true → is_live h f ≡ true
    by_current true true is at t = absurd (past f (current h) begun at)
    by_current true false is at t = by_open t
    by_current false true is at t = ap (λ (b : Bool). b || has_open_check h f) at
    by_current false false is at t = by_open t

-- a process that lives was not told to stop
pub record NotStopped (h : History) : Type 0 where
  pub goes_on : (k : ℕ) → lives_on h k ≡ true → is_stopped h k ≡ false

above : (q n : ℕ) → n < q → nat_le q n ≡ false
above q n l = grind (arith, nat_tests)

stopped_above : (h : History) (k : ℕ) → proc_count h < k → is_stopped h k ≡ false
stopped_above [] k l = refl
stopped_above (x ∷ h) k l =
    let before = above_before (started_by x.event) (proc_count h) k l in
    ap₂ (λ (b d : Bool). if b then true else d)
    (and_left (nat_le k (proc_count h)) (stops k x.event x.answer) (above k (proc_count h) before))
    (stopped_above h k before)

-- who lives after an entry lived before it, where it was started before
lived : (configs : List Configuration) (m : Past) (x : Noted) (k : ℕ) (o : Option Home) → Carried configs m
    → home_of (entries m) k ≡ o
    → lives_by o (option_or (ended_by (entries m) k x.event x.answer) (proc_end (entries m) k))
    (is_live (x ∷ entries m)) ≡ true → lives_on (entries m) k ≡ true
lived configs m x k None c is t = absurd (cc)
lived configs m x k (Some p) c is t =
    ap (λ (o : Option Home). lives_by o (proc_end (entries m) k) (is_live (entries m))) is
    ∙ ap₂ (λ (a b : Bool). (true && not a) && b)
    (ended (ended_by (entries m) k x.event x.answer) (proc_end (entries m) k) parts.0)
    (live_before x (entries m) p.epoch begun parts.1)
  where
    parts : ((true && not (is_some (option_or (ended_by (entries m) k x.event x.answer) (proc_end (entries m) k))))
        ≡ true) × (is_live (x ∷ entries m) p.epoch ≡ true)
    parts = and_parts (true
        && not (is_some (option_or (ended_by (entries m) k x.event x.answer) (proc_end (entries m) k))))
        (is_live (x ∷ entries m) p.epoch) t

    ended : (a b : Option Cause) → not (is_some (option_or a b)) ≡ true → is_some b ≡ false
    ended None None t = refl
    ended None (Some z) t = absurd (cc)
    ended (Some z) b t = absurd (cc)

    le : (a b : ℕ) → nat_le a b ≡ true → a ≤ b
    le a b t = grind (arith, nat_tests)

    gt : (a b : ℕ) → nat_le a b ≡ false → b < a
    gt a b t = grind (arith, nat_tests)

    home : is_at_home (entries m) p.epoch p.class k ≡ true
    home = ap (λ (o : Option Home). option_map_or (λ z. (z.epoch == p.epoch) && bytes_eq z.class p.class) o false) is
        ∙ ap₂ (λ (a b : Bool). a && b) (itself p.epoch) (bytes_itself p.class)

    by : (b : Bool) → nat_le p.epoch (current (entries m)) ≡ b → p.epoch ≤ current (entries m)
    by true t = le p.epoch (current (entries m)) t
    by false t = absurd (let none = (c.later_unused p.epoch (gt p.epoch (current (entries m)) t)).none_home p.class k in
        let no : false ≡ true = sym none ∙ home in cc)

    begun : p.epoch ≤ current (entries m)
    begun = by (nat_le p.epoch (current (entries m))) refl

-- an entry that starts no process and stops none
quiet_stops : (configs : List Configuration) (m : Past) (x : Noted) → Carried configs m
    → ((k : ℕ) → home_of (x ∷ entries m) k ≡ home_of (entries m) k) → ((k : ℕ) → stops k x.event x.answer ≡ false)
    → NotStopped (entries m) → NotStopped (x ∷ entries m)
quiet_stops configs m x c home none n = record {
  goes_on = λ k t.
      ap (λ (b : Bool). if b then true else is_stopped (entries m) k)
      (and_right (nat_le k (proc_count (entries m))) (stops k x.event x.answer) (none k))
      ∙ n.goes_on k (lived configs m x k (home_of (entries m) k) c refl
      (sym (ap (λ (o : Option Home). lives_by o
      (option_or (ended_by (entries m) k x.event x.answer) (proc_end (entries m) k)) (is_live (x ∷ entries m)))
      (home k)) ∙ t));
}

not_due : (h : History) (p : ℕ) → stop_due h p ≡ true → lives_on h p ≡ true → ⊥
not_due h p due lives = by (home_of h p) (is_stopped h p) (proc_end h p) due lives
  where
    by : (o : Option Home) (s : Bool) (d : Option Cause) → due_by o s d (is_live h) ≡ true
        → lives_by o d (is_live h) ≡ true → ⊥
    by None s d a b = cc
    by (Some z) s (Some w) a b = cc
    by (Some z) true None a b = cc
    by (Some z) false None a b = let no : false ≡ true = sym (ap not b) ∙ a in cc

stopped_next : (configs : List Configuration) (m : Past) (now p : ℕ) → Carried configs m → stop_due (entries m) p ≡ true
    → NotStopped (entries m)
    → NotStopped (record { moment = now; event = Act; answer = told.Stop p } ∷ entries m)
stopped_next configs m now p c due n = record {
  goes_on =
      λ k t. by k t (k == p) refl (lived configs m x k (home_of (entries m) k) c refl t);
}
  where
    x : Noted
    x = record { moment = now; event = Act; answer = told.Stop p }

    by : (k : ℕ) → lives_on (x ∷ entries m) k ≡ true → (b : Bool) → (k == p) ≡ b → lives_on (entries m) k ≡ true
        → (if (nat_le k (proc_count (entries m))) && b then true else is_stopped (entries m) k) ≡ false
    by k t true same lives = absurd
        (not_due (entries m) p due (ap (lives_on (entries m)) (sym (equal k p same)) ∙ lives))
    by k t false other lives = ap (λ (b : Bool). if b then true else is_stopped (entries m) k)
        (and_right (nat_le k (proc_count (entries m))) false refl) ∙ n.goes_on k lives

started_next : (configs : List Configuration) (m : Past) (now f : ℕ) (name : List ℕ) (answer : Told) → Carried configs m
    → NotStopped (entries m)
    → NotStopped (record { moment = now; event = Started f name; answer = answer } ∷ entries m)
started_next configs m now f name answer c n = record {
  goes_on =
      λ k t. by k (k == suc (proc_count (entries m))) refl t;
}
  where
    x : Noted
    x = record { moment = now; event = Started f name; answer = answer }

    stays : (k : ℕ) → is_stopped (x ∷ entries m) k ≡ is_stopped (entries m) k
    stays k = ap (λ (b : Bool). if b then true else is_stopped (entries m) k)
        (and_right (nat_le k (proc_count (entries m))) false refl)

    by : (k : ℕ) (b : Bool) → (k == suc (proc_count (entries m))) ≡ b
        → lives_by (option_or (if b then Some (record { epoch = f; class = name }) else None) (home_of (entries m) k))
        (proc_end (entries m) k) (is_live (x ∷ entries m)) ≡ true
        → is_stopped (x ∷ entries m) k ≡ false
    by k true same t = stays k
        ∙ stopped_above (entries m) k
        (subst (λ (i : ℕ). proc_count (entries m) < i) (sym (equal k (suc (proc_count (entries m))) same))
        (omega arith))
    by k false other t = stays k ∙ n.goes_on k (lived configs m x k (home_of (entries m) k) c refl t)

stops_next : (configs : List Configuration) (m : Past) (now : ℕ) (event : Event) (answer : Told)
    → next_at configs m now event ≡ gives answer → Carried configs m → NotStopped (entries m)
    → NotStopped (record { moment = now; event = event; answer = answer } ∷ entries m)
stops_next configs m now (Started f name) answer is c n = started_next configs m now f name answer c n
stops_next configs m now Act (told.Stop p) is c n = stopped_next configs m now p c
    (next_stop configs m p (next_acts configs m now (told.Stop p) is)) n
stops_next configs m now Act answer is c n = quiet_stops configs m
    (record { moment = now; event = Act; answer = answer }) c (λ k. refl) (λ k. refl) n
stops_next configs m now event answer is c n = quiet_stops configs m
    (record { moment = now; event = event; answer = answer }) c (λ k. refl) (λ k. refl) n

first_stops : (now : ℕ) (event : Event) (answer : Told) → is_begin event ≡ true
    → NotStopped (record { moment = now; event = event; answer = answer } ∷ [])
first_stops now (Begin offset) answer b = record { goes_on = λ k t. absurd (cc) }
first_stops now event answer b = absurd (cc)

-- so it is in every legal history: the stop of a process is due as soon as it ends by a line or its epoch ends
pub legal_stops : (configs : List Configuration) (h : History) → NamesOnce configs → Legal configs h
    → NotStopped (entries (marked configs h))
legal_stops configs h once legal =
    (legal_induction configs (λ m. NotStopped (entries m)) once (λ x b. first_stops x.moment x.event x.answer b)
    (λ m now event answer is c n. stops_next configs m now event answer is c n) h legal).1
