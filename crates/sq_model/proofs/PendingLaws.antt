-- The pending question of a key is the one that a search by key among the open lookups finds.
use Rattle.std.proofs.Common.{◌≡◌, ℕ, suc, ◌≤◌, List, [], ◌∷◌, Bool, true, false, not, ◌&&◌, ◌==◌, nat_lt, length, bytes_eq, if◌then◌else◌, Option, Some, None, is_some, refl, sym, ap, ap₂, subst, ◌∙◌, arith, ◌⊎◌, inl, inr}
use Rattle.std.specs.Option.{option_and_then, option_map, option_map_or}
use Rattle.std.proofs.lemmas.Bool.{and_parts, not-true}
use Rattle.std.proofs.lemmas.Bool.Decides.{nat_tests}
use Rattle.std.proofs.lemmas.Option.{none-some, same_Some}
use Rattle.sq_base.proofs.CommonLaws.{bytes_turned}
use Rattle.sq_base.specs.declared.helpers.Answer.{Answer}
use Rattle.sq_base.specs.declared.helpers.Cause.TheVariants as cause
use Rattle.sq_base.specs.declared.helpers.What.{What}
use Rattle.sq_machine.specs.declared.entries.Event.{Event}
use Rattle.sq_machine.specs.declared.entries.Event.TheVariants.{Step}
use Rattle.sq_machine.specs.declared.kept.CachedReply.{CachedReply}
use Rattle.sq_rules.specs.declared.values.Value.{Value}
use Rattle.sq_rules.specs.declared.values.Value.TheVariants as value
use Rattle.sq_machine.specs.AnswerReadings.{answers, waits_told}
use Rattle.sq_machine.specs.Checks.{Asked, ask_of}
use Rattle.sq_rules.specs.Classes.{Class}
use Rattle.sq_rules.specs.Configurations.{Configuration}
use Rattle.sq_machine.specs.Entries.{History, Noted}
use Rattle.sq_machine.specs.Epochs.{class_at, config_of}
use Rattle.sq_machine.specs.FarmReadings.{farm_with, is_put_for}
use Rattle.sq_machine.specs.Farms.{full}
use Rattle.sq_machine.specs.Freshness.{is_due}
use Rattle.sq_machine.specs.KeptLists.{CachedReplies, fresh_for, same_key}
use Rattle.sq_machine.specs.KeptReadings.{kept}
use Rattle.sq_machine.specs.Limits.{key_limit}
use Rattle.sq_machine.specs.Marking.{marked, says_at}
use Rattle.sq_machine.specs.Marks.{Marked, Past, Put, entries}
use Rattle.sq_machine.specs.OpenLookups.{LookupRow, pending_in}
use Rattle.sq_machine.specs.Questions.{QuestionEnd, end_at, first_end, has_ended, last_put, pending, put_count, put_is, put_of, question_end, unended}
use Rattle.sq_machine.specs.StepRule.{StepSays, class_of_acl, refresh, says_asked, says_asked_of, says_at_place, says_done, says_fault, says_fresh, says_kept, says_need, says_of_class, says_value, step_says, value_over}
use Rattle.sq_model.specs.ClassRows.{class_row, is_asked, lookup_of, lookups}
use Rattle.sq_model.specs.StepRows.{says_of_row}
use Rattle.sq_model.proofs.ClassParts.{bytes_same, equal, itself}
use Rattle.sq_model.proofs.NumberLaws.{end_above}
use Rattle.sq_model.proofs.RowLaws.{none_found, picked_given, row_found}
use Rattle.sq_model.proofs.StepLaws.{put_new, put_old}

-- a put at a step, where the key has no pending question
pub record PutsFresh (p : Put) (pending : Option ℕ) (s : StepSays) : Type 0 where
  pub fresh : (q : Put) → s.put ≡ Some q → (q ≡ p) × (pending ≡ None)

puts_asked : (name : List ℕ) (p : Put) (now : ℕ) (o : Option ℕ) (f : Bool) (count : ℕ)
    → PutsFresh p o (says_asked name p now o f count)
puts_asked name p now (Some q) f count = record { fresh = λ r e. absurd (none-some r e) }
puts_asked name p now None true count = record { fresh = λ r e. absurd (none-some r e) }
puts_asked name p now None false count = record { fresh = λ r e. (sym (same_Some _ _ e), refl) }

puts_kept : (name : List ℕ) (p : Put) (v : CachedReply) (now : ℕ) (due : Bool) (o : Option ℕ) (f : Bool)
    → PutsFresh p o (says_kept name p v now (refresh due o f p))
puts_kept name p v now true None false = record { fresh = λ r e. (sym (same_Some _ _ e), refl) }
puts_kept name p v now true None true = record { fresh = λ r e. absurd (none-some r e) }
puts_kept name p v now true (Some q) f = record { fresh = λ r e. absurd (none-some r e) }
puts_kept name p v now false o f = record { fresh = λ r e. absurd (none-some r e) }

puts_fresh : (class : Class) (p : Put) (now : ℕ) (v : Option CachedReply) (o : Option ℕ) (f : Bool) (count : ℕ)
    → PutsFresh p o (says_fresh class p now v o f count)
puts_fresh class p now (Some v) o f count = puts_kept class.name p v now (is_due class v now) o f
puts_fresh class p now None o f count = puts_asked class.name p now o f count

-- a question is put for a key only where none is pending
pub puts_need : (class : Class) (p : Put) (now : ℕ) (k : CachedReplies) (o : Option ℕ) (f : Bool) (count : ℕ)
    → PutsFresh p o (says_need class p now k o f count)
puts_need class p now k o f count = by (nat_lt key_limit (length p.key))
  where
    by : (b : Bool) → PutsFresh p o
        (if b then says_fault class.name p cause.KeyTooLong now
        else says_fresh class p now (fresh_for class p.key now k) o f count)
    by true = record { fresh = λ r e. absurd (none-some r e) }
    by false = puts_fresh class p now (fresh_for class p.key now k) o f count

-- what a step puts has no pending question of its key
pub record PutsNew (configs : List Configuration) (m : Past) (o : Option Put) : Type 0 where
  pub none_pending : (p : Put) → o ≡ Some p → pending configs m p.epoch p.class p.key ≡ None

new_need : (configs : List Configuration) (m : Past) (e c : ℕ) (key : List ℕ) (s : StepSays)
    → PutsFresh (record { epoch = e; class = c; key = key }) (pending configs m e c key) s → PutsNew configs m s.put
new_need configs m e c key s f =
    record {
      none_pending = λ p is. let r = f.fresh p is in
          ap (λ (q : Put). pending configs m q.epoch q.class q.key) r.0 ∙ r.1;
    }

nothing_new : (configs : List Configuration) (m : Past) → PutsNew configs m None
nothing_new configs m = record { none_pending = λ p e. absurd (none-some p e) }

new_class : (configs : List Configuration) (m : Past) (e c : ℕ) (key : List ℕ) (now : ℕ) (o : Option Class)
    → PutsNew configs m (says_of_class configs m e c key now o).put
new_class configs m e c key now None = nothing_new configs m
new_class configs m e c key now (Some class) =
    new_need configs m e c key (says_of_class configs m e c key now (Some class))
    (puts_need class (record { epoch = e; class = c; key = key }) now (kept configs m e c) (pending configs m e c key)
    (full (farm_with configs m e c class)) (put_count m))

new_place : (configs : List Configuration) (m : Past) (e : ℕ) (key : List ℕ) (now : ℕ) (o : Option ℕ)
    → PutsNew configs m (says_at_place configs m e key now o).put
new_place configs m e key now None = nothing_new configs m
new_place configs m e key now (Some c) = new_class configs m e c key now (class_at configs e c)

new_value : (configs : List Configuration) (m : Past) (e now : ℕ) (v : Value)
    → PutsNew configs m (says_value configs m e now v).put
new_value configs m e now (value.Verdict o) = nothing_new configs m
new_value configs m e now (value.Need acl key) = new_place configs m e key now
    (option_and_then (λ config. class_of_acl config.acls acl) (config_of configs e))

new_asked : (configs : List Configuration) (m : Past) (now : ℕ) (s : List Answer) (o : Option Asked)
    → PutsNew configs m (says_asked_of configs m now s o).put
new_asked configs m now s None = nothing_new configs m
new_asked configs m now s (Some a) = new_value configs m a.epoch now (value_over configs a s)

-- what a step of check n puts
pub step_new : (configs : List Configuration) (m : Past) (n now : ℕ) → PutsNew configs m (step_says configs m n now).put
step_new configs m n now = new_asked configs m now (answers configs m n) (ask_of (entries m) n)

-- and what any entry puts
pub mark_new : (configs : List Configuration) (m : Past) (now : ℕ) (event : Event)
    → PutsNew configs m (says_at configs m now event).put
mark_new configs m now (Step n) = step_new configs m n now
mark_new configs m now event = nothing_new configs m

-- a question of a key that has not ended is the last that was put for it
pub record OneOpen (configs : List Configuration) (m : Past) : Type 0 where
  pub last_open : (e c : ℕ) (key : List ℕ) (q : ℕ) → q ≤ put_count m → put_is e c key (put_of m q) ≡ true
      → has_ended configs m q ≡ false → last_put m e c key ≡ Some q

-- what has not ended had not ended before
pub open_before : (configs : List Configuration) (m : Past) (x : Marked) (q : ℕ) → has_ended configs (x ∷ m) q ≡ false
    → has_ended configs m q ≡ false
open_before configs m x q e = by (question_end configs m q) (end_at configs m q x.entry.event x.entry.answer) e
  where
    by : (o : Option QuestionEnd) (w : Option What) → is_some (first_end x.entry.moment w o) ≡ false → is_some o ≡ false
    by None w e = refl
    by (Some z) None e = absurd (cc)
    by (Some z) (Some w) e = absurd (cc)

-- so it stays with one entry more
pub one_more : (configs : List Configuration) (m : Past) (en : Noted) (o : Option Put) (t : Option Answer)
    → PutsNew configs m o → OneOpen configs m
    → OneOpen configs (record { entry = en; put = o; took = t } ∷ m)
one_more configs m en None t new one =
    record {
      last_open = λ e c key q high put live. one.last_open e c key q high put
          (open_before configs m (record { entry = en; put = None; took = t }) q live);
    }
one_more configs m en (Some p) t new one =
    record {
      last_open = λ e c key q high put live. by e c key q high put live (q == suc (put_count m)) refl
          (put_is e c key (Some p)) refl;
    }
  where
    x : Marked
    x = record { entry = en; put = Some p; took = t }

    below : (q n : ℕ) → q ≤ suc n → (q == suc n) ≡ false → q ≤ n
    below q n l e = grind (arith, nat_tests)

    unended_is : (b : Bool) (q : ℕ) → b ≡ false → ◌≡◌ {A = Option ℕ} (if b then None else Some q) (Some q)
    unended_is b q e = ap (λ (d : Bool). if d then None else Some q) e

    same_put : (e c : ℕ) (key : List ℕ) → put_is e c key (Some p) ≡ true → (p.epoch ≡ e) × (p.class ≡ c) × (p.key ≡ key)
    same_put e c key t =
        let a = and_parts ((p.epoch == e) && (p.class == c)) (bytes_eq p.key key) t in
        let b = and_parts (p.epoch == e) (p.class == c) a.0 in
        (equal p.epoch e b.0, equal p.class c b.1, bytes_same p.key key a.1)

    by : (e c : ℕ) (key : List ℕ) (q : ℕ) → q ≤ suc (put_count m) → put_is e c key (put_of (x ∷ m) q) ≡ true
        → has_ended configs (x ∷ m) q ≡ false
        → (b : Bool) → (q == suc (put_count m)) ≡ b → (d : Bool) → put_is e c key (Some p) ≡ d
        → last_put (x ∷ m) e c key ≡ Some q
    by e c key q high put live true same d is =
        let now : q ≡ suc (put_count m) = equal q (suc (put_count m)) same in
        ap (λ (b : Bool). if b then Some (suc (put_count m)) else last_put m e c key)
        (sym (ap (put_is e c key) (ap (put_of (x ∷ m)) now ∙ put_new m en p t)) ∙ put)
        ∙ ap (λ (k : ℕ). Some k) (sym now)
    by e c key q high put live false other true is =
        let old = below q (put_count m) high other in
        let was = one.last_open e c key q old (sym (ap (put_is e c key) (put_old m en p t q old)) ∙ put)
        (open_before configs m x q live) in
        let s = same_put e c key is in
        let none : pending configs m e c key ≡ None =
        sym (ap₂ (λ (i j : ℕ). pending configs m i j p.key) s.0 s.1 ∙ ap (pending configs m e c) s.2)
        ∙ new.none_pending p refl in
        let some : pending configs m e c key ≡ Some q = ap (unended configs m) was
        ∙ unended_is (has_ended configs m q) q (open_before configs m x q live) in
        absurd (none-some q (sym none ∙ some))
    by e c key q high put live false other false is =
        let old = below q (put_count m) high other in
        ap (λ (b : Bool). if b then Some (suc (put_count m)) else last_put m e c key) is
        ∙ one.last_open e c key q old (sym (ap (put_is e c key) (put_old m en p t q old)) ∙ put)
        (open_before configs m x q live)

-- so it is in every history with its marks
pub one_open : (configs : List Configuration) (h : History) → OneOpen configs (marked configs h)
one_open configs [] = record { last_open = λ e c key q high put live. absurd (cc) }
one_open configs (x ∷ h) =
    let m = marked configs h in
    one_more configs m x (says_at configs m x.moment x.event).put (says_at configs m x.moment x.event).took
    (mark_new configs m x.moment x.event) (one_open configs h)

-- the last question of a key was put for it
pub record IsLastPut (m : Past) (e c : ℕ) (key : List ℕ) (q : ℕ) : Type 0 where
  pub positive : 1 ≤ q
  pub most : q ≤ put_count m
  pub put_is_it : put_is e c key (put_of m q) ≡ true

last_by : (m : Past) (en : Noted) (o : Option Put) (t : Option Answer) (e c : ℕ) (key : List ℕ) (q : ℕ) (b : Bool)
    → put_is e c key o ≡ b → (last_put m e c key ≡ Some q → IsLastPut m e c key q)
    → (if b then Some (suc (put_count m)) else last_put m e c key) ≡ Some q
    → IsLastPut (record { entry = en; put = o; took = t } ∷ m) e c key q
last_by m en None t e c key q true is more l = absurd (cc)
last_by m en None t e c key q false is more l = let r = more l in
    record { positive = r.positive; most = r.most; put_is_it = r.put_is_it }
last_by m en (Some p) t e c key q true is more l =
    let now : q ≡ suc (put_count m) = sym (same_Some _ _ l) in
    record {
      positive = subst (λ (k : ℕ). 1 ≤ k) (sym now) (omega arith);
      most = subst (λ (k : ℕ). k ≤ suc (put_count m)) (sym now) (omega arith);
      put_is_it = ap (put_is e c key)
          (ap (put_of (record { entry = en; put = Some p; took = t } ∷ m)) now ∙ put_new m en p t) ∙ is;
    }
last_by m en (Some p) t e c key q false is more l =
    let r = more l in
    record {
      positive = r.positive;
      most = up q (put_count m) r.most;
      put_is_it = ap (put_is e c key) (put_old m en p t q r.most) ∙ r.put_is_it;
    }
  where
    up : (a b : ℕ) → a ≤ b → a ≤ suc b
    up a b l = omega arith

-- from the reading of it
pub last_put_is : (m : Past) (e c : ℕ) (key : List ℕ) (q : ℕ) → last_put m e c key ≡ Some q → IsLastPut m e c key q
last_put_is [] e c key q l = absurd (none-some q l)
last_put_is (x ∷ m) e c key q l = last_by m x.entry x.put x.took e c key q (put_is e c key x.put) refl
    (last_put_is m e c key q) l

-- of a question that was put for a class, the key tells whether it was put for that key
put_key : (o : Option Put) (e c : ℕ) (key : List ℕ) → is_put_for e c o ≡ true
    → put_is e c key o ≡ same_key key (option_map_or (λ p. p.key) o [])
put_key None e c key t = absurd (cc)
put_key (Some p) e c key t = ap (λ (b : Bool). b && bytes_eq p.key key) t ∙ bytes_turned p.key key

-- a question that was put for a key of a class was put for the class
pub put_for_it : (o : Option Put) (e c : ℕ) (key : List ℕ) → put_is e c key o ≡ true → is_put_for e c o ≡ true
put_for_it None e c key t = absurd (cc)
put_for_it (Some p) e c key t = (and_parts ((p.epoch == e) && (p.class == c)) (bytes_eq p.key key) t).0

found_by : (configs : List Configuration) (m : Past) (e c : ℕ) (key : List ℕ) (o : Option ℕ) → OneOpen configs m
    → last_put m e c key ≡ o
    → unended configs m o ≡ pending_in key (lookups configs m e c)
found_by configs m e c key None one is =
    sym (ap (option_map (λ (l : LookupRow). l.question))
    (none_found (λ (l : LookupRow). same_key key l.key) (lookup_of m) (is_asked configs m e c) (put_count m)
    (λ k low high asked. other k high asked (same_key key (lookup_of m k).key) refl)))
  where
    other : (k : ℕ) → k ≤ put_count m → is_asked configs m e c k ≡ true → (b : Bool)
        → same_key key (lookup_of m k).key ≡ b → b ≡ false
    other k high asked true same =
        let a = and_parts (is_put_for e c (put_of m k)) (not (has_ended configs m k)) asked in
        let last = one.last_open e c key k high (put_key (put_of m k) e c key a.0 ∙ same)
        (not-true (has_ended configs m k) a.1) in
        absurd (none-some k (sym is ∙ last))
    other k high asked false same = refl
found_by configs m e c key (Some q) one is =
    sym (ap (option_map (λ (l : LookupRow). l.question))
    (row_found (λ (l : LookupRow). same_key key l.key) (lookup_of m) (is_asked configs m e c) (put_count m) q
    (λ k low high asked. mine k high asked (same_key key (lookup_of m k).key) refl (q == k) refl)
    ∙ ap (λ (b : Bool). if b then Some (lookup_of m q) else None)
    (picked_given (is_asked configs m e c) (put_count m) q last.positive last.most
    ∙ ap (λ (b : Bool). b && not (has_ended configs m q)) (put_for_it (put_of m q) e c key last.put_is_it)))
    ∙ mapped (has_ended configs m q))
  where
    last : IsLastPut m e c key q
    last = last_put_is m e c key q is

    mapped : (b : Bool) → option_map (λ (l : LookupRow). l.question)
        (if true && not b then Some (lookup_of m q) else None) ≡ (if b then None else Some q)
    mapped true = refl
    mapped false = refl

    mine : (k : ℕ) → k ≤ put_count m → is_asked configs m e c k ≡ true → (b : Bool)
        → same_key key (lookup_of m k).key ≡ b → (d : Bool) → (q == k) ≡ d → b ≡ d
    mine k high asked true same d at =
        let a = and_parts (is_put_for e c (put_of m k)) (not (has_ended configs m k)) asked in
        let found = one.last_open e c key k high (put_key (put_of m k) e c key a.0 ∙ same)
        (not-true (has_ended configs m k) a.1) in
        sym (itself q) ∙ ap (λ (j : ℕ). q == j) (same_Some _ _ (sym is ∙ found)) ∙ at
    mine k high asked false same true at =
        let a = and_parts (is_put_for e c (put_of m k)) (not (has_ended configs m k)) asked in
        let here : put_is e c key (put_of m k) ≡ true = ap (λ (j : ℕ). put_is e c key (put_of m j)) (sym (equal q k at))
        ∙ last.put_is_it in
        sym same ∙ sym (put_key (put_of m k) e c key a.0) ∙ here
    mine k high asked false same false at = refl

-- the pending question of a key, among the open lookups of its class
pub pending_found : (configs : List Configuration) (m : Past) (e c : ℕ) (key : List ℕ) → OneOpen configs m
    → pending configs m e c key ≡ pending_in key (lookups configs m e c)
pending_found configs m e c key one = found_by configs m e c key (last_put m e c key) one refl

-- what a step says that needs a key of a class, by the class's row
pub says_by_row : (configs : List Configuration) (m : Past) (e c : ℕ) (key : List ℕ) (now : ℕ) (class : Class)
    → OneOpen configs m
    → says_of_class configs m e c key now (Some class)
    ≡ says_of_row class e c key now (put_count m) (class_row configs m e c class)
says_by_row configs m e c key now class one =
    ap (λ (o : Option ℕ). says_need class (record { epoch = e; class = c; key = key }) now (kept configs m e c) o
    (full (farm_with configs m e c class)) (put_count m)) (pending_found configs m e c key one)

-- what a step tells a check to wait for has not ended, and was put, at the latest there
pub record WaitsOpen (configs : List Configuration) (m : Past) (s : StepSays) : Type 0 where
  pub waits_open : unended configs m (waits_told s.answer) ≡ waits_told s.answer
  pub waits_given : (q : ℕ) → waits_told s.answer ≡ Some q
      → (is_some (put_of m q) ≡ true) ⊎ ((q ≡ suc (put_count m)) × (is_some s.put ≡ true))

twice : (configs : List Configuration) (m : Past) (o : Option ℕ)
    → unended configs m (unended configs m o) ≡ unended configs m o
twice configs m None = refl
twice configs m (Some q) = by (has_ended configs m q) refl
  where
    by : (b : Bool) → has_ended configs m q ≡ b
        → unended configs m (if b then None else Some q) ≡ (if b then None else Some q)
    by true e = refl
    by false e = ap (λ (d : Bool). if d then None else Some q) e

waits_nothing : (configs : List Configuration) (m : Past) (s : StepSays) → waits_told s.answer ≡ None
    → WaitsOpen configs m s
waits_nothing configs m s e =
    record { waits_open = ap (unended configs m) e ∙ sym e; waits_given = λ q is. absurd (none-some q (sym e ∙ is)) }

-- a pending question of a class
record IsPending (configs : List Configuration) (m : Past) (o : Option ℕ) : Type 0 where
  is_open : unended configs m o ≡ o
  is_put : (q : ℕ) → o ≡ Some q → is_some (put_of m q) ≡ true

is_pending : (configs : List Configuration) (m : Past) (e c : ℕ) (key : List ℕ)
    → IsPending configs m (pending configs m e c key)
is_pending configs m e c key =
    record { is_open = twice configs m (last_put m e c key); is_put = λ q is. by (last_put m e c key) refl q is }
  where
    some_put : (o : Option Put) → put_is e c key o ≡ true → is_some o ≡ true
    some_put None t = absurd (cc)
    some_put (Some p) t = refl

    chosen : (b : Bool) (a q : ℕ) → (if b then None else Some a) ≡ Some q → a ≡ q
    chosen true a q e = absurd (none-some q e)
    chosen false a q e = same_Some _ _ e

    by : (o : Option ℕ) → last_put m e c key ≡ o → (q : ℕ) → unended configs m o ≡ Some q → is_some (put_of m q) ≡ true
    by None is q l = absurd (none-some q l)
    by (Some a) is q l =
        let same : a ≡ q = chosen (has_ended configs m a) a q l in
        subst (λ (k : ℕ). is_some (put_of m k) ≡ true) same
        (some_put (put_of m a) (last_put_is m e c key a is).put_is_it)

waits_asked : (configs : List Configuration) (m : Past) (name : List ℕ) (p : Put) (now : ℕ) (o : Option ℕ) (f : Bool)
    → IsPending configs m o → WaitsOpen configs m (says_asked name p now o f (put_count m))
waits_asked configs m name p now (Some q) f i =
    record { waits_open = i.is_open; waits_given = λ r e. inl (i.is_put r e) }
waits_asked configs m name p now None true i = waits_nothing configs m (says_asked name p now None true (put_count m))
    refl
waits_asked configs m name p now None false i =
    record {
      waits_open = ap (λ (z : Option QuestionEnd). if is_some z then None else Some (suc (put_count m)))
          (end_above configs m (suc (put_count m)) (omega arith));
      waits_given = λ r e. inr (sym (same_Some _ _ e), refl);
    }

waits_fresh : (configs : List Configuration) (m : Past) (class : Class) (p : Put) (now : ℕ) (v : Option CachedReply)
    (o : Option ℕ) (f : Bool) → IsPending configs m o
    → WaitsOpen configs m (says_fresh class p now v o f (put_count m))
waits_fresh configs m class p now (Some v) o f i = waits_nothing configs m
    (says_fresh class p now (Some v) o f (put_count m)) refl
waits_fresh configs m class p now None o f i = waits_asked configs m class.name p now o f i

waits_need : (configs : List Configuration) (m : Past) (class : Class) (p : Put) (now : ℕ) (k : CachedReplies)
    (o : Option ℕ) (f : Bool) → IsPending configs m o
    → WaitsOpen configs m (says_need class p now k o f (put_count m))
waits_need configs m class p now k o f i = by (nat_lt key_limit (length p.key))
  where
    by : (b : Bool) → WaitsOpen configs m
        (if b then says_fault class.name p cause.KeyTooLong now
        else says_fresh class p now (fresh_for class p.key now k) o f (put_count m))
    by true = waits_nothing configs m (says_fault class.name p cause.KeyTooLong now) refl
    by false = waits_fresh configs m class p now (fresh_for class p.key now k) o f i

waits_class : (configs : List Configuration) (m : Past) (e c : ℕ) (key : List ℕ) (now : ℕ) (o : Option Class)
    → WaitsOpen configs m (says_of_class configs m e c key now o)
waits_class configs m e c key now None = waits_nothing configs m says_done refl
waits_class configs m e c key now (Some class) =
    waits_need configs m class (record { epoch = e; class = c; key = key }) now (kept configs m e c)
    (pending configs m e c key) (full (farm_with configs m e c class)) (is_pending configs m e c key)

waits_place : (configs : List Configuration) (m : Past) (e : ℕ) (key : List ℕ) (now : ℕ) (o : Option ℕ)
    → WaitsOpen configs m (says_at_place configs m e key now o)
waits_place configs m e key now None = waits_nothing configs m says_done refl
waits_place configs m e key now (Some c) = waits_class configs m e c key now (class_at configs e c)

waits_value : (configs : List Configuration) (m : Past) (e now : ℕ) (v : Value)
    → WaitsOpen configs m (says_value configs m e now v)
waits_value configs m e now (value.Verdict o) = waits_nothing configs m says_done refl
waits_value configs m e now (value.Need acl key) = waits_place configs m e key now
    (option_and_then (λ config. class_of_acl config.acls acl) (config_of configs e))

waits_asked_of : (configs : List Configuration) (m : Past) (now : ℕ) (s : List Answer) (o : Option Asked)
    → WaitsOpen configs m (says_asked_of configs m now s o)
waits_asked_of configs m now s None = waits_nothing configs m says_done refl
waits_asked_of configs m now s (Some a) = waits_value configs m a.epoch now (value_over configs a s)

-- what a step of check n tells it to wait for
pub step_waits : (configs : List Configuration) (m : Past) (n now : ℕ) → WaitsOpen configs m (step_says configs m n now)
step_waits configs m n now = waits_asked_of configs m now (answers configs m n) (ask_of (entries m) n)
