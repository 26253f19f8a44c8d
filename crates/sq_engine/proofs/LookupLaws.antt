-- Open lookups after a question was put.
use Rattle.std.proofs.Common.{◌≡◌, ◌∙◌, ◌==◌, ◌&&◌, ◌||◌, ℕ, suc, List, [], ◌∷◌, ◌++◌, Bool, true, false, if◌then◌else◌, nat_lt, Option, None, Some, is_some, refl, sym, arith}
use Rattle.std.proofs.lemmas.Bool.Decides.{nat_tests}
use Rattle.std.proofs.lemmas.Option.{none-some, same_Some}
use Rattle.sq_base.specs.declared.helpers.Cause.TheVariants as cause
use Rattle.sq_machine.specs.AnswerReadings.{waits_told}
use Rattle.sq_rules.specs.Classes.{Class}
use Rattle.sq_machine.specs.KeptLists.{CachedReplies, fresh_for, same_key}
use Rattle.sq_machine.specs.Limits.{key_limit}
use Rattle.sq_machine.specs.Marks.{Put}
use Rattle.sq_machine.specs.OpenLookups.{LookupRow, all_below, is_open_lookup, pending_in}
use Rattle.sq_machine.specs.StepRule.{StepSays, says_asked, says_fault, says_fresh, says_need}
use Rattle.sq_machine.specs.declared.kept.CachedReply.{CachedReply}
use Rattle.sq_model.specs.ClassRows.{ClassRow}
use Rattle.sq_model.specs.StepRows.{after_says, with_put}
use Rattle.sq_engine.proofs.TableLaws.{number_self}

both : (a b : Bool) → (a && b) ≡ true → (a ≡ true) × (b ≡ true)
both true b h = (refl, h)
both false b h = absurd (cc)

higher : (a n : ℕ) → nat_lt a (suc n) ≡ true → nat_lt a (suc (suc n)) ≡ true
higher a n h = grind (arith, nat_tests, h)

last : (n : ℕ) → nat_lt (suc n) (suc (suc n)) ≡ true
last n = grind (arith, nat_tests)

below_apart : (a b : ℕ) → nat_lt b a ≡ true → (a == b) ≡ false
below_apart a b e = grind (arith, nat_tests, e)

-- below a greater number too
pub below_higher : (n : ℕ) (rows : List LookupRow) → all_below (suc n) rows ≡ true → all_below (suc (suc n)) rows ≡ true
below_higher n [] h = refl
below_higher n (l ∷ rows) h =
    let here = both (nat_lt l.question (suc n)) (all_below (suc n) rows) h in
    rw (higher l.question n here.0) (below_higher n rows here.1)

-- the next question is below the one after it
pub below_more : (n : ℕ) (key : List ℕ) (rows : List LookupRow) → all_below (suc n) rows ≡ true
    → all_below (suc (suc n)) (rows ++ record { question = suc n; key = key } ∷ []) ≡ true
below_more n key [] h = rw (last n) refl
below_more n key (l ∷ rows) h =
    let here = both (nat_lt l.question (suc n)) (all_below (suc n) rows) h in
    rw (higher l.question n here.0) (below_more n key rows here.1)

-- a question above all that are open is not open
pub not_open : (q : ℕ) (rows : List LookupRow) → all_below q rows ≡ true → is_open_lookup q rows ≡ false
not_open q [] h = refl
not_open q (l ∷ rows) h =
    let here = both (nat_lt l.question q) (all_below q rows) h in
    rw (below_apart q l.question here.0) (not_open q rows here.1)

-- the open questions with one lookup more
pub open_more : (q : ℕ) (l : LookupRow) (rows : List LookupRow)
    → is_open_lookup q (rows ++ l ∷ []) ≡ ((q == l.question) || is_open_lookup q rows)
open_more q l [] = refl
open_more q l (r ∷ rows) = by_tests (q == r.question) (q == l.question) (open_more q l rows)
  where
    by_tests : (a b : Bool) → is_open_lookup q (rows ++ l ∷ []) ≡ (b || is_open_lookup q rows)
        → (a || is_open_lookup q (rows ++ l ∷ [])) ≡ (b || (a || is_open_lookup q rows))
    by_tests true true e = refl
    by_tests true false e = refl
    by_tests false true e = e
    by_tests false false e = e

or_true : (a b : Bool) → b ≡ true → (a || b) ≡ true
or_true true b e = refl
or_true false b e = e

-- a question that is pending is open
pub pending_open : (q : ℕ) (key : List ℕ) (rows : List LookupRow) → pending_in key rows ≡ Some q
    → is_open_lookup q rows ≡ true
pending_open q key [] h = absurd (cc)
pending_open q key (l ∷ rows) h = (elim (same_key key l.key) as
    (λ y. same_key key l.key ≡ y → is_open_lookup q (l ∷ rows) ≡ true) [
      | true ↦ λ t. let h' = rw t at h in let same : l.question ≡ q = cc in rw (same, number_self q) refl
      | false ↦ λ t. or_true (q == l.question) (is_open_lookup q rows) (pending_open q key rows (rw t at h))
    ]) refl

-- what a step tells to wait for is open in the class that it asked, and it is the next question where one is put
abbrev pub SaysOpen : ℕ → ClassRow → StepSays → Type 0
SaysOpen count r s = (c q : ℕ) → waits_told s.answer ≡ Some q → is_open_lookup q (after_says c count s r).lookups ≡ true

if_open : (b : Bool) (count : ℕ) (r : ClassRow) (x y : StepSays) → SaysOpen count r x → SaysOpen count r y
    → SaysOpen count r (if b then x else y)
if_open true count r x y f g = f
if_open false count r x y f g = g

asked_open : (name : List ℕ) (p : Put) (now : ℕ) (o : Option ℕ) (f : Bool) (count : ℕ) (r : ClassRow)
    → pending_in p.key r.lookups ≡ o → SaysOpen count r (says_asked name p now o f count)
asked_open name p now (Some n) f count r is = λ c q e. pending_open q p.key r.lookups (is ∙ e)
asked_open name p now None true count r is = λ c q e. absurd (none-some q e)
asked_open name p now None false count r is = λ c q e.
    let same : suc count ≡ q = same_Some _ _ e in
    open_more q (record { question = suc count; key = p.key }) r.lookups ∙ rw (same, number_self q) refl

fresh_open : (class : Class) (p : Put) (now : ℕ) (v : Option CachedReply) (o : Option ℕ) (f : Bool) (count : ℕ)
    (r : ClassRow) → pending_in p.key r.lookups ≡ o → SaysOpen count r (says_fresh class p now v o f count)
fresh_open class p now (Some v) o f count r is = λ c q e. absurd (none-some q e)
fresh_open class p now None o f count r is = asked_open class.name p now o f count r is

pub need_open : (class : Class) (p : Put) (now : ℕ) (kept : CachedReplies) (f : Bool) (count : ℕ) (r : ClassRow)
    → SaysOpen count r (says_need class p now kept (pending_in p.key r.lookups) f count)
need_open class p now kept f count r =
    if_open (nat_lt key_limit _) count r (says_fault class.name p cause.KeyTooLong now)
    (says_fresh class p now (fresh_for class p.key now kept) (pending_in p.key r.lookups) f count)
    (λ c q e. absurd (none-some q e))
    (fresh_open class p now (fresh_for class p.key now kept) (pending_in p.key r.lookups) f count r refl)

-- the next count of questions, after a step that puts this
abbrev pub puts_after : ℕ → Option Put → ℕ
puts_after count o = if is_some o then suc count else count

-- open questions are below the next number still
pub put_below : (count : ℕ) (o : Option Put) (r : ClassRow) → all_below (suc count) r.lookups ≡ true
    → all_below (suc (puts_after count o)) (with_put count o r).lookups ≡ true
put_below count None r h = h
put_below count (Some p) r h = below_more count p.key r.lookups h

pub put_higher : (count : ℕ) (o : Option Put) (rows : List LookupRow) → all_below (suc count) rows ≡ true
    → all_below (suc (puts_after count o)) rows ≡ true
put_higher count None rows h = h
put_higher count (Some p) rows h = below_higher count rows h

-- a question that is open after a step that put this was open, or is the next
pub was_open : (count : ℕ) (o : Option Put) (r : ClassRow) (q : ℕ)
    → is_open_lookup q (with_put count o r).lookups ≡ true → (q == suc count) ≡ false
    → is_open_lookup q r.lookups ≡ true
was_open count None r q h other = h
was_open count (Some p) r q h other = let e = open_more q (record { question = suc count; key = p.key }) r.lookups in
    rw other at (sym e ∙ h)

-- what was open is open
pub open_still : (count : ℕ) (o : Option Put) (r : ClassRow) (q : ℕ) → is_open_lookup q r.lookups ≡ true
    → is_open_lookup q (with_put count o r).lookups ≡ true
open_still count None r q h = h
open_still count (Some p) r q h = open_more q (record { question = suc count; key = p.key }) r.lookups
    ∙ or_true (q == suc count) (is_open_lookup q r.lookups) h

-- no question is lost by a step
pub losses_put : (count : ℕ) (o : Option Put) (r : ClassRow) → (with_put count o r).stock.losses ≡ r.stock.losses
losses_put count None r = refl
losses_put count (Some p) r = refl
