-- For those who count the open checks of each epoch: what each change of the rows does to the count.
use Rattle.std.proofs.Common.{◌≡◌, ◌∙◌, ◌==◌, ◌<◌, ℕ, suc, List, [], ◌∷◌, ◌++◌, Bool, true, false, if◌then◌else◌, map, Option, None, Some, refl, ap, arith}
use Rattle.std.proofs.lemmas.Bool.Decides.{nat_tests}
use Rattle.std.specs.Option.{option_and_then}
use Rattle.sq_base.specs.declared.helpers.Answer.{Answer}
use Rattle.sq_machine.specs.Rising.{AreAbove, Rises}
use Rattle.sq_machine.specs.StepRule.{StepSays}
use Rattle.sq_model.specs.CheckRows.{Ends, Held, after_ends, after_step, held_at, served, served_by, stepped, without_check}
use Rattle.sq_checks.specs.OpenChecks.{of_epoch}
use Rattle.sq_checks.proofs.MapLaws.{number_is}

if_more : (a b : Bool) (m n : ℕ) → m ≡ (if b then suc n else n)
    → (if a then suc m else m) ≡ (if b then suc (if a then suc n else n) else (if a then suc n else n))
if_more true true m n p = ap suc p
if_more true false m n p = ap suc p
if_more false true m n p = p
if_more false false m n p = p

if_same : (b : Bool) (m n : ℕ) → m ≡ n → (if b then suc m else m) ≡ (if b then suc n else n)
if_same true m n p = ap suc p
if_same false m n p = p

-- a check that begins is one more of its epoch
pub of_epoch_more : (e : ℕ) (checks : List Held) (h : Held)
    → of_epoch e (checks ++ h ∷ []) ≡ (if e == h.asked.epoch then suc (of_epoch e checks) else of_epoch e checks)
of_epoch_more e [] h = refl
of_epoch_more e (x ∷ checks) h = if_more (e == x.asked.epoch) (e == h.asked.epoch) (of_epoch e (checks ++ h ∷ []))
    (of_epoch e checks) (of_epoch_more e checks h)

mapped : (e : ℕ) (f : Held → Held) (checks : List Held) → ((h : Held) → (f h).asked ≡ h.asked)
    → of_epoch e (map f checks) ≡ of_epoch e checks
mapped e f [] same = refl
mapped e f (x ∷ checks) same =
    ap (λ a. if e == a.epoch then suc (of_epoch e (map f checks)) else of_epoch e (map f checks)) (same x)
    ∙ if_same (e == x.asked.epoch) (of_epoch e (map f checks)) (of_epoch e checks) (mapped e f checks same)

step_asked : (b : Bool) (s : StepSays) (h : Held) → (if b then stepped s h else h).asked ≡ h.asked
step_asked true s h = refl
step_asked false s h = refl

-- a step leaves the count
pub of_epoch_stepped : (e n : ℕ) (s : StepSays) (checks : List Held)
    → of_epoch e (after_step n s checks) ≡ of_epoch e checks
of_epoch_stepped e n s checks = mapped e (λ h. if n == h.number then stepped s h else h) checks
    (λ h. step_asked (n == h.number) s h)

served_asked : (o : Option Answer) (h : Held) → (served_by o h).asked ≡ h.asked
served_asked None h = refl
served_asked (Some a) h = refl

-- so does the end of a question
pub of_epoch_ended : (e : ℕ) (ends : Ends) (checks : List Held)
    → of_epoch e (after_ends ends checks) ≡ of_epoch e checks
of_epoch_ended e ends checks = mapped e (served ends) checks (λ h. served_asked (option_and_then ends h.waits) h)

-- a check that is not there: there is none to leave out
pub none_at : (n : ℕ) (checks : List Held) → AreAbove n (map (λ h. h.number) checks) → without_check n checks ≡ checks
none_at n [] a = refl
none_at n (x ∷ checks) a =
    let below : n < x.number = a.0 in
    let other : (n == x.number) ≡ false = grind (arith, nat_tests) in
    rw other (ap (λ l. x ∷ l) (none_at n checks a.1))

-- a check that ends is one less, where the numbers rise
pub of_epoch_without : (e n : ℕ) (h : Held) (checks : List Held) → Rises (map (λ x. x.number) checks)
    → held_at n checks ≡ Some h
    → of_epoch e checks ≡ (if e == h.asked.epoch then suc (of_epoch e (without_check n checks))
    else of_epoch e (without_check n checks))
of_epoch_without e n h [] r f = absurd cc
of_epoch_without e n h (x ∷ checks) r f = (elim (n == x.number) as (λ y. (n == x.number) ≡ y
    → of_epoch e (x ∷ checks)
    ≡ (if e == h.asked.epoch then suc (of_epoch e (without_check n (x ∷ checks)))
    else of_epoch e (without_check n (x ∷ checks)))) [
      | true ↦ λ t.
          let f' = rw t at f in
          let same : x ≡ h = cc in
          let is : n ≡ x.number = number_is n x.number t in
          let rest : without_check n checks ≡ checks = none_at n checks (rw is r.0) in
          rw (t, rest, ← same) refl
      | false ↦ λ t. rw t (if_more (e == x.asked.epoch) (e == h.asked.epoch) (of_epoch e checks)
          (of_epoch e (without_check n checks)) (of_epoch_without e n h checks r.1 (rw t at f)))
    ]) refl
