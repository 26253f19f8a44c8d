-- What a step and a take say of an open check, by its row.
use Rattle.std.proofs.Common.{◌≡◌, ℕ, List, true, Option, Some, None, refl, ap}
use Rattle.std.specs.Option.{unwrap_or}
use Rattle.sq_machine.specs.Checks.{Asked, ask_of, check_open}
use Rattle.sq_rules.specs.Configurations.{Configuration}
use Rattle.sq_machine.specs.Machine.{outcome_over}
use Rattle.sq_machine.specs.Marks.{Past, entries}
use Rattle.sq_machine.specs.StepRule.{says_asked_of, says_value, step_says, value_over}
use Rattle.sq_rules.specs.Verdicts.{outcome_so_far}
use Rattle.sq_machine.proofs.CheckLaws.{IsAsked, open_asked}
use Rattle.sq_model.specs.CheckRows.{held_of, unasked}

-- an open check as it began
pub asked_is : (configs : List Configuration) (m : Past) (n : ℕ) → check_open (entries m) n ≡ true
    → ask_of (entries m) n ≡ Some (held_of configs m n).asked
asked_is configs m n opened = by (ask_of (entries m) n) (open_asked (entries m) n opened)
  where
    by : (o : Option Asked) → IsAsked o → o ≡ Some (unwrap_or o unasked)
    by None a = let is = a.is in absurd (cc)
    by (Some x) a = refl

-- what a step of it says: by what it comes to over the answers that it took
pub step_held : (configs : List Configuration) (m : Past) (n now : ℕ) → check_open (entries m) n ≡ true
    → step_says configs m n now
    ≡ says_value configs m (held_of configs m n).asked.epoch now
    (value_over configs (held_of configs m n).asked (held_of configs m n).answers)
step_held configs m n now opened = ap (says_asked_of configs m now (held_of configs m n).answers)
    (asked_is configs m n opened)

-- its outcome, when it is taken
pub outcome_held : (configs : List Configuration) (m : Past) (n : ℕ) → check_open (entries m) n ≡ true
    → outcome_over configs m n (ask_of (entries m) n)
    ≡ outcome_so_far (value_over configs (held_of configs m n).asked (held_of configs m n).answers)
outcome_held configs m n opened = ap (outcome_over configs m n) (asked_is configs m n opened)
