-- What a step says, and what a check comes to, by the machine's state.
use Rattle.std.specs.Prelude.{ℕ, List, Some, None, false, slice_get}
use Rattle.std.specs.Option.{option_and_then, option_map_or}
use Rattle.std.specs.declared.option.Option.{Option}
use Rattle.sq_rules.specs.declared.outcomes.Outcome.{Outcome}
use Rattle.sq_rules.specs.declared.outcomes.Why.TheVariants as why
use Rattle.sq_rules.specs.declared.values.Value.{Value}
use Rattle.sq_rules.specs.declared.values.Value.TheVariants as value
use Rattle.sq_rules.specs.Classes.{Class}
use Rattle.sq_machine.specs.StepRule.{StepSays, class_of_acl, says_done}
use Rattle.sq_rules.specs.Verdicts.{outcome_so_far, verdict_over}
use Rattle.sq_model.specs.CheckRows.{Held}
use Rattle.sq_model.specs.ClassRows.{ClassRow}
use Rattle.sq_model.specs.StepRows.{says_of_row}
use Rattle.sq_model.specs.States.{State}

-- the class at a place of a live epoch
abbrev pub class_in : State → ℕ → ℕ → Option Class
class_in s e c = option_and_then (λ config. slice_get config.classes c) (s.config e)

-- what a check comes to over its answers so far
abbrev pub value_in : State → Held → Value
value_in s h = option_map_or (λ config. verdict_over h.answers config h.asked.sight)
    (s.config h.asked.epoch) (value.Verdict (record { allow = false; why = why.Empty }))

-- the outcome that it would have
abbrev pub outcome_in : State → Held → Outcome
outcome_in s h = outcome_so_far (value_in s h)

abbrev pub says_class_in : State → ℕ → ℕ → ℕ → List ℕ → Option Class → Option ClassRow → StepSays
says_class_in s now e c key (Some class) (Some r) = says_of_row class e c key now s.puts r
says_class_in s now e c key class r = says_done

abbrev pub says_place_in : State → ℕ → ℕ → List ℕ → Option ℕ → StepSays
says_place_in s now e key None = says_done
says_place_in s now e key (Some c) = says_class_in s now e c key (class_in s e c) (s.row e c)

abbrev pub says_value_in : State → ℕ → ℕ → Value → StepSays
says_value_in s now e (value.Verdict o) = says_done
says_value_in s now e (value.Need acl key) = says_place_in s now e key
    (option_and_then (λ config. class_of_acl config.acls acl) (s.config e))

-- what a step of an open check says at a moment
abbrev pub says_in : State → ℕ → Held → StepSays
says_in s now h = says_value_in s now h.asked.epoch (value_in s h)
