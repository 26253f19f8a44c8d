-- What a step says, where a check that waits waits on.
use Rattle.std.specs.Prelude.{◌≡◌, ℕ, List, None, Some}
use Rattle.std.specs.Option.{option_map_or}
use Rattle.std.specs.declared.option.Option.{Option}
use Rattle.sq_base.specs.declared.helpers.Answer.{Answer}
use Rattle.sq_machine.specs.declared.entries.Told.{Told}
use Rattle.sq_machine.specs.declared.entries.Told.TheVariants as told
use Rattle.sq_machine.specs.declared.refusals.Refusal.TheVariants as refusal
use Rattle.sq_rules.specs.declared.sights.Sight.{Sight}
use Rattle.sq_rules.specs.declared.values.Value.TheVariants as value
use Rattle.sq_rules.specs.Configurations.{Configuration}
use Rattle.sq_machine.specs.Machine.{step_next}
use Rattle.sq_machine.specs.Next.{Next, refuses}
use Rattle.sq_machine.specs.StepRule.{StepSays}
use Rattle.sq_rules.specs.Verdicts.{verdict_over}
use Rattle.sq_model.specs.CheckRows.{Held, held_at}
use Rattle.sq_checks.specs.OpenChecks.{says_waits}
use Rattle.sq_model.specs.declared.stepping.Stepped.{Stepped}
use Rattle.sq_model.specs.declared.stepping.Stepped.TheVariants as stepped
use Rattle.sq_model.specs.Answers.{name_in}
use Rattle.sq_model.specs.Changes.{after_step_of}
use Rattle.sq_model.specs.Says.{says_in}
use Rattle.sq_model.specs.States.{State}

-- a check that waits for a question waits on
abbrev pub says_of_wait : Option ℕ → StepSays → StepSays
says_of_wait None s = s
says_of_wait (Some q) s = says_waits q

-- what a step of an open check says at a moment: a check that waits waits on. Of a legal history it
-- is the rule of a step
abbrev pub says_now : State → ℕ → Held → StepSays
says_now s now h = says_of_wait h.waits (says_in s now h)

abbrev pub step_of : State → ℕ → ℕ → Option Held → Next
step_of s n now None = refuses (refusal.UnknownCheck n)
step_of s n now (Some h) = step_next s.puts (says_now s now h)

-- what the machine answers to a step
abbrev pub step_now : State → ℕ → ℕ → Next
step_now s n now = step_of s n now (held_at n s.checks)

-- the answer of a step of a check of epoch e, as it is told
abbrev pub stepped_told : State → ℕ → Stepped → Told
stepped_told s e (stepped.Took c) = told.Took (name_in s (record { epoch = e; class = c }))
stepped_told s e (stepped.Waits q) = told.Waits q
stepped_told s e stepped.Done = told.Done

-- the epoch of an open check
abbrev pub epoch_of : State → ℕ → ℕ
epoch_of s n = option_map_or (λ h. h.asked.epoch) (held_at n s.checks) 0

abbrev pub after_step_held : State → ℕ → ℕ → Option Held → State
after_step_held s n now None = s
after_step_held s n now (Some h) = after_step_of n h.asked.epoch (says_now s now h) now s

-- what a step makes of the state
abbrev pub after_step_now : State → ℕ → ℕ → State
after_step_now s n now = after_step_held s n now (held_at n s.checks)

-- over some answers and what some check sees, the rules of a configuration need an answer of this
-- acl
pub record NeedsAcl (config : Configuration) (acl : ℕ) : Type 0 where
  pub answers : List Answer
  pub sight : Sight
  pub key : List ℕ
  pub needs : verdict_over answers config sight ≡ value.Need acl key
