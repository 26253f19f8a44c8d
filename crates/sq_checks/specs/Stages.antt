-- How far an open check has come.
use Rattle.std.specs.Prelude.{◌≡◌, ℕ, List, Bool, true, false, ◌==◌, if◌then◌else◌, Some, None, IfSome}
use Rattle.std.specs.declared.option.Option.{Option}
use Rattle.sq_base.specs.Distinct.{has_answer}
use Rattle.sq_base.specs.declared.helpers.Answer.{Answer}
use Rattle.sq_base.specs.declared.helpers.What.{What}
use Rattle.sq_rules.specs.Configurations.{Configuration}
use Rattle.sq_rules.specs.Keys.{key_text}
use Rattle.sq_rules.specs.Sights.{unversioned_sight}
use Rattle.sq_rules.specs.Verdicts.{verdict_over}
use Rattle.sq_rules.specs.declared.outcomes.Outcome.{Outcome}
use Rattle.sq_rules.specs.declared.sights.Sight.{Sight}
use Rattle.sq_rules.specs.declared.values.Value.TheVariants as value
use Rattle.sq_machine.specs.StepRule.{class_of_acl}
use Rattle.sq_model.specs.declared.stepping.Stepped.{Stepped}
use Rattle.sq_model.specs.declared.stepping.Stepped.TheVariants as told
use Rattle.sq_checks.specs.Givens.{looks_over}
use Rattle.sq_checks.specs.declared.stages.Need.{Need}
use Rattle.sq_checks.specs.declared.stages.CheckStage.{CheckStage}
use Rattle.sq_checks.specs.declared.stages.CheckStage.TheVariants as stage

-- the question that is waited for
abbrev pub question_in : CheckStage → Option ℕ
question_in (stage.Waits n) = Some n.question
question_in s = None

-- what is waited for
abbrev pub need_in : CheckStage → Option Need
need_in (stage.Waits n) = Some n
need_in s = None

-- the answer that came and is not put among the others
abbrev pub came_in : CheckStage → Option Answer
came_in (stage.Came a) = Some a
came_in s = None

-- the outcome, where a step said that there is one
abbrev pub decided_in : CheckStage → Option Outcome
decided_in (stage.Done o) = Some o
decided_in s = None

-- a step said that the check is done
abbrev pub is_done_in : CheckStage → Bool
is_done_in (stage.Done o) = true
is_done_in s = false

-- no answer is left to be put among the others
abbrev pub is_settled : CheckStage → Bool
is_settled (stage.Came a) = false
is_settled s = true

-- and it is not done
abbrev pub is_idle : CheckStage → Bool
is_idle stage.Ready = true
is_idle (stage.Came a) = false
is_idle (stage.Waits n) = true
is_idle (stage.Done o) = false

-- the answer that the end of a question gives at a moment
abbrev pub given : What → ℕ → Need → Answer
given w now n = record {
  class = n.class;
  key = n.key;
  what = w;
  question = Some n.question;
  date = now;
  taken = now;
}

-- the stage after a question ended with this: a check that waits for it is given its answer
abbrev pub ended_stage : ℕ → What → ℕ → CheckStage → CheckStage
ended_stage q w now stage.Ready = stage.Ready
ended_stage q w now (stage.Came a) = stage.Came a
ended_stage q w now (stage.Waits n) = if n.question == q then stage.Came (given w now n)
    else stage.Waits n
ended_stage q w now (stage.Done o) = stage.Done o

-- the stage after a step that asked for this key of this class: what it took has come, or it waits
-- for what it was told to
abbrev pub noted_stage : Option Answer → Option ℕ → ℕ → List ℕ → CheckStage
noted_stage (Some a) q class key = stage.Came a
noted_stage None (Some q) class key = stage.Waits
    (record { question = q; class = class; key = key })
noted_stage None None class key = stage.Ready

-- a step takes an answer, or is told to wait
abbrev pub is_noted : Option Answer → Stepped → Bool
is_noted took (told.Took c) = true
is_noted None (told.Waits q) = true
is_noted (Some a) (told.Waits q) = false
is_noted took told.Done = false

-- what came is new, what is waited for is new, and what is done is the verdict
abbrev pub IsStage : Configuration → Sight → List Answer → CheckStage → Type 0
IsStage config sight answers stage.Ready = Unit {0}
IsStage config sight answers (stage.Came a) = has_answer answers a.class a.key ≡ false
IsStage config sight answers (stage.Waits n) = has_answer answers n.class n.key ≡ false
IsStage config sight answers (stage.Done o) = verdict_over answers config (unversioned_sight sight)
    ≡ value.Verdict o

-- a check that waits, was given an answer or is done looked at as many facts as the walk over its
-- answers, without the one that came, has leaf acls
abbrev pub IsLooked : Configuration → Sight → List Answer → ℕ → CheckStage → Type 0
IsLooked config sight answers looks stage.Ready = Unit {0}
IsLooked config sight answers looks (stage.Came a) = looks ≡ looks_over answers config sight
IsLooked config sight answers looks (stage.Waits n) = looks ≡ looks_over answers config sight
IsLooked config sight answers looks (stage.Done o) = looks ≡ looks_over answers config sight

-- the external acl at this place is of this class and key
abbrev pub IsOf : Configuration → Sight → ℕ → ℕ → List ℕ → Type 0
IsOf config sight acl class key = (class_of_acl config.acls acl ≡ Some class)
    × (key_text config acl sight ≡ key)

-- what is waited for, and the answer that came, is of the class and key of the acl for which was
-- asked last, if it is known
abbrev pub HasAsked : Configuration → Sight → Option ℕ → CheckStage → Type 0
HasAsked config sight asks stage.Ready = Unit {0}
HasAsked config sight asks (stage.Came a) = IfSome asks (λ acl. IsOf config sight acl a.class a.key)
HasAsked config sight asks (stage.Waits n) = IfSome asks
    (λ acl. IsOf config sight acl n.class n.key)
HasAsked config sight asks (stage.Done o) = Unit {0}
