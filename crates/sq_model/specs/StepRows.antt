-- The rule of a step by the row of the class that is asked.
use Rattle.std.specs.Prelude.{ℕ, suc, List, Some, None, is_some}
use Rattle.std.specs.declared.option.Option.{Option}
use Rattle.sq_rules.specs.Classes.{Class}
use Rattle.sq_machine.specs.Farms.{full}
use Rattle.sq_machine.specs.Marks.{Put}
use Rattle.sq_machine.specs.OpenLookups.{pending_in}
use Rattle.sq_machine.specs.StepRule.{StepSays, says_need}
use Rattle.sq_machine.specs.declared.entries.Told.{Told}
use Rattle.sq_machine.specs.declared.entries.Told.TheVariants as told
use Rattle.sq_model.specs.ClassRows.{ClassRow, with_question, with_took}
use Rattle.sq_model.specs.declared.stepping.StepEffect.{StepEffect}
use Rattle.sq_model.specs.declared.stepping.Stepped.{Stepped}
use Rattle.sq_model.specs.declared.stepping.Stepped.TheVariants as stepped

-- what a step says that needs this key of the class at place c of epoch e, where count questions
-- were put
abbrev pub says_of_row : Class → ℕ → ℕ → List ℕ → ℕ → ℕ → ClassRow → StepSays
says_of_row class e c key now count r =
    says_need class (record { epoch = e; class = c; key = key }) now r.kept
    (pending_in key r.lookups) (full r.stock) count

abbrev pub with_put : ℕ → Option Put → ClassRow → ClassRow
with_put count None r = r
with_put count (Some p) r = with_question (suc count) p.key r

-- the class at place c after a step of a check of its epoch that says so, where the step asked this
-- class
abbrev pub after_says : ℕ → ℕ → StepSays → ClassRow → ClassRow
after_says c count s r = with_put count s.put (with_took c s.took r)

-- the answer of a step as it is told, where the class has this name
abbrev pub told_of : List ℕ → Stepped → Told
told_of name (stepped.Took c) = told.Took name
told_of name (stepped.Waits q) = told.Waits q
told_of name stepped.Done = told.Done

-- the answer of a step with the place of the class that is asked
abbrev pub stepped_of : ℕ → Told → Stepped
stepped_of c (told.Waits q) = stepped.Waits q
stepped_of c told.Done = stepped.Done
stepped_of c answer = stepped.Took c

-- the question that a step said to wait for
abbrev pub question_told : Stepped → Option ℕ
question_told (stepped.Took c) = None
question_told (stepped.Waits q) = Some q
question_told stepped.Done = None

-- what a step says, as the engine's parts hand it up
abbrev pub said_of : ℕ → StepSays → StepEffect
said_of c s = record { stepped = stepped_of c s.answer; took = s.took; put = is_some s.put }
