-- Acts as they are told, and what an act makes of the state.
use Rattle.std.specs.Prelude.{◌≡◌, ℕ, ◌≤◌, List, None, Some}
use Rattle.std.specs.declared.option.Option.{Option}
use Rattle.sq_machine.specs.declared.entries.Event.TheVariants as event
use Rattle.sq_machine.specs.declared.entries.Told.{Told}
use Rattle.sq_machine.specs.declared.entries.Told.TheVariants as told
use Rattle.sq_rules.specs.Configurations.{Configuration}
use Rattle.sq_machine.specs.Entries.{History}
use Rattle.sq_machine.specs.Machine.{next}
use Rattle.sq_machine.specs.Next.{nothing}
use Rattle.sq_machine.specs.Marking.{marked}
use Rattle.sq_machine.specs.Readings.{latest}
use Rattle.sq_epochs.specs.DueStates.{due_of}
use Rattle.sq_machine.specs.declared.acts.Act.{Act}
use Rattle.sq_machine.specs.declared.acts.Act.TheVariants as act
use Rattle.sq_machine.specs.DueActs.{Due, sends, starts, stops}
use Rattle.sq_model.specs.Answers.{name_in}
use Rattle.sq_model.specs.Changes.{after_send_at, after_start_at, after_stop_of}
use Rattle.sq_model.specs.Promises.{IsAnswered, StandsFor}
use Rattle.sq_model.specs.States.{State}
use Rattle.sq_engine.specs.EngineViews.{EngineView}

-- the next act of an engine
abbrev pub due_now : EngineView → Option Due
due_now v = due_of v.epochs

-- what an act makes of the state
abbrev pub after_due : Due → ℕ → State → State
after_due (stops k) now s = after_stop_of k now s
after_due (sends p sending) now s = after_send_at p now s
after_due (starts p) now s = after_start_at p now s

-- the same for the next act, where there is one
abbrev pub after_act : Option Due → ℕ → State → State
after_act None now s = s
after_act (Some d) now s = after_due d now s

-- the answer of a call, as a history tells it
abbrev pub told_of_act : State → Act → Told
told_of_act s (act.Stop k) = told.Stop k
told_of_act s (act.Send k q channel text) = told.Send k q channel text
told_of_act s (act.Start e c) = told.Start e (name_in s (record { epoch = e; class = c }))

-- what is promised of an act: for every legal history that the state stood for, it is the machine's
-- next answer, and the state that is left stands for the history with it; where there is no act,
-- the machine has none
abbrev pub IsActPromised : State → ℕ → Option Act → State → Type 0
IsActPromised s now None new = (configs : List Configuration) (h : History) → StandsFor configs h s
    → latest h ≤ now → next configs (marked configs h) now event.Act ≡ nothing
IsActPromised s now (Some a) new =
    (configs : List Configuration) (h : History) → StandsFor configs h s → latest h ≤ now
    → IsAnswered configs h now event.Act (told_of_act s a) new
