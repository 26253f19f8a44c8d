-- What a step does to each class, and which events leave every class as it is.
use Rattle.std.specs.Prelude.{ℕ, suc, Bool, true, false, if◌then◌else◌}
use Rattle.std.specs.declared.option.Option.{Option}
use Rattle.sq_machine.specs.declared.entries.Event.{Event}
use Rattle.sq_machine.specs.declared.entries.Event.TheVariants.{Step, Started, StartFail, Line, Died, Act, Reconfigure}
use Rattle.sq_machine.specs.declared.entries.Told.{Told}
use Rattle.sq_machine.specs.declared.entries.Told.TheVariants as told
use Rattle.sq_machine.specs.FarmReadings.{is_put_for}
use Rattle.sq_machine.specs.KeptReadings.{after_took}
use Rattle.sq_machine.specs.Marks.{Put}
use Rattle.sq_machine.specs.StepRule.{StepSays}
use Rattle.sq_model.specs.ClassRows.{ClassRow, key_put, with_question}

-- the class at place c of epoch e with a question that is put for it, and as it is where the
-- question is put for another
abbrev pub with_put_for : ℕ → ℕ → ℕ → Option Put → ClassRow → ClassRow
with_put_for e c count p r = if is_put_for e c p then with_question (suc count) (key_put p) r else r

-- the class at place c of epoch e after a step that says so, where count questions were put; `here`
-- says whether the check is of that epoch
abbrev pub after_said : Bool → ℕ → ℕ → ℕ → StepSays → ClassRow → ClassRow
after_said here e c count s r = with_put_for e c count s.put
    (record r { kept = after_took here c s.took r.kept })

-- the event may change a class
abbrev pub touches_classes : Event → Bool
touches_classes (Step n) = true
touches_classes (Started e name) = true
touches_classes (StartFail e name) = true
touches_classes (Line k bytes) = true
touches_classes (Died k) = true
touches_classes Act = true
touches_classes (Reconfigure text) = true
touches_classes event = false

-- the act is a send or a start
abbrev pub is_farm_act : Told → Bool
is_farm_act (told.Send p q channel key) = true
is_farm_act (told.Start e name) = true
is_farm_act answer = false
