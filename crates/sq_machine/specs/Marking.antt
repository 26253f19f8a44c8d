-- In the statement: docs/STATEMENT.md lists which definitions.
-- A history marked: beside each entry what the rule of a step says there.
use Rattle.std.specs.Prelude.{ℕ, List, [], ◌∷◌, None}
use Rattle.sq_machine.specs.declared.entries.Event.{Event}
use Rattle.sq_machine.specs.declared.entries.Event.TheVariants.{Step}
use Rattle.sq_machine.specs.declared.entries.Told.TheVariants as told
use Rattle.sq_rules.specs.Configurations.{Configuration}
use Rattle.sq_machine.specs.Entries.{History, Noted}
use Rattle.sq_machine.specs.Marks.{Marked, Past}
use Rattle.sq_machine.specs.StepRule.{StepSays, step_says}

-- what the rule of a step says at an event, which is nothing unless it is a step
abbrev pub says_at : List Configuration → Past → ℕ → Event → StepSays
says_at configs m now (Step n) = step_says configs m n now
says_at configs m now event = record { answer = told.Fine; put = None; took = None }

-- an entry, with what the rule of a step says there
abbrev pub mark : List Configuration → Past → Noted → Marked
mark configs m e = let s = says_at configs m e.moment e.event in
    record { entry = e; put = s.put; took = s.took }

-- the history with its marks
abbrev pub marked : List Configuration → History → Past
marked configs [] = []
marked configs (e ∷ h) = let m = marked configs h in mark configs m e ∷ m
