-- What is promised of an answer, for every legal history that the machine's state stands for.
use Rattle.std.specs.Prelude.{◌≡◌, ℕ, List, ◌∷◌}
use Rattle.sq_machine.specs.declared.entries.Event.{Event}
use Rattle.sq_machine.specs.declared.entries.Told.{Told}
use Rattle.sq_rules.specs.Configurations.{Configuration, IsConfiguration}
use Rattle.sq_machine.specs.Entries.{History, entry_at}
use Rattle.sq_machine.specs.Machine.{Legal, next}
use Rattle.sq_machine.specs.Next.{gives}
use Rattle.sq_machine.specs.Marking.{marked}
use Rattle.sq_model.specs.Given.{EachOf}
use Rattle.sq_model.specs.Sources.{AreSourced}
use Rattle.sq_model.specs.States.{Stands, State}

-- the state stands for this history, which is legal over these configurations, and whose
-- reconfigurations hold their sources
pub record StandsFor (configs : List Configuration) (h : History) (s : State) : Type 0 where
  pub good : EachOf IsConfiguration configs
  pub legal : Legal configs h
  pub sourced : AreSourced configs h
  pub stands : Stands configs (marked configs h) s

-- after this history the machine answers so to an event at this moment, and then is in this state
pub record IsAnswered (configs : List Configuration) (h : History) (now : ℕ) (event : Event)
    (answer : Told) (s : State) : Type 0 where
  pub next_is : next configs (marked configs h) now event ≡ gives answer
  pub stands : StandsFor configs (entry_at now event answer ∷ h) s
