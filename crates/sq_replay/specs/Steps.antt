-- What a line of a script does to the history.
use Rattle.std.specs.Prelude.{◌≡◌, ℕ, ◌≤◌, List, ◌∷◌, true, false, Some, Ok}
use Rattle.sq_machine.specs.declared.entries.Event.{Event}
use Rattle.sq_machine.specs.declared.entries.Event.TheVariants.{Reconfigure}
use Rattle.sq_machine.specs.declared.entries.Told.{Told}
use Rattle.sq_rules.specs.ConfText.{conf_result}
use Rattle.sq_rules.specs.Configurations.{Configuration}
use Rattle.sq_machine.specs.Entries.{History, entry_at}
use Rattle.sq_machine.specs.Events.{begins_epoch, has_target, is_begin}
use Rattle.sq_machine.specs.Machine.{next}
use Rattle.sq_machine.specs.Next.{gives}
use Rattle.sq_machine.specs.Marking.{marked}
use Rattle.sq_machine.specs.Readings.{latest}
use Rattle.sq_replay.specs.RunText.{Shelf, acts}

-- the file of this name has this text, which gives a configuration
pub record IsNamed (files : Shelf) (e : ℕ) (name text : List ℕ) : Type 0 where
  pub config : Configuration
  pub text_is : files e name ≡ Some text
  pub gives_it : conf_result text ≡ Ok config

-- what is entered of an event of a script: of a reconfiguration the text of its file, and of every
-- other the event
abbrev pub IsEntered : Shelf → ℕ → Event → Event → Type 0
IsEntered files e (Reconfigure name) entered = (text : List ℕ) × (entered ≡ Reconfigure text)
    × IsNamed files e name text
IsEntered files e event entered = (entered ≡ event) × (begins_epoch event ≡ false)

-- the history goes on with the event's entry, whose answer is the machine's next, and with the acts
-- that are due then
pub record IsStep (files : Shelf) (configs : List Configuration) (h : History) (e : ℕ)
    (event : Event) (t : History) : Type 0 where
  pub entered : Event
  pub moment : ℕ
  pub answer : Told
  pub entered_is : IsEntered files e event entered
  pub begins_none : is_begin entered ≡ false
  pub formed : has_target entered ≡ true
  pub late : latest h ≤ moment
  pub next_is : next configs (marked configs h) moment entered ≡ gives answer
  pub history_is : acts configs (entry_at moment entered answer ∷ h) ≡ t
