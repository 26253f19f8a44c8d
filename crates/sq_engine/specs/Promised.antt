-- What is promised of the result of a call: for every legal history that the machine's state stood
-- for, it is the machine's next answer, and the state that is left stands for the history with this
-- entry.
use Rattle.std.specs.Prelude.{◌≡◌, ℕ, ℤ, suc, ◌≤◌, List, [], ◌∷◌, Result, Ok, Err, Some}
use Rattle.sq_machine.specs.declared.entries.Event.{Event}
use Rattle.sq_machine.specs.declared.entries.Event.TheVariants.{Reconfigure}
use Rattle.sq_machine.specs.declared.entries.Event.TheVariants as event
use Rattle.sq_machine.specs.declared.entries.Told.{Told}
use Rattle.sq_machine.specs.declared.entries.Told.TheVariants as told
use Rattle.sq_machine.specs.declared.refusals.Refusal.{Refusal}
use Rattle.sq_machine.specs.declared.refusals.Refusal.TheVariants as refusal
use Rattle.sq_rules.specs.Classes.{Class}
use Rattle.sq_rules.specs.Configurations.{Configuration, IsConfiguration}
use Rattle.sq_machine.specs.DueActs.{ClassId}
use Rattle.sq_machine.specs.Entries.{History, entry_at}
use Rattle.sq_machine.specs.Epochs.{class_at, config_of}
use Rattle.sq_machine.specs.Machine.{next}
use Rattle.sq_machine.specs.Next.{refuses}
use Rattle.sq_machine.specs.Marking.{marked}
use Rattle.sq_machine.specs.Readings.{latest}
use Rattle.sq_model.specs.Given.{EachOf}
use Rattle.sq_model.specs.Answers.{name_in}
use Rattle.sq_model.specs.Promises.{IsAnswered, StandsFor}
use Rattle.sq_model.specs.States.{State}

-- a call answers the event at this moment as it is told, and leaves the new state; where memory is
-- wanting, nothing is promised
abbrev pub IsPromised : {A : Type 0} → (A → Told) → State → ℕ → Event → Result A Refusal → State
    → Type 0
IsPromised told s now event (Ok a) new = (configs : List Configuration) (h : History)
    → StandsFor configs h s → latest h ≤ now → IsAnswered configs h now event (told a) new
IsPromised told s now event (Err refusal.WantOfMemory) new = Unit {0}
IsPromised told s now event (Err r) new = (configs : List Configuration) (h : History)
    → StandsFor configs h s → latest h ≤ now → next configs (marked configs h) now event ≡ refuses r

-- the same of an event that names the class at a place: where it is refused, for each class that
-- stands there
abbrev pub IsPromisedAt : {A : Type 0} → (A → Told) → State → ℕ → (ℕ → List ℕ → Event) → ClassId
    → Result A Refusal → State → Type 0
IsPromisedAt told s now event p (Ok a) new =
    (configs : List Configuration) (h : History) → StandsFor configs h s → latest h ≤ now
    → IsAnswered configs h now (event p.epoch (name_in s p)) (told a) new
IsPromisedAt told s now event p (Err refusal.WantOfMemory) new = Unit {0}
IsPromisedAt told s now event p (Err r) new =
    (configs : List Configuration) (h : History) (class : Class) → StandsFor configs h s
    → latest h ≤ now → class_at configs p.epoch p.class ≡ Some class
    → next configs (marked configs h) now (event p.epoch class.name) ≡ refuses r

-- the same of a reconfiguration: its answer, where this is the configuration of the next epoch
abbrev pub IsPromisedNext : {A : Type 0} → (A → Told) → State → ℕ → Configuration → Result A Refusal
    → State → Type 0
IsPromisedNext told s now config (Ok a) new =
    (configs : List Configuration) (h : History) → StandsFor configs h s → latest h ≤ now
    → config_of configs (suc s.current) ≡ Some config
    → IsAnswered configs h now (Reconfigure config.source) (told a) new
IsPromisedNext told s now config (Err refusal.WantOfMemory) new = Unit {0}
IsPromisedNext told s now config (Err r) new =
    (configs : List Configuration) (h : History) → StandsFor configs h s → latest h ≤ now
    → next configs (marked configs h) now (Reconfigure config.source) ≡ refuses r

-- the state stands for the beginning with this configuration, at this offset and moment
abbrev pub IsBegun : Configuration → ℤ → ℕ → State → Type 0
IsBegun config offset now s =
    (configs : List Configuration) → EachOf IsConfiguration configs
    → config_of configs 1 ≡ Some config
    → StandsFor configs (entry_at now (event.Begin offset) (told.Epoch 1) ∷ []) s
