-- What a call of a desk says to those who make it, by what it leaves.
use Rattle.std.specs.Prelude.{◌≡◌, ℕ, List, min, Some, IsSome, Result, OnOk}
use Rattle.std.specs.Option.{option_map}
use Rattle.std.specs.declared.option.Option.{Option}
use Rattle.sq_outside.specs.Causes.{count_limit}
use Rattle.sq_rules.specs.Configurations.{Configuration}
use Rattle.sq_machine.specs.declared.entries.Event.{Event}
use Rattle.sq_machine.specs.declared.entries.Event.TheVariants as event
use Rattle.sq_machine.specs.declared.entries.Told.{Told}
use Rattle.sq_machine.specs.declared.entries.Told.TheVariants as told
use Rattle.sq_machine.specs.DueActs.{ClassId}
use Rattle.sq_machine.specs.Entries.{History}
use Rattle.sq_channel.specs.declared.replies.Got.{Got}
use Rattle.sq_machine.specs.declared.acts.Act.{Act}
use Rattle.sq_model.specs.Says.{class_in}
use Rattle.sq_engine.specs.EngineViews.{state_of}
use Rattle.sq_calls.specs.declared.faults.DeskFault.{DeskFault}
use Rattle.sq_calls.specs.Legality.{Beginning, IsNameOf}
use Rattle.sq_calls.specs.Telling.{CountsLine, CountsReconfigured, CountsRefusal, IsReread, IsUnrefused, MayAct, Notes, NotesAs, Refuses, RefusesAt, got_told, reports_stop}
use Rattle.sq_notes.specs.Calling.{DeskView}

-- the count of refusals as it is shown
abbrev pub shown : DeskView → ℕ
shown v = min v.notes.refusals count_limit

-- the words of the program of a class, as they are shown
abbrev pub programs_of : DeskView → ℕ → ℕ → Option (Option (List (List ℕ)))
programs_of v epoch class = Some
    (option_map (λ c. c.words) (class_in (state_of v.engine) epoch class))

-- a call of this event at a moment, whose answer is told so
pub record Tells {A : Type 0} (first : Beginning) (moment : ℕ) (tell : A → Told) (called : Event)
    (old new : DeskView) (result : Result A DeskFault) : Type 0 where
  pub told : Notes (Some first) moment tell (λ x. x ≡ called) old.notes.history
      new.notes.history result
  pub refuses : Refuses (Some first) moment called old.notes.history result
  pub refused : CountsRefusal (shown old) (shown new) result
  pub stopped : new.notes.stopped ≡ reports_stop result
  pub made : Some new.notes.made ≡ Some old.notes.made

-- the same where the answer is as R says
pub record TellsAs {A : Type 0} (first : Beginning) (moment : ℕ) (R : A → Told → Type 0)
    (called : Event) (old new : DeskView) (result : Result A DeskFault) : Type 0 where
  pub told : NotesAs (Some first) moment R (λ x. x ≡ called) old.notes.history
      new.notes.history result
  pub refuses : Refuses (Some first) moment called old.notes.history result
  pub refused : CountsRefusal (shown old) (shown new) result
  pub made : Some new.notes.made ≡ Some old.notes.made

-- this event, with the name that the class at a place has
abbrev pub IsOfClass : Beginning → Option History → (List ℕ → Event) → ClassId → Event → Type 0
IsOfClass first old event_of place called = (name : List ℕ)
    × IsNameOf (Some first) old place.epoch place.class name × (called ≡ event_of name)

-- the same of an event that names a class
pub record TellsClass {A : Type 0} (first : Beginning) (moment : ℕ) (tell : A → Told)
    (event_of : List ℕ → Event) (place : ClassId) (old new : DeskView)
    (result : Result A DeskFault) : Type 0 where
  pub told : Notes (Some first) moment tell (IsOfClass first old.notes.history event_of place)
      old.notes.history new.notes.history result
  pub refuses : RefusesAt (Some first) moment event_of place.epoch place.class old.notes.history
      result
  pub refused : CountsRefusal (shown old) (shown new) result
  pub stopped : new.notes.stopped ≡ reports_stop result
  pub made : Some new.notes.made ≡ Some old.notes.made

-- a call for a line of a process
pub record TellsLine (first : Beginning) (moment proc : ℕ) (line : List ℕ) (old new : DeskView)
    (result : Result Got DeskFault) : Type 0 where
  pub told : Notes (Some first) moment got_told (λ x. x ≡ event.Line proc line) old.notes.history
      new.notes.history result
  pub refuses : Refuses (Some first) moment (event.Line proc line) old.notes.history result
  pub refused : CountsLine (shown old) (shown new) result
  pub stopped : new.notes.stopped ≡ reports_stop result
  pub made : Some new.notes.made ≡ Some old.notes.made

-- a call for the next act
pub record TellsAct (first : Beginning) (moment : ℕ) (old new : DeskView)
    (result : Result (Option Act) DeskFault) : Type 0 where
  pub told : MayAct (Some first) moment old.notes.history new.notes.history result
  pub refuses : Refuses (Some first) moment event.Act old.notes.history result
  pub unrefused : IsUnrefused result
  pub refused : CountsRefusal (shown old) (shown new) result
  pub stopped : new.notes.stopped ≡ reports_stop result
  pub made : Some new.notes.made ≡ Some old.notes.made
  pub programs : programs_of new ≡ programs_of old

-- a call for another configuration
pub record TellsReread (first : Beginning) (config : Configuration) (moment : ℕ)
    (old new : DeskView) (result : Result ℕ DeskFault) : Type 0 where
  pub told : Notes (Some first) moment told.Epoch (IsReread config) old.notes.history
      new.notes.history result
  pub refuses : Refuses (Some first) moment (event.Reconfigure config.source) old.notes.history
      result
  pub refused : CountsRefusal (shown old) (shown new) result
  pub made : CountsReconfigured (Some old.notes.made) (Some new.notes.made) result
  pub counting : OnOk result (IsSome (Some old.notes.made))
