-- What a call of a desk answers and leaves.
use Rattle.std.specs.Prelude.{◌≡◌, ℕ, ◌+◌, ◌-◌, List, suc, ◌≤◌, length, true, false, Result, Ok, Err, Some, None}
use Rattle.std.specs.Option.{option_map}
use Rattle.std.specs.declared.option.Option.{Option}
use Rattle.sq_base.specs.declared.helpers.Cause.TheVariants as cause
use Rattle.sq_outside.specs.Causes.{Rose, raised}
use Rattle.sq_machine.specs.declared.entries.Event.{Event}
use Rattle.sq_machine.specs.declared.entries.Event.TheVariants as event
use Rattle.sq_machine.specs.declared.entries.Told.{Told}
use Rattle.sq_machine.specs.declared.entries.Told.TheVariants as told
use Rattle.sq_machine.specs.declared.refusals.Refusal.{Refusal}
use Rattle.sq_machine.specs.declared.refusals.Refusal.TheVariants as refusal
use Rattle.sq_rules.specs.Configurations.{Configuration}
use Rattle.sq_machine.specs.DueActs.{ClassId}
use Rattle.sq_machine.specs.Entries.{History, Noted, entry_at}
use Rattle.sq_machine.specs.Next.{Next, gives, refuses}
use Rattle.sq_machine.specs.Readings.{latest}
use Rattle.sq_channel.specs.declared.replies.Got.{Got}
use Rattle.sq_channel.specs.declared.replies.Got.TheVariants as got
use Rattle.sq_epochs.specs.DueStates.{told_act}
use Rattle.sq_machine.specs.declared.acts.Act.{Act}
use Rattle.sq_model.specs.Answers.{line_answer, reconfigure_answer}
use Rattle.sq_model.specs.Changes.{after_end_at, after_reconfigured}
use Rattle.sq_model.specs.Promises.{IsAnswered, StandsFor}
use Rattle.sq_model.specs.States.{IsSame, State}
use Rattle.sq_engine.specs.Acting.{after_act, due_now, told_of_act}
use Rattle.sq_engine.specs.EngineViews.{EngineView, state_of}
use Rattle.sq_engine.specs.Lines.{IsLineDone, got_told}
use Rattle.sq_journal.specs.Noting.{with_entry}
use Rattle.sq_calls.specs.declared.faults.DeskFault.{DeskFault}
use Rattle.sq_calls.specs.declared.faults.DeskFault.TheVariants as fault
use Rattle.sq_notes.specs.Noting.{Notebook, counted}

-- the machine, and its journal
pub record DeskView : Type 0 where
  pub engine : EngineView
  pub notes : Notebook

abbrev pub desk_of : EngineView → Notebook → DeskView
desk_of engine notes = record { engine = engine; notes = notes }

-- the machine gave this entry's answer and is in this state, and the entry is in the journal
pub record HasEntered (next : Next) (entry : Noted) (after : State)
    (old new : DeskView) : Type 0 where
  pub going : old.notes.stopped ≡ false
  pub next_is : next ≡ gives entry.answer
  pub same : IsSame (state_of new.engine) after
  pub notes : new.notes ≡ record old.notes
      { history = with_entry entry old.notes.history; spare = new.notes.spare }

-- a note had failed before: the refusal is counted, and nothing else changes
pub record WasStopped (old new : DeskView) : Type 0 where
  pub was : old.notes.stopped ≡ true
  pub engine : new.engine ≡ old.engine
  pub notes : new.notes ≡ counted old.notes

-- the machine refuses the event: the refusal is counted, and nothing is noted
pub record HasRefused (next : Next) (why : Refusal) (old new : DeskView) : Type 0 where
  pub going : old.notes.stopped ≡ false
  pub next_is : next ≡ refuses why
  pub same : IsSame (state_of new.engine) (state_of old.engine)
  pub notes : new.notes ≡ record old.notes
      { spare = new.notes.spare; refusals = raised old.notes.refusals }

-- the machine is in this state, but the note failed: the desk is stopped, and the journal is as it
-- was
pub record HasFailed (after : State) (old new : DeskView) : Type 0 where
  pub going : old.notes.stopped ≡ false
  pub same : IsSame (state_of new.engine) after
  pub rose : Rose old.notes.faults new.notes.faults
  pub notes : new.notes ≡ record old.notes {
    spare = new.notes.spare;
    faults = new.notes.faults;
    stopped = true;
    refusals = raised old.notes.refusals;
  }

-- memory was wanting: nothing changes but the places
pub record HasWanted (old new : DeskView) : Type 0 where
  pub going : old.notes.stopped ≡ false
  pub same : IsSame (state_of new.engine) (state_of old.engine)
  pub notes : new.notes ≡ record old.notes { spare = new.notes.spare }

-- a call makes this event at this moment, to which the machine answers `next`, and is in the state
-- `after` then
abbrev pub Makes : {A : Type 0} → (A → Told) → Next → ℕ → Event → State → DeskView
    → Result A DeskFault → DeskView → Type 0
Makes told next now event after old (Ok a) new =
    HasEntered next (entry_at now event (told a)) after old new
Makes told next now event after old (Err fault.Stopped) new = WasStopped old new
Makes told next now event after old (Err (fault.Engine refusal.WantOfMemory)) new = ⊥
Makes told next now event after old (Err (fault.Engine why)) new = HasRefused next why old new
Makes told next now event after old (Err fault.JournalFault) new = HasFailed after old new
Makes told next now event after old (Err fault.WantOfMemory) new = HasWanted old new

-- so many places there were before the entry was noted; and where nothing was noted, no fewer than
-- before
abbrev pub Leaves : {A : Type 0} → ℕ → Notebook → Result A DeskFault → Notebook → Type 0
Leaves n old (Ok a) new = n ≤ suc new.spare
Leaves n old (Err fault.JournalFault) new = Unit {0}
Leaves n old (Err f) new = old.spare ≤ new.spare

-- how many closes and deaths may come
abbrev pub load_of : EngineView → ℕ
load_of v = length v.conns.links + length v.epochs.homes

-- a process that lives died
abbrev pub after_died_of : ℕ → ℕ → State → Option ClassId → State
after_died_of proc now s None = s
after_died_of proc now s (Some place) = after_end_at place proc cause.Died false now s

abbrev pub after_died : ℕ → ℕ → State → State
after_died proc now s = after_died_of proc now s (s.home proc)

-- no act was due, and nothing is noted
pub record HasIdled (old new : DeskView) : Type 0 where
  pub going : old.notes.stopped ≡ false
  pub none : due_now old.engine ≡ None
  pub stay : old.notes.spare ≤ new.notes.spare
  pub engine : new.engine ≡ old.engine
  pub notes : new.notes ≡ record old.notes { spare = new.notes.spare }

-- this act was due, it was made, and it is in the journal
pub record HasActed (now : ℕ) (act : Act) (old new : DeskView) : Type 0 where
  pub going : old.notes.stopped ≡ false
  pub act_is : option_map told_act (due_now old.engine) ≡ Some act
  pub same : IsSame (state_of new.engine) (after_act (due_now old.engine) now (state_of old.engine))
  pub notes : new.notes ≡ record old.notes {
    history = with_entry (entry_at now event.Act (told_of_act (state_of old.engine) act))
        old.notes.history;
    spare = new.notes.spare;
  }

-- the answer that tells of the act that is due, if one is
abbrev pub told_due : EngineView → Option Told
told_due v = option_map (λ a. told_of_act (state_of v) a) (option_map told_act (due_now v))

-- a call for the next act
abbrev pub Acts : ℕ → DeskView → Result (Option Act) DeskFault → DeskView → Type 0
Acts now old (Ok None) new = HasIdled old new
Acts now old (Ok (Some act)) new = HasActed now act old new
Acts now old (Err fault.Stopped) new = WasStopped old new
Acts now old (Err (fault.Engine why)) new = ⊥
Acts now old (Err fault.JournalFault) new = HasFailed
    (after_act (due_now old.engine) now (state_of old.engine)) old new
Acts now old (Err fault.WantOfMemory) new = HasWanted old new

-- refusals are counted where a line ends its process
abbrev pub after_got : Got → ℕ → ℕ
after_got (got.Reply q reply) n = n
after_got got.Bad n = raised n
after_got got.Stray n = raised n

-- a line came to this, and its entry is in the journal
pub record HasRead (now proc : ℕ) (line : List ℕ) (came : Got) (old new : DeskView) : Type 0 where
  pub going : old.notes.stopped ≡ false
  pub next_is : line_answer (state_of old.engine) proc line ≡ gives (got_told came)
  pub done : IsLineDone (state_of old.engine) proc came now (state_of new.engine)
  pub notes : new.notes ≡ record old.notes {
    history = with_entry (entry_at now (event.Line proc line) (got_told came)) old.notes.history;
    spare = new.notes.spare;
    refusals = after_got came old.notes.refusals;
  }

-- a line came to something, but the note failed: the desk is stopped, and the journal is as it was
pub record HasMisread (now proc : ℕ) (line : List ℕ) (old new : DeskView) : Type 0 where
  pub got : Got
  pub going : old.notes.stopped ≡ false
  pub next_is : line_answer (state_of old.engine) proc line ≡ gives (got_told got)
  pub done : IsLineDone (state_of old.engine) proc got now (state_of new.engine)
  pub rose : Rose old.notes.faults new.notes.faults
  pub notes : new.notes ≡ record old.notes {
    spare = new.notes.spare;
    faults = new.notes.faults;
    stopped = true;
    refusals = raised old.notes.refusals;
  }

-- a call for a line of a process
abbrev pub Reads : ℕ → ℕ → List ℕ → DeskView → Result Got DeskFault → DeskView → Type 0
Reads now proc line old (Ok came) new = HasRead now proc line came old new
Reads now proc line old (Err fault.Stopped) new = WasStopped old new
Reads now proc line old (Err (fault.Engine refusal.WantOfMemory)) new = ⊥
Reads now proc line old (Err (fault.Engine why)) new =
    HasRefused (line_answer (state_of old.engine) proc line) why old new
Reads now proc line old (Err fault.JournalFault) new = HasMisread now proc line old new
Reads now proc line old (Err fault.WantOfMemory) new = HasWanted old new

-- what is promised of a line that was read
abbrev pub IsLinePromised : State → ℕ → ℕ → List ℕ → Result Got DeskFault → State → Type 0
IsLinePromised s now proc line (Ok came) t = (configs : List Configuration) (h : History)
    → StandsFor configs h s → latest h ≤ now
    → IsAnswered configs h now (event.Line proc line) (got_told came) t
IsLinePromised s now proc line (Err f) t = Unit {0}

-- the machine went on with this configuration in this epoch, the entry is in the journal, and the
-- reconfigurations are counted by it
pub record HasReread (now : ℕ) (config : Configuration) (epoch : ℕ)
    (old new : DeskView) : Type 0 where
  pub going : old.notes.stopped ≡ false
  pub next_is : reconfigure_answer (state_of old.engine) ≡ gives (told.Epoch epoch)
  pub same : IsSame (state_of new.engine) (after_reconfigured config now (state_of old.engine))
  pub notes : new.notes ≡ record old.notes {
    history = with_entry (entry_at now (event.Reconfigure config.source) (told.Epoch epoch))
        old.notes.history;
    spare = new.notes.spare;
    made = epoch - 1;
  }

-- a call for another configuration
abbrev pub Rereads : ℕ → Configuration → DeskView → Result ℕ DeskFault → DeskView → Type 0
Rereads now config old (Ok epoch) new = HasReread now config epoch old new
Rereads now config old (Err fault.Stopped) new = WasStopped old new
Rereads now config old (Err (fault.Engine refusal.WantOfMemory)) new = ⊥
Rereads now config old (Err (fault.Engine why)) new =
    HasRefused (reconfigure_answer (state_of old.engine)) why old new
Rereads now config old (Err fault.JournalFault) new = HasFailed
    (after_reconfigured config now (state_of old.engine)) old new
Rereads now config old (Err fault.WantOfMemory) new = HasWanted old new
