-- What a rewriter tells, and what each of its calls makes of that.
use Rattle.std.specs.Prelude.{◌≡◌, ℕ, List, Some, None, Result, Ok, Err}
use Rattle.std.specs.declared.option.Option.{Option}
use Rattle.sq_channel.specs.declared.replies.Got.{Got}
use Rattle.sq_rewrite.specs.Calls.{Call, Acted, Started, StartFailed, Wrote, Died}
use Rattle.sq_rewrite.specs.States.{Answers, Refuses, RewriteState, act_due, after, fail_refusal, proc_refusal, start_refusal}
use Rattle.sq_rewrite.specs.declared.acts.RewriteAct.{RewriteAct}
use Rattle.sq_rewrite.specs.declared.faults.RewriteFault.{RewriteFault}

-- where its state is told it goes on being told, and this holds of what it was and is
abbrev pub Tells : (RewriteState → RewriteState → Type 0) → Option RewriteState
    → Option RewriteState → Type 0
Tells Went None new = new ≡ None
Tells Went (Some before) new = (now : RewriteState) × (new ≡ Some now) × Went before now

-- this call was made, and it has its answer
abbrev pub Makes : Call → RewriteState → RewriteState → Type 0
Makes call before now = Answers call before × (now ≡ after call before)

-- the act that is due was made; without one nothing is due
abbrev pub MakesAct : Option RewriteAct → RewriteState → RewriteState → Type 0
MakesAct None before now = (act_due before ≡ None) × (now ≡ before)
MakesAct (Some act) before now = Makes (Acted act) before now

-- the start of a process is noted, or it is refused and nothing changed
abbrev pub NotesStart : Result ℕ RewriteFault → RewriteState → RewriteState → Type 0
NotesStart (Ok proc) before now = Makes (Started proc) before now
NotesStart (Err fault) before now = Refuses (start_refusal before) fault × (now ≡ before)

-- so is a start that failed
abbrev pub NotesFailure : Result (Unit {0}) RewriteFault → RewriteState → RewriteState → Type 0
NotesFailure (Ok _) before now = Makes StartFailed before now
NotesFailure (Err fault) before now = (fail_refusal before ≡ Some fault) × (now ≡ before)

-- a line
abbrev pub NotesLine : ℕ → List ℕ → Result Got RewriteFault → RewriteState → RewriteState → Type 0
NotesLine proc line (Ok got) before now = Makes (Wrote proc line got) before now
NotesLine proc line (Err fault) before now = Refuses (proc_refusal proc before) fault
    × (now ≡ before)

-- and a death
abbrev pub NotesDeath : ℕ → Result (Unit {0}) RewriteFault → RewriteState → RewriteState → Type 0
NotesDeath proc (Ok _) before now = Makes (Died proc) before now
NotesDeath proc (Err fault) before now = (proc_refusal proc before ≡ Some fault)
    × (now ≡ before)
