-- What the answers of a hub say.
use Rattle.std.specs.Prelude.{ℕ, ◌+◌, min, Ok, Err, ⊤}
use Rattle.std.specs.declared.option.Option.{Option}
use Rattle.std.specs.declared.result.Result.{Result}
use Rattle.sq_outside.specs.Causes.{Rose, count_limit, raised}
use Rattle.sq_machine.specs.declared.refusals.Refusal.TheVariants as refusal
use Rattle.sq_turns.specs.declared.front.CloseFault.{CloseFault}
use Rattle.sq_turns.specs.declared.front.CloseFault.TheVariants as close
use Rattle.sq_turns.specs.declared.front.Decided.{Decided}
use Rattle.sq_turns.specs.declared.front.Decided.TheVariants as decided
use Rattle.sq_turns.specs.declared.front.Opened.{Opened}
use Rattle.sq_turns.specs.declared.front.Opened.TheVariants as opened
use Rattle.sq_model.specs.States.{State}
use Rattle.sq_rewrite.specs.States.{RewriteState}
use Rattle.sq_turns.specs.declared.hub.HubFault.{HubFault}
use Rattle.sq_turns.specs.declared.hub.HubFault.TheVariants.{Refused, JournalFault, WantOfMemory}

-- a refusal, and a journal that could not be written, come only where the count of refusals rose
abbrev pub IsRefusal : ℕ → ℕ → HubFault → Type 0
IsRefusal before now (Refused why) = Rose before now
IsRefusal before now JournalFault = Rose before now
IsRefusal before now WantOfMemory = ⊤

abbrev pub HubRefuses : {T : Type 0} → ℕ → ℕ → Result T HubFault → Type 0
HubRefuses before now (Ok x) = ⊤
HubRefuses before now (Err fault) = IsRefusal before now fault

-- and the latter only where the count of faults did
abbrev pub IsFailure : ℕ → ℕ → HubFault → Type 0
IsFailure before now (Refused why) = ⊤
IsFailure before now JournalFault = Rose before now
IsFailure before now WantOfMemory = ⊤

abbrev pub HubFails : {T : Type 0} → ℕ → ℕ → Result T HubFault → Type 0
HubFails before now (Ok x) = ⊤
HubFails before now (Err fault) = IsFailure before now fault

-- so too what a front answers of its hub's journal
abbrev pub OpenFails : ℕ → ℕ → Opened → Type 0
OpenFails before now opened.In = ⊤
OpenFails before now opened.Full = ⊤
OpenFails before now (opened.Refused why) = ⊤
OpenFails before now opened.JournalFault = Rose before now
OpenFails before now opened.WantOfMemory = ⊤

abbrev pub CloseFails : ℕ → ℕ → Result (Unit {0}) CloseFault → Type 0
CloseFails before now (Ok u) = ⊤
CloseFails before now (Err (close.Refused why)) = ⊤
CloseFails before now (Err close.JournalFault) = Rose before now
CloseFails before now (Err close.WantOfMemory) = ⊤

abbrev pub DecideFails : ℕ → ℕ → Decided → Type 0
DecideFails before now (decided.Record j) = ⊤
DecideFails before now (decided.Mismatch other) = ⊤
DecideFails before now (decided.Refused why) = ⊤
DecideFails before now decided.JournalFault = Rose before now
DecideFails before now decided.WantOfMemory = ⊤

-- a question that was asked is counted, and no other
abbrev pub asked_by : {T : Type 0} → ℕ → Result T HubFault → ℕ
asked_by before (Ok x) = raised before
asked_by before (Err fault) = before

-- bytes that were granted are counted
abbrev pub granted_by : ℕ → ℕ → ℕ
granted_by before given = min (before + given) count_limit

-- the machine and the rewriter as a hub tells them
pub record Served : Type 0 where
  pub machine : State
  pub rewriter : Option RewriteState

-- what of a front no grant and no pause changes: its connection, the machine and the rewriter where
-- the hub tells them, and two counts
pub record Counted : Type 0 where
  pub conn : ℕ
  pub served : Option Served
  pub asked : ℕ
  pub refused : ℕ

-- what a front answers where its hub does not make a call
abbrev pub opened_of : HubFault → Opened
opened_of (Refused (refusal.ConnInUse n)) = opened.Refused (refusal.ConnInUse n)
opened_of (Refused (refusal.UnknownConn n)) = opened.Refused (refusal.UnknownConn n)
opened_of (Refused (refusal.TooManyConns n)) = opened.Full
opened_of (Refused (refusal.CheckOpen n)) = opened.Refused (refusal.CheckOpen n)
opened_of (Refused (refusal.UnknownCheck n)) = opened.Refused (refusal.UnknownCheck n)
opened_of (Refused (refusal.NotDone n)) = opened.Refused (refusal.NotDone n)
opened_of (Refused (refusal.NoStartOpen e n)) = opened.Refused (refusal.NoStartOpen e n)
opened_of (Refused (refusal.UnknownProc n)) = opened.Refused (refusal.UnknownProc n)
opened_of (Refused (refusal.TooManyEpochs n)) = opened.Refused (refusal.TooManyEpochs n)
opened_of (Refused (refusal.Spent n)) = opened.Refused (refusal.Spent n)
opened_of (Refused refusal.WantOfMemory) = opened.WantOfMemory
opened_of JournalFault = opened.JournalFault
opened_of WantOfMemory = opened.WantOfMemory

abbrev pub unclosed_of : HubFault → CloseFault
unclosed_of (Refused (refusal.ConnInUse n)) = close.Refused (refusal.ConnInUse n)
unclosed_of (Refused (refusal.UnknownConn n)) = close.Refused (refusal.UnknownConn n)
unclosed_of (Refused (refusal.TooManyConns n)) = close.Refused (refusal.TooManyConns n)
unclosed_of (Refused (refusal.CheckOpen n)) = close.Refused (refusal.CheckOpen n)
unclosed_of (Refused (refusal.UnknownCheck n)) = close.Refused (refusal.UnknownCheck n)
unclosed_of (Refused (refusal.NotDone n)) = close.Refused (refusal.NotDone n)
unclosed_of (Refused (refusal.NoStartOpen e n)) = close.Refused (refusal.NoStartOpen e n)
unclosed_of (Refused (refusal.UnknownProc n)) = close.Refused (refusal.UnknownProc n)
unclosed_of (Refused (refusal.TooManyEpochs n)) = close.Refused (refusal.TooManyEpochs n)
unclosed_of (Refused (refusal.Spent n)) = close.Refused (refusal.Spent n)
unclosed_of (Refused refusal.WantOfMemory) = close.WantOfMemory
unclosed_of JournalFault = close.JournalFault
unclosed_of WantOfMemory = close.WantOfMemory

abbrev pub decided_of : HubFault → Decided
decided_of (Refused (refusal.ConnInUse n)) = decided.Refused (refusal.ConnInUse n)
decided_of (Refused (refusal.UnknownConn n)) = decided.Refused (refusal.UnknownConn n)
decided_of (Refused (refusal.TooManyConns n)) = decided.Refused (refusal.TooManyConns n)
decided_of (Refused (refusal.CheckOpen n)) = decided.Refused (refusal.CheckOpen n)
decided_of (Refused (refusal.UnknownCheck n)) = decided.Refused (refusal.UnknownCheck n)
decided_of (Refused (refusal.NotDone n)) = decided.Refused (refusal.NotDone n)
decided_of (Refused (refusal.NoStartOpen e n)) = decided.Refused (refusal.NoStartOpen e n)
decided_of (Refused (refusal.UnknownProc n)) = decided.Refused (refusal.UnknownProc n)
decided_of (Refused (refusal.TooManyEpochs n)) = decided.Refused (refusal.TooManyEpochs n)
decided_of (Refused (refusal.Spent n)) = decided.Refused (refusal.Spent n)
decided_of (Refused refusal.WantOfMemory) = decided.WantOfMemory
decided_of JournalFault = decided.JournalFault
decided_of WantOfMemory = decided.WantOfMemory
