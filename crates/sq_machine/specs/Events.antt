-- In the statement: docs/STATEMENT.md lists which definitions.
-- What an event does, told by what it names, so that a reading, or a theorem over histories, goes
-- by the one or two cases that matter to it.
use Rattle.std.specs.Prelude.{ℕ, ℤ, List, Bool, true, false, ◌==◌, Some, None, is_some}
use Rattle.std.specs.declared.option.Option.{Option}
use Rattle.sq_base.specs.Targets.{target_of}
use Rattle.sq_base.specs.declared.requests.Field.{Field}
use Rattle.sq_machine.specs.declared.entries.Event.{Event}
use Rattle.sq_machine.specs.declared.entries.Event.TheVariants.{Begin, Open, Close, Ask, Step, Take, Reconfigure}
use Rattle.sq_machine.specs.declared.entries.Told.{Told}
use Rattle.sq_machine.specs.declared.entries.Told.TheVariants as told
use Rattle.sq_rules.specs.declared.outcomes.Outcome.{Outcome}
use Rattle.sq_rules.specs.declared.sights.Peer.{Peer}

-- what an event says of a connection: its client from here on, or none where it closes
pub record ConnNews : Type 0 where
  pub conn : ℕ
  pub peer : Option Peer

-- a request that arrives: its connection and its parts
pub record Asking : Type 0 where
  pub conn : ℕ
  pub method : List ℕ
  pub target : List ℕ
  pub fields : List Field

-- an outcome that was taken: the check's number, the epoch that was told, and the outcome
pub record Judgement : Type 0 where
  pub check : ℕ
  pub epoch : ℕ
  pub outcome : Outcome

-- the connection that an event opens or closes
abbrev pub conn_news : Event → Option ConnNews
conn_news (Open c addr port) = Some
    (record { conn = c; peer = Some (record { addr = addr; port = port }) })
conn_news (Close c) = Some (record { conn = c; peer = None })
conn_news event = None

-- the connection that an event closes
abbrev pub closed_conn : Event → Option ℕ
closed_conn (Close c) = Some c
closed_conn event = None

-- the request whose check an event begins
abbrev pub asking : Event → Option Asking
asking (Ask c method target fields) = Some
    (record { conn = c; method = method; target = target; fields = fields })
asking event = None

-- the check whose outcome an event takes
abbrev pub taken_check : Event → Option ℕ
taken_check (Take n) = Some n
taken_check event = None

-- the check that a step left done
abbrev pub told_done : ℕ → Told → Option ℕ
told_done n told.Done = Some n
told_done n answer = None

-- the check whose step was answered that it is done
abbrev pub done_check : Event → Told → Option ℕ
done_check (Step n) answer = told_done n answer
done_check event answer = None

-- the judgement that a take gave
abbrev pub told_judged : ℕ → Told → Option Judgement
told_judged n (told.Judged epoch o) = Some (record { check = n; epoch = epoch; outcome = o })
told_judged n answer = None

-- the outcome that an event took
abbrev pub judgement : Event → Told → Option Judgement
judgement (Take n) answer = told_judged n answer
judgement event answer = None

-- the offset of local time that the machine begins with, in minutes
abbrev pub begun_offset : Event → Option ℤ
begun_offset (Begin offset) = Some offset
begun_offset event = None

-- the number that stands there, if one does, is n
abbrev pub is_number : ℕ → Option ℕ → Bool
is_number n None = false
is_number n (Some k) = n == k

-- the event begins an epoch
abbrev pub begins_epoch : Event → Bool
begins_epoch (Reconfigure text) = true
begins_epoch event = false

-- whether the event begins a run
abbrev pub is_begin : Event → Bool
is_begin (Begin offset) = true
is_begin event = false

-- the target of an `ask` has the form that its method takes
abbrev pub has_target : Event → Bool
has_target (Ask c method target fields) = is_some (target_of method target)
has_target event = true
