-- In the statement: docs/STATEMENT.md lists which definitions.
-- Entries of a journal, and what holds of each.
use Rattle.std.specs.Prelude.{◌≡◌, ℕ, List, Bool, true, false, not, ◌&&◌, ◌==◌, ◌^◌, nat_lt}
use Rattle.sq_base.specs.Requests.{have_plain_names}
use Rattle.sq_machine.specs.declared.entries.Event.{Event}
use Rattle.sq_machine.specs.declared.entries.Event.TheVariants.{Begin, Open, Close, Ask, Step, Take, Started, StartFail, Line, Died, Act, Reconfigure, Seat, Grant, Leave}
use Rattle.sq_machine.specs.declared.entries.Told.{Told}
use Rattle.sq_machine.specs.declared.entries.Told.TheVariants as told
use Rattle.sq_rules.specs.declared.outcomes.Outcome.{Outcome}
use Rattle.sq_rules.specs.declared.outcomes.Why.{Why}
use Rattle.sq_rules.specs.declared.outcomes.Why.TheVariants as why

-- a moment in milliseconds, an event, and the answer that it had
pub record Noted : Type 0 where
  pub moment : ℕ
  pub event : Event
  pub answer : Told

-- an entry of a moment, an event and an answer
abbrev pub entry_at : ℕ → Event → Told → Noted
entry_at moment event answer = record { moment = moment; event = event; answer = answer }

-- the newest entry first
abbrev pub History : Type 0
History = List Noted

-- an outcome by an empty list or by a fault denies
abbrev pub must_deny : Why → Bool
must_deny why.Empty = true
must_deny (why.Fault rule acl cause) = true
must_deny w = false

-- whether the outcome may be: one whose reason denies does not allow
abbrev pub is_outcome : Outcome → Bool
is_outcome o = not (must_deny o.why && o.allow)

-- so many bytes may be wanted or granted at once
abbrev pub is_amount : ℕ → Bool
is_amount n = nat_lt n (2 ^ 63)

-- the answer is one that its event may have
abbrev pub is_row : Event → Told → Bool
is_row (Begin offset) (told.Epoch e) = e == 1
is_row (Open conn addr port) told.Fine = true
is_row (Close conn) told.Fine = true
is_row (Ask conn method target fields) (told.Check n) = true
is_row (Step n) (told.Took class) = true
is_row (Step n) (told.Waits question) = true
is_row (Step n) told.Done = true
is_row (Take n) (told.Judged e o) = is_outcome o
is_row (Started epoch class) (told.Proc proc) = true
is_row (StartFail epoch class) told.Fine = true
is_row (Line proc bytes) (told.Reply question word) = true
is_row (Line proc bytes) told.Bad = true
is_row (Line proc bytes) told.Stray = true
is_row (Died proc) told.Fine = true
is_row Act (told.Start epoch class) = true
is_row Act (told.Send proc question channel key) = true
is_row Act (told.Stop proc) = true
is_row (Reconfigure text) (told.Epoch e) = true
is_row (Seat conn) (told.Seat seat pool) = true
is_row (Seat conn) told.NoSeat = true
is_row (Grant seat wanted) (told.Granted n) = is_amount n
is_row (Leave seat) told.Fine = true
is_row event answer = false

-- no field's name holds `:`, and no amount passes its limit
abbrev pub is_event : Event → Bool
is_event (Ask conn method target fields) = have_plain_names fields
is_event (Grant seat wanted) = is_amount wanted
is_event event = true

-- what holds of every entry
pub record IsEntry (event : Event) (answer : Told) : Type 0 where
  pub event_is : is_event event ≡ true
  pub row_is : is_row event answer ≡ true
