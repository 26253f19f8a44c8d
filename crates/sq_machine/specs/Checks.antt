-- In the statement: docs/STATEMENT.md lists which definitions.
-- The checks of a history: check n is the n-th `ask`, and is open where neither a `take` of it nor
-- a `close` of its connection stands after it.
use Rattle.std.specs.Prelude.{ℕ, List, [], ◌∷◌, Bool, true, false, if◌then◌else◌, ◌&&◌, ◌||◌, ◌==◌, nat_le, Some, None, zero, suc}
use Rattle.std.specs.Option.{option_map, option_or}
use Rattle.std.specs.declared.option.Option.{Option}
use Rattle.sq_base.specs.Addresses.{v4}
use Rattle.sq_base.specs.declared.requests.Field.{Field}
use Rattle.sq_machine.specs.declared.entries.Event.{Event}
use Rattle.sq_rules.specs.declared.sights.Peer.{Peer}
use Rattle.sq_rules.specs.declared.sights.Sight.{Sight}
use Rattle.sq_machine.specs.Connections.{peer_at, conns_of}
use Rattle.sq_machine.specs.Entries.{History}
use Rattle.sq_machine.specs.Events.{Asking, asking, closed_conn, done_check, is_number, taken_check}
use Rattle.sq_machine.specs.Readings.{current, offset_of}
use Rattle.sq_rules.specs.Sights.{asked_request, minute_of_week}

-- a check as it began: its connection, its epoch, and what it saw
pub record Asked : Type 0 where
  pub conn : ℕ
  pub epoch : ℕ
  pub sight : Sight

-- the epoch of a check, where it began
abbrev pub epoch_of : Option Asked → ℕ
epoch_of None = 0
epoch_of (Some a) = a.epoch

-- the peer that stands for none
abbrev pub nobody : Peer
nobody = record { addr = v4 0; port = 0 }

-- the peer, or the one that stands for none
abbrev pub peer_or_nobody : Option Peer → Peer
peer_or_nobody None = nobody
peer_or_nobody (Some p) = p

-- what a check sees that begins at this moment: the request, the client, the time and the
-- connections
abbrev pub sight_of : History → ℕ → Peer → List ℕ → List ℕ → List Field → Sight
sight_of h moment p method target fields = record {
  request = asked_request method target fields;
  addr = p.addr;
  port = p.port;
  minute = minute_of_week moment (offset_of h);
  conns = conns_of h p.addr;
}

-- the check that a request begins at this moment
abbrev pub asked_by : History → ℕ → Asking → Asked
asked_by h moment a = record {
  conn = a.conn;
  epoch = current h;
  sight = sight_of h moment (peer_or_nobody (peer_at h a.conn)) a.method a.target a.fields;
}

-- the number, and one more if there is something
abbrev pub more_if : {A : Type 0} → Option A → ℕ → ℕ
more_if None n = n
more_if (Some a) n = suc n

-- how many checks have begun
unfoldable pub ask_count : History → ℕ
ask_count [] = 0
ask_count (e ∷ h) = more_if (asking e.event) (ask_count h)

-- what was born with number n, where k were born before
abbrev pub numbered : {A : Type 0} → ℕ → ℕ → Option A → Option A
numbered n k None = None
numbered n k (Some a) = if n == suc k then Some a else None

-- check n is the n-th `ask`
unfoldable pub ask_of : History → ℕ → Option Asked
ask_of [] n = None
ask_of (e ∷ h) n = option_or
    (option_map (asked_by h e.moment) (numbered n (ask_count h) (asking e.event))) (ask_of h n)

-- the connection of a check
abbrev pub conn_in : Option Asked → Option ℕ
conn_in a = option_map (λ x. x.conn) a

-- the connection of check n
abbrev pub conn_of : History → ℕ → Option ℕ
conn_of h n = conn_in (ask_of h n)

-- this is the connection that is closed
abbrev pub closes : Option ℕ → Option ℕ → Bool
closes None conn = false
closes (Some c) conn = is_number c conn

-- an event ends check n, which has this connection
abbrev pub ends_check : ℕ → Option ℕ → Event → Bool
ends_check n conn event = is_number n (taken_check event) || closes (closed_conn event) conn

-- what is so from a birth on, until an end
abbrev pub lasts : {A : Type 0} → Option A → Bool → Bool → Bool
lasts (Some a) ended before = true
lasts None ended before = if ended then false else before

-- check n is open
unfoldable pub check_open : History → ℕ → Bool
check_open [] n = false
check_open (e ∷ h) n = lasts (numbered n (ask_count h) (asking e.event))
    (ends_check n (conn_of h n) e.event) (check_open h n)

-- check n is open, and it is one of connection c
abbrev pub is_open_of : History → ℕ → ℕ → Bool
is_open_of h c n = check_open h n && is_number c (conn_of h n)

-- of the checks 1 to k, the one of connection c that is open
unfoldable pub open_among : History → ℕ → ℕ → Option ℕ
open_among h c zero = None
open_among h c (suc k) = if is_open_of h c (suc k) then Some (suc k) else open_among h c k

-- the open check of connection c
abbrev pub open_check : History → ℕ → Option ℕ
open_check h c = open_among h c (ask_count h)

-- a step of check n answered that it is done
unfoldable pub is_done : History → ℕ → Bool
is_done [] n = false
is_done (e ∷ h) n = (is_number n (done_check e.event e.answer) && nat_le n (ask_count h))
    || is_done h n
