-- In the statement: docs/STATEMENT.md lists which definitions.
-- The connections of a history: a connection is open where its last `open` has no `close` after it.
use Rattle.std.specs.Prelude.{ℕ, List, [], ◌∷◌, ◌++◌, Bool, true, false, if◌then◌else◌, ◌&&◌, ◌==◌, Some, None, length}
use Rattle.std.specs.List.{filter, list_any}
use Rattle.std.specs.declared.option.Option.{Option}
use Rattle.sq_base.specs.Addresses.{Address}
use Rattle.sq_rules.specs.declared.sights.Peer.{Peer}
use Rattle.sq_machine.specs.Entries.{History}
use Rattle.sq_machine.specs.Events.{ConnNews, conn_news}

-- the client of connection c after an event: what the event says of c, and else what was before
abbrev pub peer_after : ℕ → Option ConnNews → Option Peer → Option Peer
peer_after c None before = before
peer_after c (Some news) before = if news.conn == c then news.peer else before

-- the client of connection c, where it is open
unfoldable pub peer_at : History → ℕ → Option Peer
peer_at [] c = None
peer_at (e ∷ h) c = peer_after c (conn_news e.event) (peer_at h c)

-- an open connection, with its client
pub record OpenConn : Type 0 where
  pub conn : ℕ
  pub peer : Peer

-- the open connection of this number, if it has a peer
abbrev pub with_peer : ℕ → Option Peer → List OpenConn
with_peer c None = []
with_peer c (Some p) = record { conn = c; peer = p } ∷ []

-- the connection that an event opens, unless it is one of those that a newer event opened or closed
abbrev pub newly_open : List ℕ → Option ConnNews → List OpenConn
newly_open newer None = []
newly_open newer (Some news) = if list_any (λ c. c == news.conn) newer then []
    else with_peer news.conn news.peer

-- the connections that a newer event named, and the one that this event names
abbrev pub also_newer : Option ConnNews → List ℕ → List ℕ
also_newer None newer = newer
also_newer (Some news) newer = news.conn ∷ newer

-- from the newest entry on, each connection at the last event that opens or closes it, where that
-- opens it; those that a newer event opened or closed are left out
unfoldable pub open_besides : List ℕ → History → List OpenConn
open_besides newer [] = []
open_besides newer (e ∷ h) = newly_open newer (conn_news e.event)
    ++ open_besides (also_newer (conn_news e.event) newer) h

-- the open connections
abbrev pub open_conns : History → List OpenConn
open_conns h = open_besides [] h

-- how many connections are open
unfoldable pub open_count : History → ℕ
open_count h = length (open_conns h)

-- whether two addresses are one
abbrev pub is_address : Address → Address → Bool
is_address a b = (if a.v6 then b.v6 else (if b.v6 then false else true)) && a.number == b.number

-- how many connections from this address are open
unfoldable pub conns_of : History → Address → ℕ
conns_of h a = length (filter (λ o. is_address a o.peer.addr) (open_conns h))
