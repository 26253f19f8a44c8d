-- The open connections.
use Rattle.std.specs.Prelude.{ℕ, List, ◌-◌, if◌then◌else◌, Some, None}
use Rattle.std.specs.Option.{option_and_then, option_map}
use Rattle.std.specs.declared.option.Option.{Option}
use Rattle.sq_base.specs.Addresses.{Address}
use Rattle.sq_machine.specs.Connections.{is_address}
use Rattle.sq_rules.specs.declared.sights.Peer.{Peer}
use Rattle.sq_checks.specs.Counts.{Tallies}
use Rattle.sq_checks.specs.Tables.{value_at}
use Rattle.sq_checks.specs.declared.conns.Link.{Link}

-- the open connections by number, and the counts of addresses
pub record OpenConns : Type 0 where
  pub links : List (ℕ × Link)
  pub counts : Tallies

-- the client of a connection, where it is open
abbrev pub client_in : OpenConns → ℕ → Option Peer
client_in v c = option_map (λ l. l.peer) (value_at v.links c)

-- the open check of a connection, if it has one
abbrev pub check_in : OpenConns → ℕ → Option ℕ
check_in v c = option_and_then (λ l. l.check) (value_at v.links c)

-- the count of an address after a connection of this client closed, if it was open
abbrev pub lowered : Option Peer → Address → ℕ → ℕ
lowered None a n = n
lowered (Some p) a n = if is_address a p.addr then n - 1 else n
