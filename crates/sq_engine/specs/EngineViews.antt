-- The engine as contracts see it, and the machine's state that can be read off it.
use Rattle.std.specs.Prelude.{ℕ, ℤ, List, length, Bool}
use Rattle.std.specs.Option.{option_map}
use Rattle.std.specs.declared.option.Option.{Option}
use Rattle.sq_rules.specs.Configurations.{Configuration}
use Rattle.sq_checks.specs.Conns.{OpenConns, client_in}
use Rattle.sq_checks.specs.Counts.{tally}
use Rattle.sq_checks.specs.OpenChecks.{CheckParts, rows_of}
use Rattle.sq_epochs.specs.EpochStates.{EpochState, EpochsState, epoch_at, home_at, row_at}
use Rattle.sq_epochs.specs.HomeStates.{is_among}
use Rattle.sq_model.specs.States.{State}

-- the open connections; the open checks; how many checks began and questions were put; the live
-- epochs; the configuration of the current one; the offset of local time; and the greatest moment
-- so far
pub record EngineView : Type 0 where
  pub conns : OpenConns
  pub checks : List (ℕ × CheckParts)
  pub asks : ℕ
  pub puts : ℕ
  pub epochs : EpochsState
  pub setup : Configuration
  pub offset : ℤ
  pub latest : ℕ

abbrev pub config_in : Option EpochState → Option Configuration
config_in x = option_map (λ e. e.config) x

-- the configuration of a live epoch
abbrev pub config_at : EpochsState → ℕ → Option Configuration
config_at v e = config_in (epoch_at v e)

-- a stop of the process is due
abbrev pub stop_at : EpochsState → ℕ → Bool
stop_at v k = is_among k v.stops

-- the machine's state
abbrev pub state_of : EngineView → State
state_of v = record {
  client = client_in v.conns;
  conns = length v.conns.links;
  from = tally v.conns.counts;
  checks = rows_of v.checks;
  asks = v.asks;
  puts = v.puts;
  current = v.epochs.current;
  config = config_at v.epochs;
  row = row_at v.epochs;
  procs = v.epochs.procs;
  home = home_at v.epochs;
  stop = stop_at v.epochs;
  latest = v.latest;
  offset = v.offset;
}
