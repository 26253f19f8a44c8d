-- The machine that a script runs as contracts see it, and what stands for a history.
use Rattle.std.specs.Prelude.{ℕ, List}
use Rattle.sq_engine.specs.EngineViews.{EngineView, state_of}
use Rattle.sq_replay.specs.Riding.{rider_at}
use Rattle.sq_replay.specs.Runs.{BothPools, Rider, ScriptView}

-- the engine, the pools, the greatest moment of all entries, and by connection the record last
-- taken on it, where it allows
pub record MachineView : Type 0 where
  pub engine : EngineView
  pub pools : BothPools
  pub latest : ℕ
  pub riders : List (ℕ × Rider)

-- the machine, which can stand for histories
abbrev pub machine_of : MachineView → ScriptView
machine_of v = record {
  state = state_of v.engine;
  pools = v.pools;
  latest = v.latest;
  riders = rider_at v.riders;
}
