-- What a hub in memory tells.
use Rattle.std.specs.Prelude.{ℕ, List, Some, Result, Ok, Err}
use Rattle.std.specs.Option.{option_map}
use Rattle.std.specs.declared.option.Option.{Option}
use Rattle.sq_machine.specs.declared.refusals.Refusal.{Refusal}
use Rattle.sq_machine.specs.declared.refusals.Refusal.TheVariants as refusal
use Rattle.sq_checks.specs.OpenChecks.{CheckParts}
use Rattle.sq_rewrite.specs.States.{RewriteState}
use Rattle.sq_pools.specs.Basins.{Basin}
use Rattle.sq_engine.specs.Begun.{Begun, begun_at}
use Rattle.sq_engine.specs.EngineViews.{EngineView, state_of}
use Rattle.sq_turns.specs.Tellings.{BegunCheck, DelayPools, HubState, Works}
use Rattle.sq_turns.specs.declared.hub.HubFault.{HubFault}
use Rattle.sq_turns.specs.declared.hub.HubFault.TheVariants as fault

abbrev pub check_of : Begun → BegunCheck
check_of b = record { config = b.config; sight = b.sight; pool = b.pool }

-- a rewriter went on by its processes alone
pub record WorksOn (s t : RewriteState) : Type 0 where
  pub works : Works (Some s) (Some t)

-- what each open check began with
abbrev pub begun_in : List (ℕ × CheckParts) → ℕ → Option BegunCheck
begun_in checks n = option_map check_of (begun_at checks n)

-- the pools of both kinds
abbrev pub both_pools : Basin → Basin → DelayPools
both_pools addressed tagged = record { addressed = addressed; tagged = tagged }

-- the engine's state and its checks, the rewriter, the pools, and the moment of each call
abbrev pub hub_state : EngineView → Option RewriteState → DelayPools → ℕ → HubState
hub_state engine rewriter pools moment = record {
  machine = state_of engine;
  begun = begun_in engine.checks;
  rewriter = rewriter;
  pools = pools;
  moment = moment;
}

-- the fault of a refusal: want of memory is a fault of its own
abbrev pub fault_of : Refusal → HubFault
fault_of refusal.WantOfMemory = fault.WantOfMemory
fault_of r = fault.Refused r

abbrev pub hub_result : {A : Type 0} → Result A Refusal → Result A HubFault
hub_result (Ok a) = Ok a
hub_result (Err r) = Err (fault_of r)
