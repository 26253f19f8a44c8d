use Rattle.std.proofs.Common.{ap, subst}
use Rattle.sq_engine.specs.EngineViews.{state_of}
use Rattle.sq_rules.specs.Configurations.{Configuration}
use Rattle.sq_replay.specs.Riding.{HaveBegun, rider_at}
use Rattle.sq_replay.proofs.EngineLaws.{begun_made}
use Rattle.sq_replay.proofs.machines.ScriptMachine.begin.Goals as goal

pub returns-clause-begun : goal.returns-clause-begun
returns-clause-begun c =
    begun_made (state_of c.in_ok-engine.engine) c.in_ok-pools.pools (rider_at c.new-3.result) c.args.setup c.args.offset
    c.args.now c.in_ok-engine.ensures.promised
    (subst (λ (k : Configuration). HaveBegun c.in_ok-pools.pools 1 k c.args.now) c.config.ensures c.in_ok-pools.ensures)
    (λ x. ap (λ rs. rider_at rs x) c.new-3.ensures)
