use Rattle.std.proofs.Common.{subst}
use Rattle.sq_checks.specs.OpenChecks.{CheckParts}
use Rattle.sq_checks.specs.Stages.{IsStage}
use Rattle.sq_checks.proofs.CheckLaws.{decided_is}
use Rattle.sq_checks.proofs.check_state.CheckState.outcome.Goals as goal

pub returns-clause-verdict : goal.returns-clause-verdict
returns-clause-verdict c =
    let x = c.args.self.now in
    decided_is x.config x.sight x.answers x.stage
    (subst (λ (y : CheckParts). IsStage y.config y.sight y.answers y.stage) c.self.view_is c.self.invariant.stage_is)
