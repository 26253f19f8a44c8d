use Rattle.std.proofs.Common.{◌≤◌, subst}
use Rattle.sq_checks.specs.Positions.{look_limit}
use Rattle.sq_checks.specs.Standing.{looks_in}
use Rattle.sq_checks.specs.OpenChecks.{CheckParts}
use Rattle.sq_checks.specs.Stages.{IsLooked, IsStage}
use Rattle.sq_checks.proofs.CheckLaws.{need_looked, need_new}
use Rattle.sq_checks.proofs.GivenLaws.{limit_looks}
use Rattle.sq_checks.proofs.check_state.CheckState.need.Goals as goal

pub returns-clause-other : goal.returns-clause-other
returns-clause-other c =
    let x = c.args.self.now in
    need_new x.config x.sight x.answers x.stage
    (subst (λ (y : CheckParts). IsStage y.config y.sight y.answers y.stage) c.self.view_is c.self.invariant.stage_is)

pub returns-clause-looks : goal.returns-clause-looks
returns-clause-looks c =
    let x = c.args.self.now in
    need_looked x.config x.sight x.answers x.looks x.stage
    (subst (λ (y : CheckParts). IsLooked y.config y.sight y.answers y.looks y.stage) c.self.view_is
    c.self.invariant.looks_are)

pub returns-clause-few : goal.returns-clause-few
returns-clause-few c =
    let k = c.self.inside in
    let few : looks_in k.frames ≤ look_limit = limit_looks k.facts k.frames c.self.invariant.frames_are.over in
    subst (λ (y : CheckParts). y.looks ≤ look_limit) c.self.view_is few
