use Rattle.sq_checks.proofs.FrameStepLaws.{goes_none, goes_on}
use Rattle.sq_checks.specs.Positions.{taken_in}
use Rattle.sq_checks.proofs.stepping.run_on.Goals as goal

pub steps-init : goal.steps-init
steps-init g c = record {
  goes = goes_none (taken_in c.args.taking.now) c.args.taking.now.config.now c.args.position.now c.args.steps.now
      c.requires.position;
  stands = c.requires.position;
}

pub steps-preserved : goal.steps-preserved
steps-preserved g c =
    let t = c.args.taking.now in
    record {
      goes = goes_on (taken_in t) t.config.now c.args.position.now c.steps.position c.step.new.position c.args.steps.now
          c.steps.steps c.step.new.steps c.steps.invariant.goes c.in_default.ensures.goes.goes;
      stands = c.in_default.ensures.goes.stands;
    }
