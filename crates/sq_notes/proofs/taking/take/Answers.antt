use Rattle.std.proofs.Common.{refl}
use Rattle.sq_engine.specs.EngineViews.{state_of}
use Rattle.sq_engine.specs.Stepping.{epoch_of}
use Rattle.sq_notes.proofs.OutcomeLaws.{told_outcome}
use Rattle.sq_notes.proofs.taking.take.Goals as goal

pub invariant_of-entry : goal.invariant_of-entry
invariant_of-entry g c = record {
  event_is = refl;
  row_is = told_outcome (state_of c.args.engine.now) c.args.check (epoch_of (state_of c.args.engine.now) c.args.check)
      c.in-Ok-outcome_copy.outcome c.in-Ok-outcome_copy.ensures;
}
