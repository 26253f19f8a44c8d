use Rattle.sq_checks.specs.Positions.{Goes, IsPosition, taken_in}
use Rattle.sq_checks.specs.Weights.{weight_at}
use Rattle.sq_checks.proofs.stepping.run_on.Given as goal

-- the steps so far lead here
abbrev pub invariant-steps : goal.invariant-steps
invariant-steps g l = record {
  goes : Goes (taken_in l.taking) l.taking.config.now l.fn.position l.position l.fn.steps l.steps;
  stands : IsPosition l.taking.config.now l.position;
}

abbrev pub decreases-steps : goal.decreases-steps
decreases-steps g l = weight_at l.taking.config.now l.position
