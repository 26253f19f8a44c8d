use Rattle.sq_checks.proofs.MapLaws.{sorted_rises}
use Rattle.sq_checks.proofs.open_checks.OpenChecks.len.Goals as goal

pub returns-clause-rise : goal.returns-clause-rise
returns-clause-rise c = rw (← c.self.view_is) (sorted_rises c.self.inside.map.entries c.len.ensures.ordered)
