use Rattle.std.proofs.Common.{◌≡◌, map}
use Rattle.std.specs.Map.Iter.{deref}
use Rattle.sq_base.specs.declared.helpers.What.TheVariants as what
use Rattle.sq_checks.specs.OpenChecks.{ended_by}
use Rattle.sq_checks.proofs.EndLaws.{listed_changed}
use Rattle.sq_checks.proofs.open_checks.OpenChecks.fault.Given as goal

abbrev pub invariant-loop-check : goal.invariant-loop-check
invariant-loop-check l = l.self
    ≡ listed_changed (map deref l.yielded) (ended_by l.question (what.Fault l.cause) l.now) l.initial.self
