use Rattle.std.proofs.Common.{List, Bool, subst}
use Rattle.sq_rules.specs.Configurations.{Configuration}
use Rattle.sq_checks.specs.Standing.{IsPlaced}
use Rattle.sq_checks.proofs.frames.Frames.start.Goals as goal

pub returns-clause-at : goal.returns-clause-at
returns-clause-at c = subst (λ (d : Configuration). (facts : List Bool)
    → IsPlaced facts d c.in_ok-table.table.items c.in_ok-table.position 0) c.deref.ensures c.in_ok-table.ensures.at
