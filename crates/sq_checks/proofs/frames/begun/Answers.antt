use Rattle.std.proofs.Common.{ap}
use Rattle.sq_checks.proofs.FrameLaws.{placed_first}
use Rattle.sq_checks.specs.declared.positions.Position.{Position}
use Rattle.sq_checks.proofs.frames.begun.Goals as goal

pub returns-clause-at : goal.returns-clause-at
returns-clause-at c = λ facts.
    let begun = c.in_ok-position.ensures.begun in
    placed_first facts c.args.slots.now c.in_ok-table.table.items c.in_ok-position.position
    (ap (λ (p : Position). p.line) begun) (ap (λ (p : Position). p.term) begun)
    (ap (λ (p : Position). p.groups.list) begun) (ap (λ (p : Position). p.looks) begun)
