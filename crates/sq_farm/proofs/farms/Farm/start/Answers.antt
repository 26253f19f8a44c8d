use Rattle.std.proofs.Common.{arith, sym, ◌∙◌}
use Rattle.sq_farm.proofs.FarmLaws.{IsStock_starts}
use Rattle.sq_farm.proofs.DueLaws.{start_room}
use Rattle.sq_farm.proofs.farms.Farm.start.Goals as goal

pub invariant_of-self : goal.invariant_of-self
invariant_of-self c =
    let room = start_room _ (rw (← c.self.view_is) at (sym c.start_due.ensures ∙ c.if-not-start_due.false)) in (
      IsStock_starts _ c.saturating_sub-self-inside.result _ _ c.self.invariant.0
          (grind (arith, c.saturating_sub-self-inside.ensures)) (grind (arith, room)),
      c.self.invariant.1,
      c.self.invariant.2,
    )
