use Rattle.std.proofs.Common.{◌≡◌, ◌+◌, suc, arith, subst, sym}
use Rattle.std.proofs.lemmas.Grind.{common_steps}
use Rattle.sq_epochs.specs.HomeStates.{AreHomes}
use Rattle.sq_epochs.proofs.HomeLaws.{homes_more}
use Rattle.sq_epochs.proofs.homes.Homes.add.Goals as goal

pub invariant_of-self : goal.invariant_of-self
invariant_of-self c =
    let v = c.self.inside in
    let next : v.given + 1 ≡ suc v.given = omega arith in
    let room = rw (← c.self.view_is) at c.requires.room in
    let fits = rw (← c.self.view_is) at c.requires.fits in (
      subst (λ z. AreHomes (v.given + 1) z v.stops.numbers) (sym c.push_reserved.ensures.items)
          (homes_more v.given (v.given + 1) v.homes.items v.stops.numbers
          (record { epoch = c.args.epoch; class = c.args.class }) next c.self.invariant.0),
      omega (arith, fits),
      grind (arith, common_steps, room, c.push_reserved.ensures.len, c.self.invariant.2),
    )
