use Rattle.std.proofs.Common.{arith}
use Rattle.std.proofs.lemmas.Grind.{common_steps}
use Rattle.sq_channel.proofs.RisingLaws.{on_ok, rises_insert}
use Rattle.sq_epochs.proofs.HomeLaws.{insert_number}
use Rattle.sq_epochs.proofs.stops.Stops.put.Goals as goal

pub invariant_of-self : goal.invariant_of-self
invariant_of-self c =
    let ns = c.self.inside.items.items in
    let k = c.args.proc in
    let room = rw (← c.self.view_is) at c.requires.room in
    let put = on_ok c.insert.result c.insert.ensures.items c.insert.ensures.full
    (λ full. grind (arith, common_steps, room, full)) in
    rw (put, c.place_of-place.ensures.place)
    (rises_insert k ns (rw (← c.self.view_is) at c.requires.other) c.self.invariant)

pub returns-clause-numbers : goal.returns-clause-numbers
returns-clause-numbers c =
    let ns = c.self.inside.items.items in
    let k = c.args.proc in
    let room = rw (← c.self.view_is) at c.requires.room in
    let put = on_ok c.insert.result c.insert.ensures.items c.insert.ensures.full
    (λ full. grind (arith, common_steps, room, full)) in
    rw (← c.self.view_is, put, c.place_of-place.ensures.place) (insert_number k ns)
