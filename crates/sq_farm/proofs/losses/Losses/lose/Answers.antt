use Rattle.std.proofs.Common.{arith}
use Rattle.std.proofs.lemmas.Grind.{common_steps}
use Rattle.sq_farm.proofs.LostLaws.{insert_lose, rises_lose}
use Rattle.sq_channel.proofs.RisingLaws.{on_ok}
use Rattle.sq_farm.proofs.losses.Losses.lose.Goals as goal

pub invariant_of-self : goal.invariant_of-self
invariant_of-self c =
    let ls = c.self.inside.items.items in
    let q = c.args.question in
    let room = rw (← c.self.view_is) at c.requires.room in
    let put = on_ok c.insert.result c.insert.ensures.items c.insert.ensures.full
    (λ full. grind (arith, common_steps, room, full)) in
    rw (put, c.place_of-place.ensures.place, insert_lose q c.args.cause ls)
    (rises_lose q c.args.cause ls (rw (← c.self.view_is) at c.requires.other) c.self.invariant)

pub returns-clause-losses : goal.returns-clause-losses
returns-clause-losses c =
    let ls = c.self.inside.items.items in
    let q = c.args.question in
    let room = rw (← c.self.view_is) at c.requires.room in
    let put = on_ok c.insert.result c.insert.ensures.items c.insert.ensures.full
    (λ full. grind (arith, common_steps, room, full)) in
    rw (← c.self.view_is, put, c.place_of-place.ensures.place) (insert_lose q c.args.cause ls)
