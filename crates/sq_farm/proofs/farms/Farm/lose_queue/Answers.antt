use Rattle.std.proofs.Common.{map, true, arith}
use Rattle.std.proofs.lemmas.List.{length-map}
use Rattle.sq_base.specs.declared.helpers.Cause.TheVariants as cause
use Rattle.sq_machine.specs.Farms.{waiting_number}
use Rattle.sq_farm.proofs.FarmLaws.{IsStock_emptied, length_lose_all, once_failed}
use Rattle.sq_farm.proofs.farms.Farm.lose_queue.Goals as goal

pub lose_waiting-requires-clause-once : goal.lose_waiting-requires-clause-once
lose_waiting-requires-clause-once c = once_failed _ c.self.invariant.0

pub invariant_of-self : goal.invariant_of-self
invariant_of-self c =
    let f = c.self.inside in
    let all = length_lose_all cause.NoHelper (map waiting_number f.queue.items) f.losses.losses in
    let n = length-map f.queue.items waiting_number in
    rw (c.lose_waiting.ensures.queue, c.lose_waiting.ensures.losses) (
      IsStock_emptied _ true c.self.invariant.0,
      c.self.invariant.1,
      grind (arith, all, n, c.lose_waiting.ensures.room, c.self.invariant.2),
    )
