use Rattle.std.proofs.Common.{◌≡◌, ◌∙◌, ◌≤◌, ◌<◌, suc, ap, sym, subst, arith}
use Rattle.sq_machine.specs.Limits.{last_number}
use Rattle.sq_machine.specs.PoolReadings.{sat_in}
use Rattle.sq_pools.specs.Basins.{Basin, HasPassed, seat_in}
use Rattle.sq_replay.specs.Runs.{BothPools}
use Rattle.sq_replay.proofs.HoldingLaws.{held_more, passes}
use Rattle.sq_replay.proofs.seats.SeatedPools.choose.Goals as goal

pub invariant_of-self-in-Ok : goal.invariant_of-self-in-Ok
invariant_of-self-in-Ok c =
    let t = c.self.inside.tags in
    let even : t.given ≡ c.self.inside.pools.given = c.self.invariant.even in
    let spare : suc c.choose.new.self.given ≤ last_number = c.facts-2.ensures.spare in
    let given : c.choose.new.self.given ≡ suc c.self.inside.pools.given = c.in_ok-seat.ensures.chosen.given in
    let low : suc t.given < last_number = omega arith in
    let away : HasPassed t c.pass-passed.new.self = c.pass-passed.ensures.passed
    (passes c.pass-passed.result t.given c.pass-passed.ensures.spent low) in
    let p : BothPools = record { addressed = c.self.inside.pools; tagged = c.self.inside.tags } in
    let q : BothPools = record { addressed = c.choose.new.self; tagged = c.pass-passed.new.self } in
    held_more c.self.inside.seats.entries c.insert.new.self.entries p q c.number-number.result
    c.in_ok-seat.seat (suc p.addressed.given)
    (sat_in c.args.epoch c.args.config.now.value c.args.pool c.args.addr) c.self.invariant c.facts.ensures (omega arith)
    (c.number-number.ensures ∙ c.in_ok-seat.ensures.number) c.in_ok-seat.ensures.number
    c.in-Ok.ensures.updates.0 c.in_ok-seat.ensures.chosen.seats
    (λ n. ap (λ (b : Basin). seat_in b n) away)
    (ap (λ (b : Basin). b.given) away ∙ ap suc c.self.invariant.even
    ∙ sym c.in_ok-seat.ensures.chosen.given)

pub returns-in-Ok-clause-few : goal.returns-in-Ok-clause-few
returns-in-Ok-clause-few c =
    let p = c.self.inside.pools in
    let spare : suc c.choose.new.self.given ≤ last_number = c.facts-2.ensures.spare in
    let given : c.choose.new.self.given ≡ suc p.given = c.in_ok-seat.ensures.chosen.given in
    let few : suc p.given < last_number = omega arith in
    subst (λ (z : BothPools). suc z.addressed.given < last_number) c.self.view_is few
