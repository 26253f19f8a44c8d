use Rattle.std.proofs.Common.{◌≡◌, ◌∙◌, ◌≤◌, ◌<◌, suc, ap, sym, subst, arith}
use Rattle.sq_machine.specs.Limits.{last_number}
use Rattle.sq_machine.specs.PoolReadings.{tag_sat_in}
use Rattle.sq_pools.specs.Basins.{Basin, HasPassed, seat_in}
use Rattle.sq_replay.specs.Runs.{BothPools}
use Rattle.sq_replay.proofs.HoldingLaws.{passes, tag_held_more}
use Rattle.sq_replay.proofs.seats.SeatedPools.choose_tag.Goals as goal

pub invariant_of-self-in-Ok : goal.invariant_of-self-in-Ok
invariant_of-self-in-Ok c =
    let a = c.self.inside.pools in
    let same : c.self.inside.tags.given ≡ a.given = c.self.invariant.even in
    let spare : suc c.choose.new.self.given ≤ last_number = c.facts-2.ensures.spare in
    let given : c.choose.new.self.given ≡ suc c.self.inside.tags.given = c.in_ok-seat.ensures.chosen.given in
    let low : suc a.given < last_number = omega arith in
    let away : HasPassed a c.pass-passed.new.self = c.pass-passed.ensures.passed
    (passes c.pass-passed.result a.given c.pass-passed.ensures.spent low) in
    let p : BothPools = record { addressed = c.self.inside.pools; tagged = c.self.inside.tags } in
    let q : BothPools = record { addressed = c.pass-passed.new.self; tagged = c.choose.new.self } in
    let even : p.tagged.given ≡ p.addressed.given = c.self.invariant.even in
    let number : c.in_ok-seat.seat ≡ suc p.addressed.given = c.in_ok-seat.ensures.number ∙ ap suc even in
    tag_held_more c.self.inside.seats.entries c.insert.new.self.entries p q c.number-number.result
    c.in_ok-seat.seat (suc p.addressed.given)
    (tag_sat_in c.args.epoch c.args.config.now.value c.args.pool c.args.tag.now) c.self.invariant c.facts.ensures
    (omega arith) (c.number-number.ensures ∙ number) number
    c.in-Ok.ensures.updates.0 (rw (← even) c.in_ok-seat.ensures.chosen.seats)
    (λ n. ap (λ (b : Basin). seat_in b n) away)
    (c.in_ok-seat.ensures.chosen.given ∙ ap suc even ∙ sym (ap (λ (b : Basin). b.given) away))

pub returns-in-Ok-clause-number : goal.returns-in-Ok-clause-number
returns-in-Ok-clause-number c =
    let even = c.self.invariant.even in
    subst (λ (z : BothPools). c.number-number.result ≡ suc z.addressed.given) c.self.view_is
    (c.number-number.ensures ∙ c.in_ok-seat.ensures.number ∙ ap suc even)

pub returns-in-Ok-clause-few : goal.returns-in-Ok-clause-few
returns-in-Ok-clause-few c =
    let p = c.self.inside.pools in
    let t = c.self.inside.tags in
    let even : t.given ≡ p.given = c.self.invariant.even in
    let spare : suc c.choose.new.self.given ≤ last_number = c.facts-2.ensures.spare in
    let given : c.choose.new.self.given ≡ suc t.given = c.in_ok-seat.ensures.chosen.given in
    let few : suc p.given < last_number = omega arith in
    subst (λ (z : BothPools). suc z.addressed.given < last_number) c.self.view_is few
