use Rattle.std.proofs.Common.{◌≡◌, ◌==◌, ◌∙◌, inl, inr, ℕ, None, Some, if◌then◌else◌, refl, sym, ap, subst}
use Rattle.sq_pools.specs.Basins.{HasLeft, seat_in}
use Rattle.sq_replay.specs.Riding.{HasLeftOf}
use Rattle.sq_replay.specs.Runs.{BothPools}
use Rattle.sq_replay.proofs.HoldingLaws.{held_addressed, held_less, held_tagged, left_alone, not_addressed}
use Rattle.sq_replay.proofs.seats.SeatedPools.leave.Goals as goal

pub invariant_of-self-in-Some-ByAddress : goal.invariant_of-self-in-Some-ByAddress
invariant_of-self-in-Some-ByAddress c =
    let es = c.self.inside.seats.entries in
    let k = c.args.number in
    let p : BothPools = record { addressed = c.self.inside.pools; tagged = c.self.inside.tags } in
    let q : BothPools = record { addressed = c.leave.new.self; tagged = c.self.inside.tags } in
    let h = held_addressed es p k c.in-Some-ByAddress.seat c.self.invariant
    (ap Some (sym c.in-Some-ByAddress.field-0-is) ∙ c.in-Some-ByAddress.ensures.value) in
    held_less es c.remove.new.self.entries p q k c.self.invariant c.remove.ensures.updates.0
    (subst (λ (x : ℕ). (n : ℕ) → seat_in q.addressed n ≡ (if n == x then None else seat_in p.addressed n)) h.number_is
    c.leave.ensures.seats)
    (left_alone p.tagged k (c.self.invariant.apart k h.used)) (c.self.invariant.even ∙ sym c.leave.ensures.given)

pub invariant_of-self-in-Some-ByTag : goal.invariant_of-self-in-Some-ByTag
invariant_of-self-in-Some-ByTag c =
    let es = c.self.inside.seats.entries in
    let k = c.args.number in
    let p : BothPools = record { addressed = c.self.inside.pools; tagged = c.self.inside.tags } in
    let q : BothPools = record { addressed = c.self.inside.pools; tagged = c.leave-in-Some-ByTag.new.self } in
    let h = held_tagged es p k c.in-Some-ByTag.seat c.self.invariant
    (ap Some (sym c.in-Some-ByTag.field-0-is) ∙ c.in-Some-ByTag.ensures.value) in
    held_less es c.remove.new.self.entries p q k c.self.invariant c.remove.ensures.updates.0
    (left_alone p.addressed k (not_addressed es p k c.self.invariant h.used))
    (subst (λ (x : ℕ). (n : ℕ) → seat_in q.tagged n ≡ (if n == x then None else seat_in p.tagged n)) h.number_is
    c.leave-in-Some-ByTag.ensures.seats)
    (c.leave-in-Some-ByTag.ensures.given ∙ c.self.invariant.even)

pub returns-in-Some-ByAddress-clause-left : goal.returns-in-Some-ByAddress-clause-left
returns-in-Some-ByAddress-clause-left c = λ _.
    let p : BothPools = record { addressed = c.self.inside.pools; tagged = c.self.inside.tags } in
    let q : BothPools = record { addressed = c.leave.new.self; tagged = c.self.inside.tags } in
    let h = held_addressed c.self.inside.seats.entries p c.args.number c.in-Some-ByAddress.seat c.self.invariant
    (ap Some (sym c.in-Some-ByAddress.field-0-is) ∙ c.in-Some-ByAddress.ensures.value) in
    subst (λ (z : BothPools). HasLeftOf z q c.args.number) c.self.view_is
    (inl (
      record {
        used = h.used;
        left = subst (λ (x : ℕ). HasLeft p.addressed q.addressed x) h.number_is c.leave.ensures;
      },
      refl,
    ))

pub returns-in-Some-ByTag-clause-left : goal.returns-in-Some-ByTag-clause-left
returns-in-Some-ByTag-clause-left c = λ _.
    let p : BothPools = record { addressed = c.self.inside.pools; tagged = c.self.inside.tags } in
    let q : BothPools = record { addressed = c.self.inside.pools; tagged = c.leave-in-Some-ByTag.new.self } in
    let h = held_tagged c.self.inside.seats.entries p c.args.number c.in-Some-ByTag.seat c.self.invariant
    (ap Some (sym c.in-Some-ByTag.field-0-is) ∙ c.in-Some-ByTag.ensures.value) in
    subst (λ (z : BothPools). HasLeftOf z q c.args.number) c.self.view_is
    (inr (
      record {
        used = h.used;
        left = subst (λ (x : ℕ). HasLeft p.tagged q.tagged x) h.number_is c.leave-in-Some-ByTag.ensures;
      },
      refl,
    ))
