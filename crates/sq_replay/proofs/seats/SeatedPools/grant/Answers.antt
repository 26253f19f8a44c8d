use Rattle.std.proofs.Common.{◌≡◌, ◌∙◌, inl, inr, ℕ, max, Some, refl, sym, ap, subst}
use Rattle.sq_pools.specs.Basins.{IsGranted, grant_in, seat_in}
use Rattle.sq_replay.specs.Riding.{IsGrantedOf}
use Rattle.sq_replay.specs.Runs.{BothPools}
use Rattle.sq_replay.proofs.HoldingLaws.{held_addressed, held_tagged}
use Rattle.sq_replay.proofs.seats.SeatedPools.grant.Goals as goal

pub returns-in-ByAddress-clause-granted : goal.returns-in-ByAddress-clause-granted
returns-in-ByAddress-clause-granted c =
    let b = c.self.inside.pools in
    let p : BothPools = record { addressed = b; tagged = c.self.inside.tags } in
    let q : BothPools = record { addressed = c.grant.new.self; tagged = c.self.inside.tags } in
    let h = held_addressed c.self.inside.seats.entries p c.args.number c.in-ByAddress.seat c.self.invariant
    (ap Some (sym c.in-ByAddress.is) ∙ c.in_ok-seat.ensures.value) in
    subst (λ (z : BothPools). IsGrantedOf z q c.args.now c.args.number c.args.wanted c.grant.result) c.self.view_is
    (inl (
      record {
        used = h.used;
        amount_is = subst (λ (n : ℕ). c.grant.result ≡ grant_in b (max c.args.now b.latest) c.args.wanted (seat_in b n))
            h.number_is c.grant.ensures.amount;
        granted = subst (λ (n : ℕ). IsGranted b c.grant.new.self (max c.args.now b.latest) c.grant.result (seat_in b n))
            h.number_is c.grant.ensures.taken;
      },
      refl,
    ))

pub returns-in-ByTag-clause-granted : goal.returns-in-ByTag-clause-granted
returns-in-ByTag-clause-granted c =
    let b = c.self.inside.tags in
    let p : BothPools = record { addressed = c.self.inside.pools; tagged = b } in
    let q : BothPools = record { addressed = c.self.inside.pools; tagged = c.grant-in-ByTag.new.self } in
    let h = held_tagged c.self.inside.seats.entries p c.args.number c.in-ByTag.seat c.self.invariant
    (ap Some (sym c.in-ByTag.is) ∙ c.in_ok-seat.ensures.value) in
    subst (λ (z : BothPools). IsGrantedOf z q c.args.now c.args.number c.args.wanted c.grant-in-ByTag.result)
    c.self.view_is
    (inr (
      record {
        used = h.used;
        amount_is = subst (λ (n : ℕ). c.grant-in-ByTag.result ≡ grant_in b (max c.args.now b.latest) c.args.wanted
            (seat_in b n)) h.number_is c.grant-in-ByTag.ensures.amount;
        granted = subst (λ (n : ℕ). IsGranted b c.grant-in-ByTag.new.self (max c.args.now b.latest)
            c.grant-in-ByTag.result (seat_in b n)) h.number_is c.grant-in-ByTag.ensures.taken;
      },
      refl,
    ))
