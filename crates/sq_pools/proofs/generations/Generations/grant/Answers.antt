use Rattle.std.proofs.Common.{rules, ◌≡◌, ◌∙◌, ℕ, Some, ap, sym}
use Rattle.sq_pools.specs.Generations.{generation_at, held_at, made_at}
use Rattle.sq_pools.specs.declared.generations.Generation.{Generation}
use Rattle.sq_pools.proofs.GenerationLaws.{HasAnother, granted_then, held_then, held_there, made_then, made_there}
use Rattle.sq_buckets.proofs.MapLaws.{after, found, number_key, same_there}
use Rattle.sq_pools.proofs.generations.Generations.grant.Goals as goal

pub returns-clause-made : goal.returns-clause-made
returns-clause-made c = λ e.
    let es = c.self.inside.map.entries in
    let g : Generation = c.in-Some.generation.now in
    let w : Generation = c.grant.new.self in
    let fs = (c.get_mut.follows.lender w).entries in
    let here : generation_at es c.args.epoch ≡ Some g = found _ _ number_key c.args.epoch es
    ∙ sym c.in-Some.ensures.value in
    let other : HasAnother c.args.epoch (Some w) es fs =
    λ q. after _ _ number_key q c.args.epoch (Some w) es fs (((c.get_mut.follows.holds w).3 (search rules)).0 q) in
    rw (← c.self.view_is) (made_then c.args.epoch (Some w) es fs other e
    ∙ same_there e c.args.epoch (made_at es) (Some w.made)
    (ap (λ (m : ℕ). Some m) c.grant.ensures.made ∙ sym (made_there es c.args.epoch g here)))

pub returns-clause-held : goal.returns-clause-held
returns-clause-held c = λ e.
    let es = c.self.inside.map.entries in
    let g : Generation = c.in-Some.generation.now in
    let w : Generation = c.grant.new.self in
    let fs = (c.get_mut.follows.lender w).entries in
    let here : generation_at es c.args.epoch ≡ Some g = found _ _ number_key c.args.epoch es
    ∙ sym c.in-Some.ensures.value in
    let other : HasAnother c.args.epoch (Some w) es fs =
    λ q. after _ _ number_key q c.args.epoch (Some w) es fs (((c.get_mut.follows.holds w).3 (search rules)).0 q) in
    rw (← c.self.view_is) (held_then c.args.epoch (Some w) es fs other e
    ∙ same_there e c.args.epoch (held_at es) w.held (c.grant.ensures.held ∙ sym (held_there es c.args.epoch g here)))

pub returns-clause-taken : goal.returns-clause-taken
returns-clause-taken c = λ e s.
    let es = c.self.inside.map.entries in
    let g : Generation = c.in-Some.generation.now in
    let w : Generation = c.grant.new.self in
    let fs = (c.get_mut.follows.lender w).entries in
    let here : generation_at es c.args.epoch ≡ Some g = found _ _ number_key c.args.epoch es
    ∙ sym c.in-Some.ensures.value in
    let other : HasAnother c.args.epoch (Some w) es fs =
    λ q. after _ _ number_key q c.args.epoch (Some w) es fs (((c.get_mut.follows.holds w).3 (search rules)).0 q) in
    rw (← c.self.view_is) (granted_then c.args.epoch c.args.now c.grant.result c.args.spots.now g w es fs here other
    c.grant.ensures.taken e s)
