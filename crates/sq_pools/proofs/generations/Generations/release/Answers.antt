use Rattle.std.proofs.Common.{rules, ◌≡◌, ◌∙◌, ◌<◌, ◌-◌, Some, cond, ap, sym, refl, arith}
use Rattle.sq_pools.specs.Generations.{filled_at, generation_at, held_at, made_at}
use Rattle.sq_buckets.specs.Grants.{bucket_at}
use Rattle.sq_pools.specs.declared.generations.Generation.{Generation}
use Rattle.sq_pools.proofs.GenerationLaws.{HasAnother, filled_then, filled_there, held_then, held_there, made_then, made_there}
use Rattle.sq_buckets.proofs.MapLaws.{after, by_key, found, number_key, same_there}
use Rattle.sq_pools.proofs.generations.Generations.release.Goals as goal

pub overflow_sub-generation : goal.overflow_sub-generation
overflow_sub-generation c =
    let es = c.self.inside.map.entries in
    let g : Generation = c.in-Some.generation.now in
    let here : generation_at es c.args.epoch ≡ Some g = found _ _ number_key c.args.epoch es
    ∙ sym c.in-Some.ensures.value in
    let held : held_at es c.args.epoch ≡ g.held = held_there es c.args.epoch g here in
    let some : 0 < held_at es c.args.epoch = rw c.self.view_is c.requires in
    omega arith

pub returns-clause-made : goal.returns-clause-made
returns-clause-made c = λ e.
    let es = c.self.inside.map.entries in
    let g : Generation = c.in-Some.generation.now in
    let w : Generation = record g { held = g.held - 1 } in
    let fs = (c.get_mut.follows.lender w).entries in
    let here : generation_at es c.args.epoch ≡ Some g = found _ _ number_key c.args.epoch es
    ∙ sym c.in-Some.ensures.value in
    let other : HasAnother c.args.epoch (Some w) es fs =
    λ q. after _ _ number_key q c.args.epoch (Some w) es fs (((c.get_mut.follows.holds w).3 (search rules)).0 q) in
    rw (← c.self.view_is) (made_then c.args.epoch (Some w) es fs other e
    ∙ same_there e c.args.epoch (made_at es) (Some w.made) (sym (made_there es c.args.epoch g here)))

pub returns-clause-held : goal.returns-clause-held
returns-clause-held c = λ e.
    let es = c.self.inside.map.entries in
    let g : Generation = c.in-Some.generation.now in
    let w : Generation = record g { held = g.held - 1 } in
    let fs = (c.get_mut.follows.lender w).entries in
    let here : generation_at es c.args.epoch ≡ Some g = found _ _ number_key c.args.epoch es
    ∙ sym c.in-Some.ensures.value in
    let other : HasAnother c.args.epoch (Some w) es fs =
    λ q. after _ _ number_key q c.args.epoch (Some w) es fs (((c.get_mut.follows.holds w).3 (search rules)).0 q) in
    rw (← c.self.view_is) (held_then c.args.epoch (Some w) es fs other e
    ∙ by_key e c.args.epoch (λ n b. cond b w.held (held_at es n) ≡ cond b (held_at es n - 1) (held_at es n))
    (ap (λ n. n - 1) (sym (held_there es c.args.epoch g here))) (λ t. refl))

pub returns-clause-buckets : goal.returns-clause-buckets
returns-clause-buckets c = λ e s.
    let es = c.self.inside.map.entries in
    let g : Generation = c.in-Some.generation.now in
    let w : Generation = record g { held = g.held - 1 } in
    let fs = (c.get_mut.follows.lender w).entries in
    let here : generation_at es c.args.epoch ≡ Some g = found _ _ number_key c.args.epoch es
    ∙ sym c.in-Some.ensures.value in
    let other : HasAnother c.args.epoch (Some w) es fs =
    λ q. after _ _ number_key q c.args.epoch (Some w) es fs (((c.get_mut.follows.holds w).3 (search rules)).0 q) in
    rw (← c.self.view_is) (filled_then c.args.epoch (Some w) es fs other e s
    ∙ same_there e c.args.epoch (λ n. filled_at es n s) (bucket_at w.buckets s)
    (sym (filled_there es c.args.epoch g s here)))
