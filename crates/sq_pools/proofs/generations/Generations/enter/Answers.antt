use Rattle.std.proofs.Common.{rules, ◌≡◌, ◌∙◌, ◌<◌, Some, ap, sym, suc}
use Rattle.std.specs.BTreeMap.{is_at}
use Rattle.std.specs.Ordering.{nat_cmp}
use Rattle.std.proofs.lemmas.Map.Steps.{set_value_same}
use Rattle.std.proofs.lemmas.Result.{err_from_is_err_and}
use Rattle.sq_machine.specs.PoolReadings.{is_aggregate}
use Rattle.sq_pools.specs.Generations.{generation_at, held_at}
use Rattle.sq_pools.specs.declared.generations.Generation.{Generation}
use Rattle.sq_pools.proofs.GenerationLaws.{HasAnother, entered_filled, entered_held, entered_made, held_there}
use Rattle.sq_buckets.proofs.MapLaws.{after, found, number_key}
use Rattle.sq_pools.proofs.generations.Generations.enter.Goals as goal

pub enter-requires-clause-held : goal.enter-requires-clause-held
enter-requires-clause-held c =
    let es = c.self.inside.map.entries in
    let g : Generation = c.in-Some.generation.now in
    let here : generation_at es c.args.epoch ≡ Some g = found _ _ number_key c.args.epoch es
    ∙ sym c.in-Some.ensures.value in
    let held : held_at es c.args.epoch ≡ g.held = held_there es c.args.epoch g here in
    let few : held_at es c.args.epoch < 9223372036854775808 = rw c.self.view_is c.requires.held in
    rw held at few

pub returns-in_err-enter-in-Some-clause-err : goal.returns-in_err-enter-in-Some-clause-err
returns-in_err-enter-in-Some-clause-err c =
    let g : Generation = c.in-Some.generation.now in
    let w : Generation = c.enter.new.self in
    let p = err_from_is_err_and c.from_residual.result c.from_residual.ensures.1 in
    let same : w ≡ g = c.in_err-enter-in-Some.ensures.err in
    rw (p.1, ← c.self.view_is)
    ((c.get_mut.follows.holds w).0
    ∙ set_value_same (is_at (nat_cmp c.args.epoch)) c.self.inside.map.entries w
    (sym c.in-Some.ensures.value ∙ ap (λ (x : Generation). Some x) (sym same)))

pub returns-in_ok-enter-in-Some-clause-made : goal.returns-in_ok-enter-in-Some-clause-made
returns-in_ok-enter-in-Some-clause-made c = λ e.
    let es = c.self.inside.map.entries in
    let g : Generation = c.in-Some.generation.now in
    let w : Generation = c.enter.new.self in
    let fs = (c.get_mut.follows.lender w).entries in
    let here : generation_at es c.args.epoch ≡ Some g = found _ _ number_key c.args.epoch es
    ∙ sym c.in-Some.ensures.value in
    let other : HasAnother c.args.epoch (Some w) es fs =
    λ q. after _ _ number_key q c.args.epoch (Some w) es fs (((c.get_mut.follows.holds w).3 (search rules)).0 q) in
    rw (← c.self.view_is) (entered_made c.args.epoch c.args.now g w es fs here other c.enter.ensures.made e)

pub returns-in_ok-enter-in-Some-clause-held : goal.returns-in_ok-enter-in-Some-clause-held
returns-in_ok-enter-in-Some-clause-held c = λ e.
    let es = c.self.inside.map.entries in
    let g : Generation = c.in-Some.generation.now in
    let w : Generation = c.enter.new.self in
    let fs = (c.get_mut.follows.lender w).entries in
    let here : generation_at es c.args.epoch ≡ Some g = found _ _ number_key c.args.epoch es
    ∙ sym c.in-Some.ensures.value in
    let other : HasAnother c.args.epoch (Some w) es fs =
    λ q. after _ _ number_key q c.args.epoch (Some w) es fs (((c.get_mut.follows.holds w).3 (search rules)).0 q) in
    rw (← c.self.view_is) (entered_held c.args.epoch w es fs other
    (c.in_ok-enter-in-Some.ensures.held ∙ ap suc (sym (held_there es c.args.epoch g here))) e)

pub returns-in_ok-enter-in-Some-clause-buckets : goal.returns-in_ok-enter-in-Some-clause-buckets
returns-in_ok-enter-in-Some-clause-buckets c = λ e s.
    let es = c.self.inside.map.entries in
    let g : Generation = c.in-Some.generation.now in
    let w : Generation = c.enter.new.self in
    let fs = (c.get_mut.follows.lender w).entries in
    let here : generation_at es c.args.epoch ≡ Some g = found _ _ number_key c.args.epoch es
    ∙ sym c.in-Some.ensures.value in
    let other : HasAnother c.args.epoch (Some w) es fs =
    λ q. after _ _ number_key q c.args.epoch (Some w) es fs (((c.get_mut.follows.holds w).3 (search rules)).0 q) in
    rw (← c.self.view_is) (entered_filled c.args.epoch c.args.initial c.args.now c.args.spots.now g w
    (is_aggregate c.args.pools.now) es fs here other c.enter.ensures.made
    c.in_ok-enter-in-Some.ensures.buckets e s)
