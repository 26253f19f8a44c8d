use Rattle.std.proofs.Common.{◌∙◌, refl, ap, sym, suc}
use Rattle.sq_machine.specs.PoolReadings.{has_spot, is_aggregate}
use Rattle.sq_pools.proofs.GenerationLaws.{begun_made, entered_held, held_absent, made_filled, opened_alike}
use Rattle.sq_pools.proofs.generations.Generations.enter_new.Goals as goal

pub returns-clause-made : goal.returns-clause-made
returns-clause-made c =
    begun_made c.args.epoch c.args.now c.enter.new.self c.args.self.now c.put.new.self c.requires.free
    c.in_ok-put.ensures.ok (c.enter.ensures.made ∙ c.in_ok-generation.ensures.made)

pub returns-clause-held : goal.returns-clause-held
returns-clause-held c =
    entered_held c.args.epoch c.enter.new.self c.args.self.now c.put.new.self c.in_ok-put.ensures.ok
    (c.in_ok-enter.ensures.held
    ∙ ap suc (c.in_ok-generation.ensures.held ∙ sym (held_absent c.args.self.now c.args.epoch c.requires.free)))

pub returns-clause-buckets : goal.returns-clause-buckets
returns-clause-buckets c =
    made_filled c.args.epoch c.args.initial c.args.now c.args.spots.now c.enter.new.self
    (is_aggregate c.args.pools.now) c.args.self.now c.put.new.self
    c.requires.free c.in_ok-put.ensures.ok (c.enter.ensures.made ∙ c.in_ok-generation.ensures.made)
    (λ s. c.in_ok-enter.ensures.buckets s
    ∙ opened_alike (has_spot c.args.spots.now s) c.args.initial c.args.initial
    c.in_ok-generation.generation.made c.args.now s _ _
    refl c.in_ok-generation.ensures.made (c.in_ok-generation.ensures.buckets s))
