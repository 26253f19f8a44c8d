use Rattle.sq_machine.specs.PoolReadings.{is_aggregate}
use Rattle.sq_pools.proofs.GenerationLaws.{begun_filled, begun_held, begun_made, made_absent}
use Rattle.sq_pools.proofs.generations.Generations.begin.Goals as goal

pub returns-clause-made : goal.returns-clause-made
returns-clause-made c =
    begun_made c.args.epoch c.args.now c.in_ok-generation.generation c.args.self.now c.put.new.self
    (made_absent c.args.self.now c.args.epoch c.requires.free) c.in_ok-put.ensures.ok c.in_ok-generation.ensures.made

pub returns-clause-held : goal.returns-clause-held
returns-clause-held c =
    begun_held c.args.epoch c.in_ok-generation.generation c.args.self.now c.put.new.self
    (made_absent c.args.self.now c.args.epoch c.requires.free) c.in_ok-put.ensures.ok c.in_ok-generation.ensures.held

pub returns-clause-buckets : goal.returns-clause-buckets
returns-clause-buckets c =
    begun_filled c.args.epoch c.args.initial c.in_ok-generation.generation
    (is_aggregate c.args.pools.now) c.args.self.now c.put.new.self
    (made_absent c.args.self.now c.args.epoch c.requires.free) c.in_ok-put.ensures.ok c.in_ok-generation.ensures.buckets
