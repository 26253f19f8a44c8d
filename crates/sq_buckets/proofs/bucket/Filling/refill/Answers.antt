use Rattle.sq_buckets.proofs.LevelLaws.{filled_later}
use Rattle.sq_buckets.proofs.bucket.Filling.refill.Goals as goal

pub invariant_of-self : goal.invariant_of-self
invariant_of-self c = rw c.after-self-inside.ensures
    (filled_later (record { limit = c.self.inside.limit; second = c.self.inside.second; tally = c.self.inside.bucket })
    c.args.second c.self.invariant c.if-second-self.false c.requires)
