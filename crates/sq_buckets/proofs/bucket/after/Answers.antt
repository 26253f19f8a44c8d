use Rattle.sq_buckets.proofs.LevelLaws.{seconds_written}
use Rattle.sq_buckets.proofs.bucket.after.Goals as goal

pub returns : goal.returns
returns c = rw (← c.bucket.view_is, ← c.limit.view_is)
    (seconds_written _ c.args.count _ c.min-level.result
    (rw (← c.bucket.view_is, ← c.limit.view_is) at c.requires.within) c.min-level.ensures)
