use Rattle.std.proofs.Common.{◌≡◌, ◌∙◌, ap, Some, None}
use Rattle.sq_machine.specs.PoolReadings.{BucketSpot}
use Rattle.sq_buckets.specs.Grants.{bucket_at, without_bucket}
use Rattle.sq_buckets.proofs.MapLaws.{after, put_undone, spot_key}
use Rattle.sq_buckets.proofs.buckets.Buckets.put.Goals as goal

pub returns-clause-ok : goal.returns-clause-ok
returns-clause-ok c = λ s. rw (← c.self.view_is, ← c.in_ok-name.ensures)
    (after _ _ spot_key s c.in_ok-name.name (Some c.args.bucket) c.self.inside.map.entries c.insert.new.self.entries
    (c.in_ok-_was.ensures.updates.0 s))

pub returns-clause-undo : goal.returns-clause-undo
returns-clause-undo c =
    let name : BucketSpot = c.in_ok-name.name in
    let free : bucket_at c.self.inside.map.entries name ≡ None = rw (c.self.view_is, c.in_ok-name.ensures) c.requires in
    rw (← c.in_ok-name.ensures) (ap (without_bucket name) c.in_ok-_was.ensures.entries
    ∙ put_undone _ _ spot_key name c.args.bucket c.self.inside.map.entries free ∙ c.self.view_is)
