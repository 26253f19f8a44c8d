use Rattle.std.proofs.Common.{◌∙◌, ap}
use Rattle.sq_buckets.specs.Grants.{without_bucket}
use Rattle.sq_buckets.proofs.MapLaws.{removed, spot_key}
use Rattle.sq_buckets.proofs.buckets.Buckets.remove.Goals as goal

pub returns : goal.returns
returns c = c.remove-was.ensures.entries ∙ removed _ _ spot_key c.args.spot.now c.self.inside.map.entries
    ∙ ap (without_bucket c.args.spot.now) c.self.view_is
