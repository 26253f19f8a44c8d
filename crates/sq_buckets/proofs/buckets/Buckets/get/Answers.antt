use Rattle.std.proofs.Common.{◌∙◌, sym}
use Rattle.sq_buckets.proofs.MapLaws.{found, spot_key}
use Rattle.sq_buckets.proofs.buckets.Buckets.get.Goals as goal

pub returns : goal.returns
returns c = rw (← c.self.view_is)
    (c.copied.ensures ∙ c.get.ensures.value ∙ sym (found _ _ spot_key c.args.spot.now c.self.inside.map.entries))
