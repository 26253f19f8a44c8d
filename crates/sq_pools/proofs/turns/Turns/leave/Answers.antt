use Rattle.std.proofs.Common.{None, refl}
use Rattle.sq_buckets.proofs.MapLaws.{after, number_key}
use Rattle.sq_pools.proofs.turns.Turns.leave.Goals as goal

pub returns : goal.returns
returns c = rw (
  after _ _ number_key c.args.seat c.args.seat None _ c.remove-place.new.self.entries
      (c.remove-place.ensures.updates.0 c.args.seat),
  number_key.itself c.args.seat,
) refl
