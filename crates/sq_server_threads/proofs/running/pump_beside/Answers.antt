-- one thing after the other: as one search it would be too long
use Rattle.std.proofs.Common.{rules}
use Rattle.sq_server_threads.proofs.running.pump_beside.Goals as goal

pub join-sums-requires-after_bounds : goal.join-sums-requires-after_bounds
join-sums-requires-after_bounds g c κs within = (
  (
    (
      search rules,
      search rules,
      search rules,
      search rules,
      search rules,
    ),
    (
      search rules,
      search rules,
      search rules,
      search rules,
      search rules,
      search rules,
      search rules,
      search rules,
      search rules,
    ),
  ),
  (
    (
      search rules,
      search rules,
      search rules,
      search rules,
      search rules,
      search rules,
      search rules,
      c.requires.some.0,
      c.requires.some.1,
      c.requires.asked.0,
      c.requires.asked.1,
      c.requires.refused,
      c.requires.grants.0,
      c.requires.grants.1,
    ),
    (
      search rules,
      search rules,
      search rules,
      search rules,
      search rules,
      search rules,
      search rules,
      search rules,
      search rules,
      search rules,
      search rules,
    ),
  ),
)
