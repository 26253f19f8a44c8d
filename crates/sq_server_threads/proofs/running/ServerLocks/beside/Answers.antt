-- one thing after the other: as one search it would be too long
use Rattle.std.proofs.Common.{rules, arith}
use Rattle.sq_server_threads.proofs.running.ServerLocks.beside.Goals as goal

pub join-requires-after_bounds : goal.join-requires-after_bounds
join-requires-after_bounds g c κs within = (
  (
    (
      search rules,
      search rules,
      search rules,
      search rules,
      search rules,
      search rules,
      search rules,
      search rules,
      search rules,
      search rules,
      search rules,
      search rules,
      c.requires.some.0,
      c.requires.some.1,
      c.requires.asked.0,
      c.requires.asked.1,
      omega arith,
      c.requires.grants.0,
      c.requires.grants.1,
    ),
    (
      search rules,
      search rules,
      search rules,
      search rules,
      search rules,
      search rules,
      search rules,
      search rules,
      search rules,
      search rules,
      search rules,
      search rules,
      search rules,
      search rules,
      search rules,
      search rules,
      search rules,
    ),
  ),
  (
    (
      c.requires.counting,
      c.requires.made.0,
      c.requires.made.1,
      c.requires.made.2,
      omega arith,
    ),
    (
      search rules,
      search rules,
      search rules,
      search rules,
      search rules,
      search rules,
      search rules,
      search rules,
      search rules,
    ),
  ),
)
