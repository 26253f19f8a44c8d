-- that the parts of the net, the desk and the books cross threads, one after the other:
-- as one search it would be too long
use Rattle.std.proofs.Common.{rules}
use Rattle.sq_helper_threads.proofs.pumping.pump_all.Goals as goal

pub scoped-requires : goal.scoped-requires
scoped-requires g c = record {
  at = λ a. (
    (
      search rules,
      search rules,
      search rules,
      search rules,
      search rules,
      search rules,
      search rules,
      search rules,
    ),
    search rules depth 60 fits 60000,
  );
}
