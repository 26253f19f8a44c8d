use Rattle.std.proofs.Common.{inr, rules}
use Rattle.sq_rewrite.proofs.pump.RewritePump.start.Goals as goal

pub returns-in-Ok-clause-starts : goal.returns-in-Ok-clause-starts
returns-in-Ok-clause-starts g c =
    inr (
      c.in-Ok.from,
      c.in-Ok.to,
      search rules,
      record {
        empty = c.in-Ok.ensures.empty;
        is_open = c.in-Ok.ensures.open;
        from_fresh = c.in-Ok.ensures.fresh.0;
        to_fresh = c.in-Ok.ensures.fresh.1;
      },
      search rules,
      search rules,
    )
