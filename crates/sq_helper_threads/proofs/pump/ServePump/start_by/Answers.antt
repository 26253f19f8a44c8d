use Rattle.std.proofs.Common.{inl, inr, rules}
use Rattle.sq_helper_threads.specs.declared.halves.ProcIn.TheVariants.{Child}
use Rattle.sq_helper_threads.proofs.pump.ServePump.start_by.Goals as goal

pub returns-in-Ok-clause-starting : goal.returns-in-Ok-clause-starting
returns-in-Ok-clause-starting g c =
    inr (inr (inr (inl (
      c.args.words.now,
      c.in-Ok.from,
      Child c.in-Ok.to,
      search rules,
      search rules,
      search rules,
      record {
        empty = c.in-Ok.ensures.empty;
        is_open = c.in-Ok.ensures.open;
        from_fresh = c.in-Ok.ensures.fresh.0;
        to_fresh = c.in-Ok.ensures.fresh.1;
      },
      search rules,
      search rules,
      search rules,
    ))))
