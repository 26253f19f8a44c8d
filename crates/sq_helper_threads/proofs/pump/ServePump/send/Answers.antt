-- one thing after the other: as one search it would be too long
use Rattle.std.proofs.Common.{inl, inr, refl, rules, ⊎_elim}
use Rattle.sq_helper_threads.proofs.pump.ServePump.send.Goals as goal

pub returns-in-Written : goal.returns-in-Written
returns-in-Written g c = record {
  sending = inl (
    refl,
    record {
      spawner = record { starts = search rules; faults = search rules };
      readers = search rules;
      asking = search rules;
      first = search rules;
      told = search rules;
      refused = search rules;
      stopped = search rules;
      made = search rules;
      left = search rules;
    },
    ⊎_elim
        (λ is. inl (rw (← c.self.view_is, ← c.as_bytes.ensures.value) (c.send-sent.ensures.written is)))
        (λ is. inr (rw (← c.self.view_is) (c.send-sent.ensures.absent is)))
        c.in-Written.is,
  );
  counts = search rules;
}

pub returns-in-Failed-clause-sending : goal.returns-in-Failed-clause-sending
returns-in-Failed-clause-sending g c = inr (
  rw (c.report_died.ensures.halves.pipes, ← c.self.view_is, ← c.as_bytes.ensures.value)
      (c.send-sent.ensures.failed c.in-Failed.is),
  record { starts = search rules; faults = search rules },
  search rules,
  search rules,
  search rules,
)
