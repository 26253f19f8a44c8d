use Rattle.std.proofs.Common.{inr, rules}
use Rattle.sq_helper_threads.specs.declared.halves.ProcIn.TheVariants.{Asker}
use Rattle.sq_helper_threads.proofs.pump.ServePump.start_asker.Goals as goal

pub returns-in-Some-clause-asking : goal.returns-in-Some-clause-asking
returns-in-Some-clause-asking g c = inr (
  c.in-Some.from,
  Asker c.in-Some.to,
  search rules,
  record { starts = search rules; faults = search rules },
  search rules,
  search rules,
)
