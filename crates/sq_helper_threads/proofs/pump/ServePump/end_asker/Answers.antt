-- one thing after the other: as one search it would be too long
use Rattle.std.proofs.Common.{inr, refl, rules}
use Rattle.sq_helper_threads.proofs.pump.ServePump.end_asker.Goals as goal

pub returns-in-Some-clause-some : goal.returns-in-Some-clause-some
returns-in-Some-clause-some g c = λ _. record {
  proc = c.in-Some.half.proc;
  found = c.asker_waited.new.self;
  finds = inr (c.in-Some.half, refl, search rules, search rules);
  closes = search rules;
  hands = search rules;
  same = search rules;
}
