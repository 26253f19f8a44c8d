-- one thing after the other: as one search it would be too long
use Rattle.std.proofs.Common.{rules}
use Rattle.sq_rewrite.proofs.pump.RewritePump.end_waited.Goals as goal

pub returns-in-Some-clause-some : goal.returns-in-Some-clause-some
returns-in-Some-clause-some g c = λ _. record {
  half = c.in-Some.half;
  takes = search rules;
  closes = search rules;
  hands = search rules;
  same = search rules;
}
