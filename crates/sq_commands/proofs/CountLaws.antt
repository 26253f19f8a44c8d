-- How much an answer adds to what was counted.
use Rattle.std.proofs.Common.{◌≤◌, suc, Bool, true, false, arith}
use Rattle.sq_machine.specs.declared.entries.Told.{Told}
use Rattle.sq_machine.specs.declared.entries.Told.TheVariants as told
use Rattle.sq_rules.specs.declared.outcomes.Why.{Why}
use Rattle.sq_rules.specs.declared.outcomes.Why.TheVariants as why
use Rattle.sq_commands.specs.declared.summaries.Summary.{Summary}
use Rattle.sq_commands.specs.Summaries.{count_by, count_denied, count_told, total}

denied_total : (w : Why) (s : Summary) → total (count_denied w s) ≤ suc (total s)
denied_total (why.Fault rule acl cause) s = omega arith
denied_total (why.Rule n) s = omega arith
denied_total why.Default s = omega arith
denied_total why.Empty s = omega arith

outcome_total : (allow : Bool) (w : Why) (s : Summary) → total (count_by allow w s) ≤ suc (total s)
outcome_total true w s = omega arith
outcome_total false w s = denied_total w s

-- at most one more
pub told_total : (t : Told) (s : Summary) → total (count_told t s) ≤ suc (total s)
told_total (told.Check n) s = omega arith
told_total (told.Judged epoch outcome) s = outcome_total outcome.allow outcome.why s
told_total (told.Send proc question channel key) s = omega arith
told_total t s = omega arith
