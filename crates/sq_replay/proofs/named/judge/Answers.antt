use Rattle.std.proofs.Common.{rules}
use Rattle.sq_replay.proofs.named.judge.Goals as goal

pub returns-in-Err-At-clause-judges : goal.returns-in-Err-At-clause-judges
returns-in-Err-At-clause-judges c = c.in-Err-At.ensures.err c.in-Err-At.fault.line c.in-Err-At.fault.kind (search rules)
