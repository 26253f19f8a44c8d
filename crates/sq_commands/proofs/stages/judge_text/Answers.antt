use Rattle.std.proofs.Common.{inl, ap, rules}
use Rattle.sq_commands.specs.Commands.{conf_read}
use Rattle.sq_commands.proofs.stages.judge_text.Goals as goal

pub returns-in-Err-At-clause-comes : goal.returns-in-Err-At-clause-comes
returns-in-Err-At-clause-comes c = inl
    (ap conf_read (c.in-Err-At.ensures.err c.in-Err-At.fault.line c.in-Err-At.fault.kind (search rules)))
