use Rattle.std.proofs.Common.{rules}
use Rattle.sq_helper_threads.proofs.RoundLaws.{ended_behind}
use Rattle.sq_helper_threads.proofs.pump.ServePump.end_waited.Goals as goal

pub returns-clause-some : goal.returns-clause-some
returns-clause-some g c = λ is.
    ended_behind _ c.args.now c.args.self.now c.end_program.new.self c.end_asker.new.self
    (c.end_program.ensures.none (search rules)).1 (c.end_asker.ensures.some is)
