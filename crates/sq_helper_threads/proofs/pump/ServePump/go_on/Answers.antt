use Rattle.std.proofs.Common.{rules}
use Rattle.sq_helper_threads.specs.Pumps.{step}
use Rattle.sq_helper_threads.proofs.EntryLaws.{begun}
use Rattle.sq_helper_threads.proofs.pump.ServePump.go_on.Goals as goal

pub returns-in-None-clause-turns : goal.returns-in-None-clause-turns
returns-in-None-clause-turns g c =
    begun _ (step c.args.now c.args.self.now c.begin.result c.begin.new.self) _ (search rules) (search rules)
    c.begin.ensures.begins
