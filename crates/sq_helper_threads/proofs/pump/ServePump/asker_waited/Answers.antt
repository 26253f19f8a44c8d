use Rattle.std.proofs.Common.{rules}
use Rattle.sq_helper_threads.proofs.RoundLaws.{taken_there}
use Rattle.sq_helper_threads.proofs.pump.ServePump.asker_waited.Goals as goal

pub returns-in-Some-clause-some : goal.returns-in-Some-clause-some
returns-in-Some-clause-some g c =
    taken_there c.args.now c.args.self.now.asking c.remove.new.self.items c.waited_at.result c.in-Some.place
    c.remove.result (search rules) c.in-Some.is (search rules) (search rules)
