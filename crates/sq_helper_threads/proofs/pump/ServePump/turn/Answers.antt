use Rattle.sq_helper_threads.specs.Pumps.{step}
use Rattle.sq_helper_threads.proofs.EntryLaws.{turned}
use Rattle.sq_helper_threads.proofs.pump.ServePump.turn.Goals as goal

pub returns-clause-turn : goal.returns-clause-turn
returns-clause-turn g c =
    turned _ (step c.args.now c.args.self.now c.go_on.result c.go_on.new.self) c.go_on.ensures.turns
