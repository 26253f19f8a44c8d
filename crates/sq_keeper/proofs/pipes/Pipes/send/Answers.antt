use Rattle.sq_keeper.proofs.PipeLaws.{changes_there}
use Rattle.sq_keeper.proofs.pipes.Pipes.send.Goals as goal

pub returns-in-Some-clause-written : goal.returns-in-Some-clause-written
returns-in-Some-clause-written g c is =
    changes_there c.args.proc _ c.args.self.now.items.items c.place.result c.in-Some.place c.index_mut.result.now
    c.ask.new.pipe
    c.place.ensures.place c.in-Some.is c.index_mut.ensures.value (c.ask.ensures.written is)

pub returns-in-Some-clause-failed : goal.returns-in-Some-clause-failed
returns-in-Some-clause-failed g c is =
    changes_there c.args.proc _ c.args.self.now.items.items c.place.result c.in-Some.place c.index_mut.result.now
    c.ask.new.pipe
    c.place.ensures.place c.in-Some.is c.index_mut.ensures.value (c.ask.ensures.failed is)
