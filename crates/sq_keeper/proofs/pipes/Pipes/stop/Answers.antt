use Rattle.sq_keeper.proofs.PipeLaws.{changes_there, changes_if}
use Rattle.sq_keeper.proofs.pipes.Pipes.stop.Goals as goal

pub returns-in-Some-clause-there : goal.returns-in-Some-clause-there
returns-in-Some-clause-there g c =
    changes_if c.args.proc _ c.args.self.now.items.items _
    (changes_there c.args.proc _ c.args.self.now.items.items c.place.result c.in-Some.place c.index_mut.result.now
    c.shut.new.pipe
    c.place.ensures.place c.in-Some.is c.index_mut.ensures.value c.shut.ensures)
