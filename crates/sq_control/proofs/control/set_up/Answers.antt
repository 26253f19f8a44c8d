use Rattle.sq_control.proofs.RereadLaws.{refused_long}
use Rattle.sq_control.proofs.control.set_up.Goals as goal

pub returns-in-None-clause-err : goal.returns-in-None-clause-err
returns-in-None-clause-err c line kind e bytes whole = refused_long line kind c.args.text bytes e c.in-None.is whole
