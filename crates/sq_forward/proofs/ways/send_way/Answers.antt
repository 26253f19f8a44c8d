use Rattle.sq_forward.proofs.WayLaws.{way_grew}
use Rattle.sq_forward.proofs.ways.send_way.Goals as goal

pub returns-clause-goes : goal.returns-clause-goes
returns-clause-goes g c = way_grew _ _ _ _ c.copy_way.ensures.goes
