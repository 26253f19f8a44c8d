use Rattle.sq_addr.proofs.ReadLaws.{v6_found, v6_absent}
use Rattle.sq_addr.proofs.parsing.read_v6.Goals as goal

pub returns-in-Ok : goal.returns-in-Ok
returns-in-Ok c = rw c.segments.ensures (v6_found c.args.text.now c.in-Ok.address.segments c.in-Ok.ensures)

pub returns-in-Err : goal.returns-in-Err
returns-in-Err c = v6_absent c.args.text.now c.in-Err.ensures
