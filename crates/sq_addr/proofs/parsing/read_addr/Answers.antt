use Rattle.std.proofs.Common.{sym}
use Rattle.sq_base.proofs.AddressLaws.{read_is_spelled, none_is_spelled}
use Rattle.sq_addr.proofs.parsing.read_addr.Goals as goal

pub returns-in-Some-clause-spelled : goal.returns-in-Some-clause-spelled
returns-in-Some-clause-spelled c = read_is_spelled c.args.text.now c.in-Some.address (sym c.in-Some.ensures)

pub returns-in-None-clause-unspelled : goal.returns-in-None-clause-unspelled
returns-in-None-clause-unspelled c = none_is_spelled c.args.text.now (sym c.in-None.ensures)
