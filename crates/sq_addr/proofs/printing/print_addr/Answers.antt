use Rattle.sq_base.proofs.AddressLaws.{text_reads_back}
use Rattle.std.proofs.Common.{subst}
use Rattle.sq_base.specs.Addresses.{IsAddress}
use Rattle.sq_addr.proofs.printing.print_addr.Goals as goal

pub returns-then-addr-clause-reads_back : goal.returns-then-addr-clause-reads_back
returns-then-addr-clause-reads_back c = text_reads_back c.args.addr (subst IsAddress c.addr.view_is c.addr.invariant)

pub returns-else-addr-clause-reads_back : goal.returns-else-addr-clause-reads_back
returns-else-addr-clause-reads_back c = text_reads_back c.args.addr (subst IsAddress c.addr.view_is c.addr.invariant)
