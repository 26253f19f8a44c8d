use Rattle.sq_checks.proofs.stepping.ask.Goals as goal

pub returns-in-Some-Fault-clause-asks : goal.returns-in-Some-Fault-clause-asks
returns-in-Some-Fault-clause-asks c = c.fault.ensures.asks c.args.taking.now.slots.now c.args.taking.now.table.now
