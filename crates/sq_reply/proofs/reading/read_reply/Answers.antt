use Rattle.sq_reply.proofs.ReplyFacts.{found_from, one_from, only_from}
use Rattle.sq_reply.proofs.KeyLaws.{keys_from}
use Rattle.sq_reply.proofs.reading.read_reply.Goals as goal

pub returns-clause-found : goal.returns-clause-found
returns-clause-found c = found_from c.args.with_channel c.args.line.now c.read_line.result c.read_line.ensures

pub returns-clause-only : goal.returns-clause-only
returns-clause-only c = only_from c.args.with_channel c.args.line.now c.read_line.result c.read_line.ensures

pub returns-clause-keys : goal.returns-clause-keys
returns-clause-keys c = keys_from c.args.with_channel c.args.line.now c.read_line.result c.read_line.ensures

pub returns-clause-one : goal.returns-clause-one
returns-clause-one c = one_from c.args.with_channel c.args.line.now
