use Rattle.std.proofs.Common.{true}
use Rattle.sq_checks.proofs.PlaceLaws.{rule_moved}
use Rattle.sq_checks.proofs.positions.next_term.Goals as goal

pub returns : goal.returns
returns c = rule_moved c.args.position.now true c.requires.open
