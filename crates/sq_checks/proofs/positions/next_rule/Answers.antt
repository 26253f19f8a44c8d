use Rattle.std.proofs.Common.{false}
use Rattle.sq_checks.proofs.PlaceLaws.{rule_moved}
use Rattle.sq_checks.proofs.positions.next_rule.Goals as goal

pub returns : goal.returns
returns c = rule_moved c.args.position.now false c.requires.open
