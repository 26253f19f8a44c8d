use Rattle.std.proofs.Common.{arith}
use Rattle.sq_checks.proofs.NestLaws.{room_enough}
use Rattle.sq_checks.proofs.positions.begin.Goals as goal

pub returns-clause-stands : goal.returns-clause-stands
returns-clause-stands c = rw (c.in_ok-groups.ensures, c.requires) (record {
  groups = tt;
  room = room_enough c.args.config.now.acls;
  counted = omega arith;
})
