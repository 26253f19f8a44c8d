use Rattle.std.proofs.Common.{◌≡◌, drop}
use Rattle.sq_rules.specs.Configurations.{nestings, nestings_on}
use Rattle.sq_checks.proofs.depths.nestings.Given as goal

-- the nestings of the rest follow
abbrev pub invariant-loop-acl : goal.invariant-loop-acl
invariant-loop-acl l = nestings_on l.all.items (drop l.acl-index l.acls) ≡ nestings l.acls
