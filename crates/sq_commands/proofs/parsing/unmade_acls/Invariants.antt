use Rattle.std.proofs.Common.{◌≡◌, ◌+◌, ◌≤◌, drop}
use Rattle.sq_rules.specs.Lookups.{unmade_acls}
use Rattle.sq_commands.proofs.parsing.unmade_acls.Given as goal

-- those so far, and those that are left
abbrev pub invariant-loop-acl : goal.invariant-loop-acl
invariant-loop-acl l = record {
  all : l.count + unmade_acls (drop l.acl-index l.acls) ≡ unmade_acls l.acls;
  few : l.count ≤ l.acl-index;
}
