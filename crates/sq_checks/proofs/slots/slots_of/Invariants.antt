use Rattle.std.proofs.Common.{◌≡◌, ◌≤◌, ◌++◌, drop}
use Rattle.sq_checks.specs.Slots.{externals_on, slots_on}
use Rattle.sq_checks.proofs.slots.slots_of.Given as goal

-- the slots so far, and those of the rest
abbrev pub invariant-loop-acl : goal.invariant-loop-acl
invariant-loop-acl l = record {
  slots_are : l.slots.items ++ slots_on l.count (drop l.acl-index l.acls) ≡ slots_on 0 l.acls;
  count_is : externals_on l.count (drop l.acl-index l.acls) ≡ externals_on 0 l.acls;
  few : l.count ≤ l.acl-index;
}
