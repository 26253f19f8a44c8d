use Rattle.std.proofs.Common.{◌≡◌, ℕ, Some, length}
use Rattle.std.specs.List.{slice_get}
use Rattle.sq_urlmatch.specs.Values.{domains_at, ports_at, ranges_at, HoldAlike}
use Rattle.sq_urlmatch.specs.declared.sets.ValueSets.{ValueSets}
use Rattle.sq_urlmatch.proofs.sets.sets_of_each.Given as goal

-- the sets so far have what the values of the acls so far hold
abbrev pub invariant-loop-acl : goal.invariant-loop-acl
invariant-loop-acl l = record {
  long : length l.sets.items ≡ l.acl-index;
  each : (place : ℕ) (s : ValueSets) → slice_get l.sets.items place ≡ Some s
      → HoldAlike (ranges_at l.acls place) (domains_at l.acls place) (ports_at l.acls place) s;
}
