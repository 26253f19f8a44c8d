use Rattle.std.proofs.Common.{◌≡◌, ◌++◌, ◌∷◌, [], suc, drop, take, true, nat_le}
use Rattle.std.specs.List.{list_all}
use Rattle.sq_rules.specs.Configurations.{nestings_on}
use Rattle.sq_rules.specs.Limits.{nesting_limit}
use Rattle.sq_rules.proofs.rechecks.depths_after.Given as goal

abbrev pub invariant-loop-acl : goal.invariant-loop-acl
invariant-loop-acl l = record {
  rest : nestings_on l.all (drop l.acl-index l.acl-items)
      ≡ nestings_on (take l.place l.depths ++ l.depth ∷ []) (drop (suc l.place) l.acls);
  shallow : list_all (λ n. nat_le n nesting_limit) l.all ≡ true;
}
