use Rattle.std.proofs.Common.{◌≡◌, ◌++◌, ◌∷◌, [], suc, drop, take}
use Rattle.sq_rules.specs.Configurations.{slow_on}
use Rattle.sq_rules.proofs.rechecks.slow_after.Given as goal

abbrev pub invariant-loop-acl : goal.invariant-loop-acl
invariant-loop-acl l = slow_on l.all (drop l.acl-index l.acl-items)
    ≡ slow_on (take l.place l.slow ++ l.flag ∷ []) (drop (suc l.place) l.acls)
