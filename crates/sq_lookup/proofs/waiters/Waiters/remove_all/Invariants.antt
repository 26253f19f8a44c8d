use Rattle.std.proofs.Common.{◌≡◌, ℕ, None, cond, map}
use Rattle.std.specs.Map.Iter.{deref}
use Rattle.sq_machine.specs.OpenLookups.{question_of}
use Rattle.sq_lookup.specs.Waits.{has_check}
use Rattle.sq_lookup.proofs.waiters.Waiters.remove_all.Given as goal

abbrev pub invariant-loop-check : goal.invariant-loop-check
invariant-loop-check l = (n : ℕ)
    → question_of n l.self ≡ cond (has_check n (map deref l.yielded)) None (question_of n l.initial.self)
