use Rattle.std.proofs.Common.{◌≡◌, ℕ, ◌≤◌, ◌<◌, length, get_or, false}
use Rattle.std.specs.Prelude.{◌==◌}
use Rattle.sq_conf.proofs.cuts.behind_last.Given as goal

-- no such byte stands from here on
abbrev pub invariant-loop-start : goal.invariant-loop-start
invariant-loop-start l = record {
  within : l.start ≤ length l.word;
  none : (k : ℕ) → l.start ≤ k → k < length l.word → (get_or l.word k 0 == l.wanted) ≡ false;
}

abbrev pub decreases-loop-start : goal.decreases-loop-start
decreases-loop-start l = l.start
