use Rattle.std.proofs.Common.{◌≡◌, length}
use Rattle.sq_engine.specs.Lines.{all_given}
use Rattle.sq_engine.proofs.lines.give.Given as goal

-- what is left to do comes to the same
abbrev pub invariant-loop-share : goal.invariant-loop-share
invariant-loop-share l = all_given l.question l.now l.shares.items l.checks
    ≡ all_given l.question l.now l.initial.shares.items l.initial.checks

abbrev pub decreases-loop-share : goal.decreases-loop-share
decreases-loop-share l = length l.shares.items
