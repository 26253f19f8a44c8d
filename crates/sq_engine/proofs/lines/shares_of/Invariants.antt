use Rattle.std.proofs.Common.{◌≡◌, map}
use Rattle.std.specs.Map.Iter.{deref}
use Rattle.sq_engine.specs.Lines.{share_of}
use Rattle.sq_engine.proofs.lines.shares_of.Given as goal

-- a copy for each check so far
abbrev pub invariant-loop-check : goal.invariant-loop-check
invariant-loop-check l = l.shares.items ≡ map (share_of l.what) (map deref l.yielded)
