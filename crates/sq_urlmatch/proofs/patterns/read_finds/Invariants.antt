use Rattle.std.proofs.Common.{◌≡◌, drop}
use Rattle.sq_urlmatch.specs.Found.{first_bad}
use Rattle.sq_urlmatch.proofs.patterns.read_finds.Given as goal

abbrev pub invariant-loop-place : goal.invariant-loop-place
invariant-loop-place l = first_bad l.place (drop l.place l.finds) ≡ first_bad 0 l.finds
