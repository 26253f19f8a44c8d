use Rattle.std.proofs.Common.{◌≡◌}
use Rattle.sq_rewrite.proofs.keeping.read_all.Given as goal

-- there was no memory so far, and nothing was read
abbrev pub invariant-loop : goal.invariant-loop
invariant-loop g l = record {
  half : l.half ≡ l.fn.half;
  lines : l.lines ≡ l.fn.lines;
}
