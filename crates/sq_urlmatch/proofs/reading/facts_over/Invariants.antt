use Rattle.std.proofs.Common.{◌≡◌, take, length}
use Rattle.sq_rules.specs.Facts.{facts_of}
use Rattle.sq_urlmatch.proofs.reading.facts_over.Given as goal

-- the facts so far are those of the acls so far
abbrev pub invariant-loop-place : goal.invariant-loop-place
invariant-loop-place l = record {
  made : l.values.items ≡ take l.place (facts_of l.fn.setup.acls l.sight);
  same : l.setup ≡ l.fn.setup;
  count : l.count ≡ length l.fn.setup.acls;
}
