use Rattle.std.proofs.Common.{◌≡◌, drop, length, true, false}
use Rattle.sq_rules.specs.Configurations.{are_known, slow_ones, some_slow}
use Rattle.sq_rules.specs.PoolLines.{fast_term}
use Rattle.sq_rules.specs.Steps.{over, one_more, some_of}
use Rattle.sq_conf.proofs.pool_lines.fast_terms.Given as goal

-- the terms so far, and those of the words that are left, are all
abbrev pub invariant-loop-word : goal.invariant-loop-word
invariant-loop-word l = record {
  read : over (one_more (fast_term l.builder.acls)) l.terms (drop l.word-index l.words)
      ≡ some_of (fast_term l.builder.acls) l.words;
  known : are_known (length l.builder.acls) l.terms ≡ true;
  fast : some_slow (slow_ones l.builder.acls) l.terms ≡ false;
}
