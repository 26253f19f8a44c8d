use Rattle.std.proofs.Common.{◌≡◌, [], drop}
use Rattle.sq_rules.specs.PoolLines.{pair_step}
use Rattle.sq_rules.specs.Steps.{over}
use Rattle.sq_conf.proofs.pool_lines.read_pairs.Given as goal

-- the pairs so far, and those of the words that are left
abbrev pub invariant-loop-word : goal.invariant-loop-word
invariant-loop-word l = over (pair_step l.count) l.pairs (drop l.word-index l.words)
    ≡ over (pair_step l.count) [] l.words
