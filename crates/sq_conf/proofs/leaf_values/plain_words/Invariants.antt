use Rattle.std.proofs.Common.{◌≡◌, [], drop}
use Rattle.sq_rules.specs.AclValues.{plain_value}
use Rattle.sq_rules.specs.Steps.{over, one_more}
use Rattle.sq_conf.proofs.leaf_values.plain_words.Given as goal

-- the values so far, and those of the words that are left, are all
abbrev pub invariant-loop-word : goal.invariant-loop-word
invariant-loop-word l = over (one_more plain_value) l.values (drop l.word-index l.words)
    ≡ over (one_more plain_value) [] l.words
