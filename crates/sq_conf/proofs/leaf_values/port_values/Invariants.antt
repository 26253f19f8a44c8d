use Rattle.std.proofs.Common.{◌≡◌, drop}
use Rattle.sq_rules.specs.AclValues.{port_value}
use Rattle.sq_rules.specs.Steps.{over, one_more, some_of}
use Rattle.sq_conf.proofs.leaf_values.port_values.Given as goal

-- the values so far, and those of the words that are left, are all
abbrev pub invariant-loop-word : goal.invariant-loop-word
invariant-loop-word l = over (one_more port_value) l.values (drop l.word-index l.words) ≡ some_of port_value l.words
