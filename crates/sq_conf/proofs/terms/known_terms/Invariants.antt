use Rattle.std.proofs.Common.{◌≡◌, drop, length, true}
use Rattle.sq_rules.specs.AclLines.{known_term, known_terms}
use Rattle.sq_rules.specs.Configurations.{are_known}
use Rattle.sq_rules.specs.Steps.{over, one_more}
use Rattle.sq_conf.proofs.terms.known_terms.Given as goal

-- the terms so far, and those of the words that are left, are all
abbrev pub invariant-loop-word : goal.invariant-loop-word
invariant-loop-word l =
    (over (one_more (known_term l.builder.acls)) l.terms (drop l.word-index l.words)
    ≡ known_terms l.builder.acls l.words)
    × (are_known (length l.builder.acls) l.terms ≡ true)
