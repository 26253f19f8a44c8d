use Rattle.std.proofs.Common.{◌≡◌, ◌<◌, drop}
use Rattle.sq_rules.specs.AclValues.{days_on}
use Rattle.sq_conf.proofs.times.days_of.Given as goal

-- the weekdays so far, and those of the letters that are left
abbrev pub invariant-loop-letter : goal.invariant-loop-letter
invariant-loop-letter l = (days_on l.days (drop l.letter-index l.word) ≡ days_on 0 l.word) × (l.days < 128)
