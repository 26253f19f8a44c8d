use Rattle.std.proofs.Common.{◌≡◌, not, drop}
use Rattle.std.specs.List.{list_all}
use Rattle.sq_rules.specs.Configurations.{some_slow}
use Rattle.sq_rules.proofs.reaching.are_fast.Given as goal

-- no rule so far names one, so the rest decides
abbrev pub invariant-loop-rule : goal.invariant-loop-rule
invariant-loop-rule l = list_all (λ r. not (some_slow l.slow r.terms)) (drop l.rule-index l.rules)
    ≡ list_all (λ r. not (some_slow l.slow r.terms)) l.rules
