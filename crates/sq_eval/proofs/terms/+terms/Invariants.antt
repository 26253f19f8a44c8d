use Rattle.std.proofs.Common.{◌≡◌, ◌+◌, ◌*◌, true, map, drop}
use Rattle.std.specs.List.{list_all}
use Rattle.sq_rules.specs.Configurations.{are_known}
use Rattle.sq_rules.specs.Values.{both, either, term_value}
use Rattle.sq_eval.specs.Takings.{acls_in, taken_in}
use Rattle.sq_eval.proofs.terms.+terms.Given as goal

-- members stand before their group
abbrev pub decreases-term_value : goal.decreases-term_value
decreases-term_value g l = 5 * l.term.acl + 4

abbrev pub decreases-acl_value : goal.decreases-acl_value
decreases-acl_value g l = 5 * l.acl + 3

abbrev pub decreases-some_line : goal.decreases-some_line
decreases-some_line g l = 5 * l.before + 2

abbrev pub decreases-some_term : goal.decreases-some_term
decreases-some_term g l = 5 * l.before + 1

abbrev pub decreases-every_term : goal.decreases-every_term
decreases-every_term g l = 5 * l.before + 1

-- the terms so far match, so the rest decides
abbrev pub invariant-every_term-loop-term : goal.invariant-every_term-loop-term
invariant-every_term-loop-term g l = record {
  rest : both (map (term_value (taken_in l.taking) (acls_in l.taking)) (drop l.term-index l.terms))
      ≡ both (map (term_value (taken_in l.taking) (acls_in l.taking)) l.terms);
  known : are_known l.before (drop l.term-index l.terms) ≡ true;
}

-- the lines so far do not match, so the rest decides
abbrev pub invariant-some_line-loop-line : goal.invariant-some_line-loop-line
invariant-some_line-loop-line g l = record {
  rest :
      either (map (λ k. both (map (term_value (taken_in l.taking) (acls_in l.taking)) k)) (drop l.line-index l.lines))
      ≡ either (map (λ k. both (map (term_value (taken_in l.taking) (acls_in l.taking)) k)) l.lines);
  known : list_all (are_known l.before) (drop l.line-index l.lines) ≡ true;
}

-- the terms so far do not match, so the rest decides
abbrev pub invariant-some_term-loop-term : goal.invariant-some_term-loop-term
invariant-some_term-loop-term g l = record {
  rest : either (map (term_value (taken_in l.taking) (acls_in l.taking)) (drop l.term-index l.terms))
      ≡ either (map (term_value (taken_in l.taking) (acls_in l.taking)) l.terms);
  known : are_known l.before (drop l.term-index l.terms) ≡ true;
}
