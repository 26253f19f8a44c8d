use Rattle.std.proofs.Common.{◌≡◌, ◌+◌, ◌*◌, true, map, drop}
use Rattle.std.specs.List.{list_all}
use Rattle.std.specs.Option.{option_or}
use Rattle.sq_rules.specs.Configurations.{are_known}
use Rattle.sq_checks.specs.Traces.{line_traced, some_traced, term_traced}
use Rattle.sq_checks.proofs.TagLaws.{traced}
use Rattle.sq_checks.proofs.tags.+tags.Given as goal

-- members stand before their group
abbrev pub decreases-term_traced : goal.decreases-term_traced
decreases-term_traced g l = 5 * l.term.acl + 4

abbrev pub decreases-acl_traced : goal.decreases-acl_traced
decreases-acl_traced g l = 5 * l.acl + 3

abbrev pub decreases-some_line : goal.decreases-some_line
decreases-some_line g l = 5 * l.before + 2

abbrev pub decreases-some_term : goal.decreases-some_term
decreases-some_term g l = 5 * l.before + 1

abbrev pub decreases-every_term : goal.decreases-every_term
decreases-every_term g l = 5 * l.before + 1

-- the terms so far match, so the rest decides, and has the tag where they have none
abbrev pub invariant-every_term-loop-term : goal.invariant-every_term-loop-term
invariant-every_term-loop-term g l = record {
  rest : traced (line_traced l.inputs (drop l.term-index l.terms)).value
      (option_or l.tag (line_traced l.inputs (drop l.term-index l.terms)).tag)
      ≡ line_traced l.inputs l.terms;
  known : are_known l.before (drop l.term-index l.terms) ≡ true;
}

-- the lines so far do not match
abbrev pub invariant-some_line-loop-line : goal.invariant-some_line-loop-line
invariant-some_line-loop-line g l = record {
  rest : traced (some_traced (map (λ k. line_traced l.inputs k) (drop l.line-index l.lines))).value
      (option_or l.tag (some_traced (map (λ k. line_traced l.inputs k) (drop l.line-index l.lines))).tag)
      ≡ some_traced (map (λ k. line_traced l.inputs k) l.lines);
  known : list_all (are_known l.before) (drop l.line-index l.lines) ≡ true;
}

-- the terms so far do not match
abbrev pub invariant-some_term-loop-term : goal.invariant-some_term-loop-term
invariant-some_term-loop-term g l = record {
  rest : traced (some_traced (map (term_traced l.inputs) (drop l.term-index l.terms))).value
      (option_or l.tag (some_traced (map (term_traced l.inputs) (drop l.term-index l.terms))).tag)
      ≡ some_traced (map (term_traced l.inputs) l.terms);
  known : are_known l.before (drop l.term-index l.terms) ≡ true;
}
