use Rattle.std.proofs.Common.{◌≡◌, IfOk, subst, sym, ap, ◌∙◌}
use Rattle.sq_checks.specs.Traces.{rules_tag}
use Rattle.sq_checks.specs.declared.tags.TagInputs.{TagInputs}
use Rattle.sq_checks.proofs.TagLaws.{rules_are}
use Rattle.sq_checks.proofs.tags.tag_of.Goals as goal

inputs_of : goal.After-rules_tag → TagInputs
inputs_of c = record {
  alloc = c.args.alloc;
  config = c.args.config;
  facts = c.args.facts;
  sight = c.args.sight;
  answers = c.args.answers;
}

pub returns : goal.returns
unfolding inputs_of
returns c =
    subst (λ x. IfOk c.rules_tag.result (λ t. t ≡ x))
    (ap (λ rules. rules_tag (inputs_of c) rules) c.rules.ensures.rules ∙ sym (rules_are (inputs_of c)))
    c.rules_tag.ensures
