use Rattle.std.proofs.Common.{◌≡◌, IfOk, ap, sym, subst, ◌∙◌}
use Rattle.std.specs.Option.{option_copied, option_map}
use Rattle.sq_rules.specs.Tags.{tag_in}
use Rattle.sq_rules.specs.Keys.{key_text}
use Rattle.sq_rules.specs.Values.{answer_value}
use Rattle.sq_rules.specs.declared.values.TermValue.TheVariants.{Need}
use Rattle.sq_checks.proofs.TagLaws.{answer_by}
use Rattle.sq_checks.proofs.tags.asked_traced.Goals as goal

pub returns-in-Some-clause-value : goal.returns-in-Some-clause-value
returns-in-Some-clause-value c =
    let key = key_text c.args.inputs.now.config.now c.args.acl c.args.inputs.now.sight.now in
    let found = answer_by c.args.inputs.now.answers.now c.as_slice.result.now c.args.class c.in_ok-key.key key
    (option_copied c.find_answer.result) c.in_ok-key.ensures c.as_slice.ensures c.find_answer.ensures in
    subst (λ x. IfOk c.traced_by.result (λ y. y.value ≡ answer_value c.args.acl key x))
    (sym (found ∙ ap (λ o. option_map (λ a. a.what) (option_copied o)) c.in-Some.is))
    (c.traced_by.ensures.value key)

pub returns-in-Some-clause-tag : goal.returns-in-Some-clause-tag
returns-in-Some-clause-tag c =
    let key = key_text c.args.inputs.now.config.now c.args.acl c.args.inputs.now.sight.now in
    let found = answer_by c.args.inputs.now.answers.now c.as_slice.result.now c.args.class c.in_ok-key.key key
    (option_copied c.find_answer.result) c.in_ok-key.ensures c.as_slice.ensures c.find_answer.ensures in
    subst (λ x. IfOk c.traced_by.result (λ y. y.tag ≡ tag_in x))
    (sym (found ∙ ap (λ o. option_map (λ a. a.what) (option_copied o)) c.in-Some.is))
    c.traced_by.ensures.tag

pub returns-in-None-clause-value : goal.returns-in-None-clause-value
returns-in-None-clause-value c =
    let key = key_text c.args.inputs.now.config.now c.args.acl c.args.inputs.now.sight.now in
    let found = answer_by c.args.inputs.now.answers.now c.as_slice.result.now c.args.class c.in_ok-key.key key
    (option_copied c.find_answer.result) c.in_ok-key.ensures c.as_slice.ensures c.find_answer.ensures in
    ap (Need c.args.acl) c.in_ok-key.ensures
    ∙ sym (ap (answer_value c.args.acl key)
    (found ∙ ap (λ o. option_map (λ a. a.what) (option_copied o)) c.in-None.is))

pub returns-in-None-clause-tag : goal.returns-in-None-clause-tag
returns-in-None-clause-tag c =
    let key = key_text c.args.inputs.now.config.now c.args.acl c.args.inputs.now.sight.now in
    let found = answer_by c.args.inputs.now.answers.now c.as_slice.result.now c.args.class c.in_ok-key.key key
    (option_copied c.find_answer.result) c.in_ok-key.ensures c.as_slice.ensures c.find_answer.ensures in
    sym (ap tag_in (found ∙ ap (λ o. option_map (λ a. a.what) (option_copied o)) c.in-None.is))
