use Rattle.std.proofs.Common.{◌≡◌, IfOk, length, map, subst, sym, ap, ◌∙◌}
use Rattle.sq_rules.proofs.ValueLaws.{term_over_members}
use Rattle.sq_rules.specs.Values.{body_value, both, either, term_value, turned}
use Rattle.sq_eval.specs.Takings.{acls_in, taken_in}
use Rattle.sq_eval.proofs.terms.+terms.Goals as goal

pub term_value-returns-clause-value : goal.term_value-returns-clause-value
term_value-returns-clause-value g t c =
    c.turned.ensures ∙ ap (turned c.args.term.negated) c.in_ok-value.ensures.value
    ∙ sym (term_over_members (taken_in c.args.taking.now) (length c.args.taking.now.config.now.classes)
    (acls_in c.args.taking.now) c.args.term c.facts.ensures.members)

pub acl_value-returns-in-AllOf-clause-value : goal.acl_value-returns-in-AllOf-clause-value
acl_value-returns-in-AllOf-clause-value g t c =
    let taken = taken_in c.args.taking.now in
    let member = term_value taken (acls_in c.args.taking.now) in
    subst (λ x. IfOk c.some_line.result (λ v. v ≡ x))
    (ap (λ lines. either (map (λ l. both (map member l)) lines)) c.as_slice-in-AllOf.ensures
    ∙ sym (c.body_at.ensures.value taken member ∙ ap (body_value taken member c.args.acl) c.in-AllOf.is))
    c.some_line.ensures.value
