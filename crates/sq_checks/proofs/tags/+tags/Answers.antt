use Rattle.std.proofs.Common.{◌≡◌, IfOk, length, map, subst, sym, ap, ◌∙◌}
use Rattle.sq_rules.specs.Walks.{term_seen}
use Rattle.sq_checks.specs.Traces.{line_traced, some_traced, tags_in, taken_by_tags, term_traced, trace}
use Rattle.sq_checks.proofs.SeenLaws.{acl_seen, body_seen}
use Rattle.sq_checks.proofs.TagLaws.{lines_are, members_are, term_is, traced}
use Rattle.sq_checks.proofs.tags.+tags.Goals as goal

pub acl_traced-returns-in-AnyOf : goal.acl_traced-returns-in-AnyOf
acl_traced-returns-in-AnyOf g t c =
    let inputs = c.args.inputs.now in
    let taken = taken_by_tags inputs in
    let f = term_seen taken inputs.config.now.acls in
    subst (λ x. IfOk c.some_term.result (λ v. v ≡ x))
    (ap (λ terms. some_traced (map (term_traced inputs) terms)) c.as_slice.ensures
    ∙ sym (ap (λ o. trace (tags_in inputs) (acl_seen taken f c.args.acl o)) c.acl_at.ensures.there
    ∙ ap (λ b. trace (tags_in inputs) (body_seen taken f c.args.acl b)) c.in-AnyOf.is
    ∙ members_are inputs c.in-AnyOf.terms))
    c.some_term.ensures

pub acl_traced-returns-in-AllOf : goal.acl_traced-returns-in-AllOf
acl_traced-returns-in-AllOf g t c =
    let inputs = c.args.inputs.now in
    let taken = taken_by_tags inputs in
    let f = term_seen taken inputs.config.now.acls in
    subst (λ x. IfOk c.some_line.result (λ v. v ≡ x))
    (ap (λ lines. some_traced (map (λ l. line_traced inputs l) lines)) c.as_slice-in-AllOf.ensures
    ∙ sym (ap (λ o. trace (tags_in inputs) (acl_seen taken f c.args.acl o)) c.acl_at.ensures.there
    ∙ ap (λ b. trace (tags_in inputs) (body_seen taken f c.args.acl b)) c.in-AllOf.is
    ∙ lines_are inputs c.in-AllOf.lines))
    c.some_line.ensures

pub term_traced-returns : goal.term_traced-returns
term_traced-returns g t c =
    let inputs = c.args.inputs.now in
    ap (λ v. traced v c.in_ok-traced.traced.tag) c.turned.ensures
    ∙ term_is inputs c.args.term (length inputs.config.now.classes) c.facts.ensures.members c.in_ok-traced.traced
    c.in_ok-traced.ensures
