use Rattle.std.proofs.Common.{◌+◌, ◌<◌, ◌^◌, ◌∙◌, List, subst, sym}
use Rattle.sq_checks.proofs.FrameStepLaws.{first_here, none_here}
use Rattle.sq_checks.specs.Groups.{line_on, term_on}
use Rattle.sq_checks.specs.declared.spots.GroupSpot.{GroupSpot}
use Rattle.sq_checks.proofs.positions.advance.Goals as goal

pub advance_group-requires-clause-line : goal.advance_group-requires-clause-line
advance_group-requires-clause-line c =
    let p = c.args.position.now in
    subst (λ (g : List GroupSpot). line_on p.line g + 1 < 2 ^ 64)
    (first_here p.groups.list c.in-Some.spot (sym c.first.ensures ∙ c.in-Some.is)) c.requires.line

pub advance_group-requires-clause-term : goal.advance_group-requires-clause-term
advance_group-requires-clause-term c =
    let p = c.args.position.now in
    subst (λ (g : List GroupSpot). term_on p.term g + 1 < 2 ^ 64)
    (first_here p.groups.list c.in-Some.spot (sym c.first.ensures ∙ c.in-Some.is)) c.requires.term

pub next_term-requires-clause-open : goal.next_term-requires-clause-open
next_term-requires-clause-open c = none_here c.args.position.now.groups.list (sym c.first.ensures ∙ c.in-None.is)

pub next_term-requires-clause-term : goal.next_term-requires-clause-term
next_term-requires-clause-term c =
    let p = c.args.position.now in
    subst (λ (g : List GroupSpot). term_on p.term g + 1 < 2 ^ 64)
    (none_here p.groups.list (sym c.first.ensures ∙ c.in-None.is)) c.requires.term

pub next_rule-requires-clause-open : goal.next_rule-requires-clause-open
next_rule-requires-clause-open c = none_here c.args.position.now.groups.list (sym c.first.ensures ∙ c.in-None.is)

pub next_rule-requires-clause-line : goal.next_rule-requires-clause-line
next_rule-requires-clause-line c =
    let p = c.args.position.now in
    subst (λ (g : List GroupSpot). line_on p.line g + 1 < 2 ^ 64)
    (none_here p.groups.list (sym c.first.ensures ∙ c.in-None.is)) c.requires.line
