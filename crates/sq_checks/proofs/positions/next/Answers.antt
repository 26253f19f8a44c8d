use Rattle.std.proofs.Common.{◌∙◌, map, sym, ap}
use Rattle.sq_rules.specs.declared.configs.Rule.{Rule}
use Rattle.sq_checks.proofs.PlaceLaws.{fits_in_group, fits_in_rules, group_there, next_in_group, next_in_rules}
use Rattle.sq_checks.proofs.FrameStepLaws.{none_here}
use Rattle.sq_checks.specs.Groups.{next_at}
use Rattle.sq_checks.proofs.positions.next.Goals as goal

pub body_at-requires : goal.body_at-requires
body_at-requires c =
    let p = c.args.position.now in
    group_there c.args.config.now p.groups.room p.line p.term p.groups.list c.in-Some.spot c.requires
    (sym c.first.ensures ∙ c.in-Some.is)

pub returns-in-None-clause-next : goal.returns-in-None-clause-next
returns-in-None-clause-next c =
    let p = c.args.position.now in
    next_in_rules c.args.config.now p.line p.term p.groups.list c.next_of_rules.result
    (none_here p.groups.list (sym c.first.ensures ∙ c.in-None.is))
    (c.next_of_rules.ensures.next
    ∙ ap (λ rules. next_at (map (λ (r : Rule). r.terms) rules) p.line p.term) c.rules.ensures.rules)

pub returns-in-None-clause-fits : goal.returns-in-None-clause-fits
returns-in-None-clause-fits c =
    let p = c.args.position.now in
    fits_in_rules p.line p.term p.groups.list c.next_of_rules.result
    (none_here p.groups.list (sym c.first.ensures ∙ c.in-None.is)) c.next_of_rules.ensures.fits

pub returns-in-Some-clause-next : goal.returns-in-Some-clause-next
returns-in-Some-clause-next c =
    let p = c.args.position.now in
    next_in_group c.args.config.now p.line p.term p.groups.list c.in-Some.spot c.body_at.result.now
    c.next_of_body.result (sym c.first.ensures ∙ c.in-Some.is) c.body_at.ensures.body c.next_of_body.ensures.next

pub returns-in-Some-clause-fits : goal.returns-in-Some-clause-fits
returns-in-Some-clause-fits c =
    let p = c.args.position.now in
    fits_in_group p.line p.term p.groups.list c.in-Some.spot c.next_of_body.result (sym c.first.ensures ∙ c.in-Some.is)
    c.next_of_body.ensures.fits
