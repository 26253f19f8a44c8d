use Rattle.std.proofs.Common.{◌≡◌, ◌∙◌, [], List, ap, subst}
use Rattle.sq_rules.specs.Verdicts.{default_of}
use Rattle.sq_rules.specs.declared.values.Value.TheVariants as value
use Rattle.sq_checks.proofs.CourseLaws.{default_decides}
use Rattle.sq_checks.specs.Courses.{Course, ahead, leaves}
use Rattle.sq_checks.specs.Groups.{line_on, lines_on, next_at, term_on}
use Rattle.sq_checks.specs.declared.looking.Next.TheVariants as next
use Rattle.sq_checks.specs.declared.spots.GroupSpot.{GroupSpot}
use Rattle.sq_checks.proofs.FrameStepLaws.{nothing_asked, stops_decided}
use Rattle.sq_checks.proofs.stepping.failed.Goals as goal

pub returns-clause-stop : goal.returns-clause-stop
returns-clause-stop c = λ taken.
    let config = c.args.config.now in
    let p = c.args.position.now in
    let ends : next_at (lines_on config []) p.line p.term ≡ next.Failed =
    subst (λ (l : List GroupSpot). next_at (lines_on config l) (line_on p.line l) (term_on p.term l) ≡ next.Failed)
    c.requires.open c.requires.next in
    stops_decided taken config p c.default_of.result _
    (ap (λ (l : List GroupSpot). ahead taken config p.line p.term l) c.requires.open
    ∙ default_decides taken config p.line p.term ends)
    (c.default_of.ensures.default config.acls ∙ ap (λ rules. value.Verdict (default_of rules)) c.rules.ensures.rules)
    (λ more. ap (λ (l : List GroupSpot). leaves config.acls (ahead more config p.line p.term l).walk) c.requires.open
    ∙ ap (λ (x : Course). leaves config.acls x.walk) (default_decides more config p.line p.term ends))
    (c.default_of.ensures.no_fault taken config p)

pub returns-clause-asks : goal.returns-clause-asks
returns-clause-asks c = λ slots table. nothing_asked c.args.config.now.acls slots table _ c.default_of.ensures.none
