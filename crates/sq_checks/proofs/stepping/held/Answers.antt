use Rattle.std.proofs.Common.{◌≡◌, ◌<◌, ◌∙◌, [], List, length, slice_get, ap, subst}
use Rattle.std.proofs.lemmas.Option.{slice_get_within}
use Rattle.sq_rules.specs.declared.values.TermValue.TheVariants.{Miss}
use Rattle.sq_checks.proofs.CourseLaws.{rule_decides}
use Rattle.sq_checks.specs.Courses.{Course, ahead, leaves}
use Rattle.sq_checks.specs.GivenValues.{ran_value}
use Rattle.sq_checks.specs.Groups.{line_on, lines_on, next_at, term_on}
use Rattle.sq_checks.specs.declared.looking.Next.TheVariants as next
use Rattle.sq_checks.specs.declared.spots.GroupSpot.{GroupSpot}
use Rattle.sq_checks.proofs.FrameStepLaws.{nothing_asked, stops_decided}
use Rattle.sq_checks.proofs.stepping.held.Goals as goal

pub returns-clause-stop : goal.returns-clause-stop
returns-clause-stop c = λ taken.
    let config = c.args.config.now in
    let p = c.args.position.now in
    let ends : next_at (lines_on config []) p.line p.term ≡ next.Held =
    subst (λ (l : List GroupSpot). next_at (lines_on config l) (line_on p.line l) (term_on p.term l) ≡ next.Held)
    c.requires.open c.requires.next in
    let d = rule_decides taken config p.line p.term ends in
    stops_decided taken config p c.rule_at.result _
    (ap (λ (l : List GroupSpot). ahead taken config p.line p.term l) c.requires.open ∙ d.2)
    (ap (ran_value config.acls)
    (c.rule_at.ensures.rule d.0 (ap (λ rules. slice_get rules p.line) c.rules.ensures.rules ∙ d.1)))
    (λ more. ap (λ (l : List GroupSpot). leaves config.acls (ahead more config p.line p.term l).walk) c.requires.open
    ∙ ap (λ (x : Course). leaves config.acls x.walk) (rule_decides more config p.line p.term ends).2)
    (c.rule_at.ensures.no_fault taken config p)

pub rule_at-requires-clause-here : goal.rule_at-requires-clause-here
rule_at-requires-clause-here c =
    let config = c.args.config.now in
    let p = c.args.position.now in
    let ends : next_at (lines_on config []) p.line p.term ≡ next.Held =
    subst (λ (l : List GroupSpot). next_at (lines_on config l) (line_on p.line l) (term_on p.term l) ≡ next.Held)
    c.requires.open c.requires.next in
    let d = rule_decides (λ _. Miss) config p.line p.term ends in
    let within : p.line < length config.rules = slice_get_within config.rules p.line d.0 d.1 in
    rw c.rules.ensures.rules within

pub returns-clause-asks : goal.returns-clause-asks
returns-clause-asks c = λ slots table. nothing_asked c.args.config.now.acls slots table _ c.rule_at.ensures.none
