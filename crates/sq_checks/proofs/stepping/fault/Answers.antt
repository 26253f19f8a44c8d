use Rattle.std.proofs.Common.{refl, ◌≡◌, ap, ◌∙◌}
use Rattle.sq_rules.specs.declared.values.TermValue.TheVariants.{Fault}
use Rattle.sq_checks.proofs.FrameStepLaws.{external_taken, nothing_asked, stops_faulty}
use Rattle.sq_checks.specs.GivenValues.{given_value}
use Rattle.sq_checks.specs.Positions.{taken_in}
use Rattle.sq_checks.proofs.stepping.fault.Goals as goal

pub returns-clause-stop : goal.returns-clause-stop
returns-clause-stop c =
    let t = c.args.taking.now in
    let taken : taken_in t c.args.term.acl ≡ Fault c.args.term.acl c.args.cause =
    external_taken t.config.now.acls t.slots.now t.facts.now t.table.now c.args.term.acl c.requires.external
    ∙ ap (given_value c.args.term.acl) c.requires.given in
    stops_faulty (taken_in t) t.config.now c.args.position.now c.args.term c.args.cause c.requires.next
    c.requires.external taken

pub returns-clause-asks : goal.returns-clause-asks
returns-clause-asks c = λ slots table. nothing_asked c.args.taking.now.config.now.acls slots table _ refl
