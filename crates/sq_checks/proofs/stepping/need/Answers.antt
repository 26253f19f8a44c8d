use Rattle.std.proofs.Common.{◌≡◌, ap, ◌∙◌, []}
use Rattle.sq_rules.specs.declared.values.TermValue.TheVariants.{Need}
use Rattle.sq_checks.proofs.FrameStepLaws.{asks_it, external_taken, stops_needed}
use Rattle.sq_checks.specs.GivenValues.{given_value}
use Rattle.sq_checks.specs.Positions.{taken_in}
use Rattle.sq_checks.proofs.stepping.need.Goals as goal

pub returns-clause-stop : goal.returns-clause-stop
returns-clause-stop c =
    let t = c.args.taking.now in
    let taken : taken_in t c.args.term.acl ≡ Need c.args.term.acl [] =
    external_taken t.config.now.acls t.slots.now t.facts.now t.table.now c.args.term.acl c.requires.external
    ∙ ap (given_value c.args.term.acl) c.requires.none in
    stops_needed (taken_in t) t.config.now c.args.position.now c.args.term c.requires.next c.requires.external taken

pub returns-clause-asks : goal.returns-clause-asks
returns-clause-asks c =
    let t = c.args.taking.now in
    asks_it t.config.now.acls t.slots.now t.table.now c.args.term.acl c.requires.external c.requires.none
