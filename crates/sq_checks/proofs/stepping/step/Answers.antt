use Rattle.sq_checks.proofs.PlaceLaws.{is_next}
use Rattle.sq_checks.proofs.stepping.step.Goals as goal

pub take-requires-clause-next : goal.take-requires-clause-next
take-requires-clause-next g c = is_next c.args.taking.now.config.now c.args.position.now c.in-Term.term c.next.result
    c.facts.ensures c.requires.position c.next.ensures.next c.in-Term.is c.next.ensures.fits
