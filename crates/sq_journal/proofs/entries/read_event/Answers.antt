use Rattle.std.proofs.Common.{◌<◌, arith}
use Rattle.std.proofs.lemmas.List.Elements.{All-from_get_or}
use Rattle.sq_journal.proofs.EntryLaws.{dated_found, dated_only, dated_one}
use Rattle.sq_journal.proofs.entries.read_event.Goals as goal

pub returns-clause-found : goal.returns-clause-found
returns-clause-found c =
    dated_found c.dated.result c.args.line.now
    (All-from_get_or (λ b. b < 256) c.args.line.now 0 (λ i within. omega (arith, c.type_inv.line i))) c.dated.ensures

pub returns-clause-only : goal.returns-clause-only
returns-clause-only c = dated_only c.dated.result c.args.line.now c.dated.ensures

pub returns-clause-one : goal.returns-clause-one
returns-clause-one c = dated_one
