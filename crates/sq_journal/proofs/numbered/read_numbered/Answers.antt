use Rattle.std.proofs.Common.{◌<◌, arith}
use Rattle.std.proofs.lemmas.List.Elements.{All-from_get_or}
use Rattle.sq_journal.proofs.NumberedLaws.{numbered_found, numbered_only, numbered_one}
use Rattle.sq_journal.proofs.numbered.read_numbered.Goals as goal

pub returns-clause-found : goal.returns-clause-found
returns-clause-found c =
    numbered_found c.numbered.result c.args.line.now
    (All-from_get_or (λ b. b < 256) c.args.line.now 0 (λ i within. omega (arith, c.type_inv.line i))) c.numbered.ensures

pub returns-clause-only : goal.returns-clause-only
returns-clause-only c = numbered_only c.numbered.result c.args.line.now c.numbered.ensures

pub returns-clause-one : goal.returns-clause-one
returns-clause-one c = numbered_one
