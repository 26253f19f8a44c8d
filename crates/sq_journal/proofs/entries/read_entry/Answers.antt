use Rattle.std.proofs.Common.{◌<◌, arith}
use Rattle.std.proofs.lemmas.List.Elements.{All-from_get_or}
use Rattle.sq_journal.proofs.EntryLaws.{entry_found, entry_only, entry_one}
use Rattle.sq_journal.proofs.entries.read_entry.Goals as goal

pub returns-clause-found : goal.returns-clause-found
returns-clause-found c =
    entry_found c.entry.result c.args.line.now
    (All-from_get_or (λ b. b < 256) c.args.line.now 0 (λ i within. omega (arith, c.type_inv.line i))) c.entry.ensures

pub returns-clause-only : goal.returns-clause-only
returns-clause-only c = entry_only c.entry.result c.args.line.now c.entry.ensures

pub returns-clause-one : goal.returns-clause-one
returns-clause-one c = entry_one
