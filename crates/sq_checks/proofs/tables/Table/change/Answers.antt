use Rattle.std.proofs.Common.{rules}
use Rattle.sq_checks.proofs.TableLaws.{changed}
use Rattle.sq_checks.proofs.tables.Table.change.Goals as goal

pub returns-clause-value : goal.returns-clause-value
returns-clause-value g c = λ k. rw (← c.self.view_is, (c.get_mut.follows.holds c.args.value).0)
    (changed c.self.inside.map.entries c.args.number k c.args.value (search rules))
