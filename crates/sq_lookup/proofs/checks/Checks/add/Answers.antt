use Rattle.sq_lookup.proofs.CheckLaws.{with_check}
use Rattle.sq_lookup.proofs.checks.Checks.add.Goals as goal

pub returns-clause-ok : goal.returns-clause-ok
returns-clause-ok c = λ n. rw (← c.self.view_is)
    (with_check n c.args.check c.self.inside.numbers.keys c.insert.new.self.keys (c.in_ok-_is_new.ensures.updates.0 n))
