use Rattle.sq_lookup.proofs.CheckLaws.{without_check}
use Rattle.sq_lookup.proofs.checks.Checks.remove.Goals as goal

pub returns : goal.returns
returns c = λ n. rw (← c.self.view_is)
    (without_check n c.args.check c.self.inside.numbers.keys c.remove-was_there.new.self.keys
    (c.remove-was_there.ensures.updates.0 n))
