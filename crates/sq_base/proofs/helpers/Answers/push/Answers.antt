use Rattle.sq_base.proofs.DistinctLaws.{distinct_after}
use Rattle.sq_base.proofs.helpers.Answers.push.Goals as goal

pub invariant_of-self : goal.invariant_of-self
invariant_of-self c =
    distinct_after c.push.result c.self.inside.items c.push.new.self c.args.answer c.push.ensures.ok c.push.ensures.err
    c.self.invariant (rw c.self.view_is c.requires)
