use Rattle.std.proofs.Common.{sym, ◌∙◌}
use Rattle.sq_dst.proofs.AnswerLaws.{looked_up, nothing_found}
use Rattle.sq_dst.proofs.answering.find.Goals as goal

pub returns-in-None-clause-found : goal.returns-in-None-clause-found
returns-in-None-clause-found g c =
    nothing_found (g.Q.Resolver.names c.args.resolver.now) (g.Q.Resolver.faults c.args.resolver.now) c.args.question.now
    (sym c.host_in.ensures ∙ c.in-None.is)

pub returns-in-Some-clause-found : goal.returns-in-Some-clause-found
returns-in-Some-clause-found g c =
    looked_up (g.Q.Resolver.names c.args.resolver.now) (g.Q.Resolver.faults c.args.resolver.now)
    (g.Q.Resolver.faults c.look.new.resolver) c.args.question.now c.in-Some.host c.look.result
    (sym c.host_in.ensures ∙ c.in-Some.is) c.look.ensures.told c.look.ensures.quiet c.look.ensures.failed
    c.look.ensures.later
