use Rattle.std.proofs.Common.{Some, not, sym, ap}
use Rattle.sq_eval.specs.Takings.{fact_taken}
use Rattle.sq_forward.specs.Standings.{comes_to, so}
use Rattle.sq_forward.proofs.standing.looked.Goals as goal

pub returns-in-Some : goal.returns-in-Some
returns-in-Some c = λ rules default.
    ap Some (sym (c.in-Some.ensures 0
    (so (comes_to (fact_taken c.args.facts.now) c.args.config.now.acls (not c.args.rule.now.allow) rules))))

pub returns-in-None : goal.returns-in-None
returns-in-None c = λ rules default.
    ap Some (sym (c.in-None.ensures 0
    (so (comes_to (fact_taken c.args.facts.now) c.args.config.now.acls (not c.args.rule.now.allow) rules))))
