use Rattle.std.proofs.Common.{◌≡◌, None, Some, subst, sym, rules}
use Rattle.sq_checks.specs.Stages.{decided_in}
use Rattle.sq_checks.specs.Tables.{value_at}
use Rattle.sq_engine.specs.Engines.{IsEngine}
use Rattle.sq_engine.proofs.TakeLaws.{outcome_told, take_early, take_unknown}
use Rattle.sq_engine.proofs.engines.Engine.outcome.Goals as goal

pub returns-in_default : goal.returns-in_default
returns-in_default c =
    let w = c.args.self.now in
    let none : value_at c.self.inside.checks c.args.check ≡ None = search rules in
    take_unknown w c.args.check (subst (λ z. value_at z.checks c.args.check ≡ None) c.self.view_is none)

pub returns-in-None : goal.returns-in-None
returns-in-None c =
    let w = c.args.self.now in
    let k = c.in-Some.open.now in
    let found : value_at w.checks c.args.check ≡ Some k =
    subst (λ z. value_at z.checks c.args.check ≡ Some k) c.self.view_is (sym c.in-Some.ensures) in
    let none : decided_in k.stage ≡ None = search rules in
    take_early w c.args.check k found none

pub returns-in-Some-outcome : goal.returns-in-Some-outcome
returns-in-Some-outcome c =
    let w = c.args.self.now in
    let k = c.in-Some.open.now in
    let found : value_at w.checks c.args.check ≡ Some k =
    subst (λ z. value_at z.checks c.args.check ≡ Some k) c.self.view_is (sym c.in-Some.ensures) in
    let i : IsEngine w = subst IsEngine c.self.view_is c.self.invariant in
    let done : decided_in k.stage ≡ Some c.in-Some-outcome.outcome.now = search rules in
    outcome_told w c.args.check k c.in-Some-outcome.outcome.now i found done c.outcome.ensures.verdict
