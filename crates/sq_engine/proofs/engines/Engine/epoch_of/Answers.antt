use Rattle.std.proofs.Common.{◌≡◌, ◌∙◌, None, Some, subst, sym, rules}
use Rattle.sq_checks.specs.Tables.{value_at}
use Rattle.sq_engine.proofs.NowLaws.{epoch_found, epoch_missing}
use Rattle.sq_engine.proofs.engines.Engine.epoch_of.Goals as goal

pub returns-in-Some : goal.returns-in-Some
returns-in-Some c =
    let w = c.args.self.now in
    let k = c.in-Some.open.now in
    let found : value_at w.checks c.args.check ≡ Some k =
    subst (λ z. value_at z.checks c.args.check ≡ Some k) c.self.view_is (sym c.in-Some.ensures) in
    c.epoch.ensures ∙ sym (epoch_found w c.args.check k found)

pub returns-in-None : goal.returns-in-None
returns-in-None c =
    let w = c.args.self.now in
    let none : value_at c.self.inside.checks c.args.check ≡ None = search rules in
    sym (epoch_missing w c.args.check (subst (λ z. value_at z.checks c.args.check ≡ None) c.self.view_is none))
