use Rattle.std.proofs.Common.{◌≡◌, ◌∙◌, None, Some, ap, sym, subst, rules}
use Rattle.std.specs.Option.{option_map}
use Rattle.sq_model.specs.CheckRows.{Held, held_at}
use Rattle.sq_checks.specs.OpenChecks.{row}
use Rattle.sq_checks.specs.Tables.{value_at}
use Rattle.sq_engine.specs.EngineViews.{EngineView, state_of}
use Rattle.sq_engine.proofs.TableLaws.{row_at_number}
use Rattle.sq_engine.proofs.engines.Engine.conn_of.Goals as goal

pub returns-in-Some : goal.returns-in-Some
returns-in-Some c =
    let n = c.args.check in
    let checks = c.self.inside.checks in
    let found : value_at checks n ≡ Some c.in-Some.open.now = sym c.in-Some.ensures in
    subst (λ (z : EngineView). Some c.conn.result
    ≡ option_map (λ (h : Held). h.asked.conn) (held_at n (state_of z).checks)) c.self.view_is
    (ap Some c.conn.ensures ∙ sym
    (ap (option_map (λ (h : Held). h.asked.conn)) (row_at_number n checks ∙ ap (option_map (row n)) found)))

pub returns-in-None : goal.returns-in-None
returns-in-None c =
    let n = c.args.check in
    let checks = c.self.inside.checks in
    let none : value_at checks n ≡ None = search rules in
    subst (λ (z : EngineView). None ≡ option_map (λ (h : Held). h.asked.conn) (held_at n (state_of z).checks))
    c.self.view_is
    (sym (ap (option_map (λ (h : Held). h.asked.conn)) (row_at_number n checks ∙ ap (option_map (row n)) none)))
