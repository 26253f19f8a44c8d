use Rattle.std.proofs.Common.{◌≡◌, ◌∙◌, ◌==◌, None, Some, is_some, map, ap, sym, subst, rules}
use Rattle.std.proofs.lemmas.Option.{same_Some}
use Rattle.sq_machine.specs.Rising.{Rises}
use Rattle.sq_checks.proofs.AloneLaws.{conn_numbered}
use Rattle.sq_checks.specs.Conns.{check_in}
use Rattle.sq_checks.specs.OpenChecks.{rows_of}
use Rattle.sq_epochs.specs.EpochProcs.{AreHomed}
use Rattle.sq_model.specs.Changes.{with_checks}
use Rattle.sq_model.specs.States.{IsSame}
use Rattle.sq_engine.specs.Engines.{IsEngine, held_number}
use Rattle.sq_engine.specs.EngineViews.{state_of}
use Rattle.sq_engine.proofs.CloseLaws.{dropped_none}
use Rattle.sq_engine.proofs.CountLaws.{if_true}
use Rattle.sq_engine.proofs.OnLaws.{stands_on}
use Rattle.sq_engine.proofs.TableLaws.{number_self}
use Rattle.sq_engine.proofs.engines.Engine.drop_check.Goals as goal

pub remove-open-requires : goal.remove-open-requires
remove-open-requires c =
    let w = c.args.self.now in
    let i : IsEngine w = subst IsEngine c.self.view_is c.self.invariant in
    let r : Rises (map held_number (rows_of w.checks)) =
    subst (λ z. Rises (map held_number (rows_of z.checks))) c.self.view_is c.len-len.ensures.rise in
    let n = c.in-Some.check in
    let has : check_in w.conns c.args.conn ≡ Some n =
    subst (λ z. check_in z.conns c.args.conn ≡ Some n) c.self.view_is (sym c.in-Some.ensures) in
    ap is_some (stands_on w c.args.conn n i r has).at

pub returns-in-Some-clause-same : goal.returns-in-Some-clause-same
returns-in-Some-clause-same c =
    let w = c.args.self.now in
    let i : IsEngine w = subst IsEngine c.self.view_is c.self.invariant in
    let r : Rises (map held_number (rows_of w.checks)) =
    subst (λ z. Rises (map held_number (rows_of z.checks))) c.self.view_is c.len-len.ensures.rise in
    let n = c.in-Some.check in
    let has : check_in w.conns c.args.conn ≡ Some n =
    subst (λ z. check_in z.conns c.args.conn ≡ Some n) c.self.view_is (sym c.in-Some.ensures) in
    subst (λ z. IsSame (state_of c.remove-open.new.self) (with_checks z (state_of w)))
    (sym (conn_numbered c.args.conn n (rows_of w.checks) i.asked.alone r (sym (i.asked.on_conns c.args.conn) ∙ has)))
    c.remove-open.ensures.same

pub returns-in-Some-clause-free : goal.returns-in-Some-clause-free
returns-in-Some-clause-free c =
    let w = c.args.self.now in
    let i : IsEngine w = subst IsEngine c.self.view_is c.self.invariant in
    let r : Rises (map held_number (rows_of w.checks)) =
    subst (λ z. Rises (map held_number (rows_of z.checks))) c.self.view_is c.len-len.ensures.rise in
    let n = c.in-Some.check in
    let has : check_in w.conns c.args.conn ≡ Some n =
    subst (λ z. check_in z.conns c.args.conn ≡ Some n) c.self.view_is (sym c.in-Some.ensures) in
    let s = stands_on w c.args.conn n i r has in
    let conn : c.remove-open.result.conn ≡ c.args.conn =
    ap (λ z. z.conn) (same_Some _ _ (c.remove-open.ensures.check ∙ s.at)) ∙ s.conn_is in
    c.remove-open.ensures.conns c.args.conn
    ∙ if_true (c.remove-open.result.conn == c.args.conn) None (check_in w.conns c.args.conn)
    (ap (λ z. z == c.args.conn) conn ∙ number_self c.args.conn)

pub returns-in_default-clause-same : goal.returns-in_default-clause-same
returns-in_default-clause-same c =
    let w = c.args.self.now in
    let i : IsEngine w = subst IsEngine c.self.view_is c.self.invariant in
    let none : check_in c.self.inside.conns c.args.conn ≡ None = search rules in
    dropped_none w c.args.conn i (subst (λ z. AreHomed z.epochs) c.self.view_is c.facts.ensures.homed)
    (subst (λ z. check_in z.conns c.args.conn ≡ None) c.self.view_is none)
