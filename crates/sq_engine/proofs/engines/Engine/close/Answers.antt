use Rattle.std.proofs.Common.{◌≡◌, ◌∙◌, max, true, false, Err, Ok, is_none, ap, sym, subst}
use Rattle.sq_machine.specs.declared.refusals.Refusal.TheVariants as refusal
use Rattle.sq_model.specs.CheckRows.{without_conn}
use Rattle.sq_checks.specs.Conns.{client_in}
use Rattle.sq_checks.specs.OpenChecks.{rows_of}
use Rattle.sq_model.specs.Changes.{after_close, with_checks}
use Rattle.sq_model.specs.States.{IsSame}
use Rattle.sq_engine.specs.EngineViews.{EngineView, state_of}
use Rattle.sq_engine.proofs.CloseLaws.{Closed, close_fine, close_unknown, closed_same, none_by}
use Rattle.sq_engine.proofs.PromiseLaws.{close_promised}
use Rattle.sq_engine.specs.Begun.{AreKept}
use Rattle.sq_engine.proofs.engines.Engine.close.Goals as goal

pub returns-then-is_none-clause-promised : goal.returns-then-is_none-clause-promised
returns-then-is_none-clause-promised c =
    let w = c.args.self.now in
    let none : is_none (client_in w.conns c.args.conn) ≡ true =
    sym (ap is_none (c.peer.ensures ∙ ap (λ z. client_in z.conns c.args.conn) c.self.view_is))
    ∙ none_by c.peer.result c.is_none.result c.is_none.ensures ∙ c.if-is_none.true in
    close_promised {A = Unit {0}} (state_of w) (state_of w) (max c.args.now w.latest) c.args.conn
    (Err (refusal.UnknownConn c.args.conn)) (close_unknown (state_of w) c.args.conn none) tt

pub returns-clause-ok : goal.returns-clause-ok
returns-clause-ok c =
    let w = c.args.self.now in
    let v : EngineView = record {
      conns = c.self-2.inside.conns;
      checks = c.self-2.inside.checks;
      asks = c.self-2.inside.asks;
      puts = c.self-2.inside.puts;
      epochs = c.self-2.inside.epochs;
      setup = c.self-2.inside.setup;
      offset = c.self-2.inside.offset;
      latest = c.self-2.inside.latest;
    } in
    let known : is_none (client_in w.conns c.args.conn) ≡ false =
    sym (ap is_none (c.peer.ensures ∙ ap (λ z. client_in z.conns c.args.conn) c.self.view_is))
    ∙ none_by c.peer.result c.is_none.result c.is_none.ensures ∙ c.if-is_none.false in
    let left : IsSame (state_of v) (with_checks (without_conn c.args.conn (rows_of w.checks)) (state_of w)) =
    subst (λ z. IsSame (state_of z) (with_checks (without_conn c.args.conn (rows_of w.checks)) (state_of w)))
    (sym c.self-2.view_is) c.drop_check.ensures.same in
    let closed : Closed c.args.conn v.conns c.close-peer.new.self c.close-peer.result =
    record {
      client = c.close-peer.ensures.client;
      clients = c.close-peer.ensures.clients;
      checks = c.close-peer.ensures.checks;
      len = c.close-peer.ensures.len;
      counts = c.close-peer.ensures.counts;
    } in
    let moment : c.later-self-inside.result ≡ max c.args.now w.latest = c.later-self-inside.ensures
    ∙ ap (λ z. max c.args.now z.latest) c.self-2.view_is ∙ ap (λ t. max c.args.now t) c.drop_check.ensures.latest in
    subst (λ t. IsSame (state_of (record v { conns = c.close-peer.new.self; latest = c.later-self-inside.result }))
    (after_close c.args.conn t (state_of w))) moment
    (closed_same (state_of w) v c.args.conn c.later-self-inside.result c.close-peer.new.self c.close-peer.result left
    known closed)

pub returns-clause-promised : goal.returns-clause-promised
returns-clause-promised c =
    let w = c.args.self.now in
    let v : EngineView = record {
      conns = c.self-2.inside.conns;
      checks = c.self-2.inside.checks;
      asks = c.self-2.inside.asks;
      puts = c.self-2.inside.puts;
      epochs = c.self-2.inside.epochs;
      setup = c.self-2.inside.setup;
      offset = c.self-2.inside.offset;
      latest = c.self-2.inside.latest;
    } in
    let known : is_none (client_in w.conns c.args.conn) ≡ false =
    sym (ap is_none (c.peer.ensures ∙ ap (λ z. client_in z.conns c.args.conn) c.self.view_is))
    ∙ none_by c.peer.result c.is_none.result c.is_none.ensures ∙ c.if-is_none.false in
    close_promised {A = Unit {0}} (state_of w)
    (state_of (record v { conns = c.close-peer.new.self; latest = c.later-self-inside.result }))
    (max c.args.now w.latest) c.args.conn (Ok tt) (close_fine (state_of w) c.args.conn known) (returns-clause-ok c)

pub returns-clause-kept : goal.returns-clause-kept
returns-clause-kept c = subst (λ z. AreKept c.args.self.now.checks z.checks) (sym c.self-2.view_is)
    c.drop_check.ensures.kept
