use Rattle.std.proofs.Common.{◌≡◌, ◌∙◌, is_some, true, false, max, length, nat_le, Ok, Err, ap, sym, rules, subst}
use Rattle.sq_machine.specs.Limits.{conn_limit}
use Rattle.sq_machine.specs.declared.refusals.Refusal.TheVariants as refusal
use Rattle.sq_rules.specs.declared.sights.Peer.{Peer}
use Rattle.sq_checks.specs.Conns.{client_in}
use Rattle.sq_model.specs.Changes.{after_open}
use Rattle.sq_model.specs.States.{IsSame}
use Rattle.sq_engine.specs.EngineViews.{EngineView, state_of}
use Rattle.sq_engine.proofs.OpenLaws.{open_fine, open_full, open_in_use, opened_same}
use Rattle.sq_engine.proofs.PromiseLaws.{open_promised}
use Rattle.sq_engine.proofs.engines.Engine.open.Goals as goal

pub returns-then-is_some-clause-promised : goal.returns-then-is_some-clause-promised
returns-then-is_some-clause-promised c =
    let s = state_of c.args.self.now in
    let used : is_some (client_in c.self.inside.conns c.args.conn) ≡ true = search rules in
    let here : is_some (s.client c.args.conn) ≡ true =
    ap (λ z. is_some (client_in z.conns c.args.conn)) (sym c.self.view_is) ∙ used in
    open_promised {A = Unit {0}} s s (max c.args.now c.args.self.now.latest) c.args.conn c.args.addr c.args.port
    (Err (refusal.ConnInUse c.args.conn)) (open_in_use s c.args.conn here) tt

pub returns-then-is_full-clause-promised : goal.returns-then-is_full-clause-promised
returns-then-is_full-clause-promised c =
    let s = state_of c.args.self.now in
    let free : is_some (client_in c.self.inside.conns c.args.conn) ≡ false = search rules in
    let full : nat_le conn_limit (length c.self.inside.conns.links) ≡ true = search rules in
    let here : is_some (s.client c.args.conn) ≡ false =
    ap (λ z. is_some (client_in z.conns c.args.conn)) (sym c.self.view_is) ∙ free in
    let many : nat_le conn_limit s.conns ≡ true =
    ap (λ z. nat_le conn_limit (length z.conns.links)) (sym c.self.view_is) ∙ full in
    open_promised {A = Unit {0}} s s (max c.args.now c.args.self.now.latest) c.args.conn c.args.addr c.args.port
    (Err (refusal.TooManyConns conn_limit)) (open_full s c.args.conn here many) tt

pub returns-clause-promised : goal.returns-clause-promised
returns-clause-promised c =
    let v : EngineView = record {
      conns = c.self.inside.conns;
      checks = c.self.inside.checks;
      asks = c.self.inside.asks;
      puts = c.self.inside.puts;
      epochs = c.self.inside.epochs;
      setup = c.self.inside.setup;
      offset = c.self.inside.offset;
      latest = c.self.inside.latest;
    } in
    let s = state_of c.args.self.now in
    let p : Peer = record { addr = c.args.addr; port = c.args.port } in
    let new : EngineView = record v { conns = c.open.new.self; latest = c.later-self-inside.result } in
    let free : is_some (client_in c.self.inside.conns c.args.conn) ≡ false = search rules in
    let room : nat_le conn_limit (length c.self.inside.conns.links) ≡ false = search rules in
    let here : is_some (s.client c.args.conn) ≡ false =
    ap (λ z. is_some (client_in z.conns c.args.conn)) (sym c.self.view_is) ∙ free in
    let few : nat_le conn_limit s.conns ≡ false =
    ap (λ z. nat_le conn_limit (length z.conns.links)) (sym c.self.view_is) ∙ room in
    let ok : IsSame (state_of new) (after_open c.args.conn p (max c.args.now c.args.self.now.latest) s) =
    subst (λ z. IsSame (state_of new) (after_open c.args.conn p (max c.args.now z.latest) (state_of z))) c.self.view_is
    (subst (λ m. IsSame (state_of new) (after_open c.args.conn p m (state_of v))) c.later-self-inside.ensures
    (opened_same v c.open.new.self c.later-self-inside.result c.args.conn p
    (record {
      clients = c.in-Ok.ensures.clients;
      checks = c.in-Ok.ensures.checks;
      len = c.in-Ok.ensures.len;
      counts = c.in-Ok.ensures.counts;
    }))) in
    open_promised {A = Unit {0}} s (state_of new) (max c.args.now c.args.self.now.latest) c.args.conn c.args.addr
    c.args.port (Ok tt) (open_fine s c.args.conn here few) ok
