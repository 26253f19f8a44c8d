use Rattle.std.proofs.Common.{◌≡◌, ◌∙◌, ◌+◌, ◌^◌, ◌<◌, ◌++◌, ◌∷◌, [], suc, None, ap, max, refl, sym, subst, arith, rules, true}
use Rattle.sq_machine.specs.Limits.{last_number}
use Rattle.sq_rules.specs.declared.sights.Sight.{Sight}
use Rattle.sq_checks.specs.Conns.{check_in, client_in}
use Rattle.sq_checks.specs.OpenChecks.{all_before, begun_parts, row, rows_of}
use Rattle.sq_epochs.specs.LiveEpochs.{after_began, checks_at}
use Rattle.sq_model.specs.Answers.{asked_in}
use Rattle.sq_model.specs.Changes.{after_ask}
use Rattle.sq_model.specs.States.{IsSame}
use Rattle.sq_engine.specs.Engines.{IsEngine}
use Rattle.sq_engine.specs.EngineViews.{EngineView, state_of}
use Rattle.sq_engine.proofs.AskLaws.{Begun, began_room, begun_engine, begun_same}
use Rattle.sq_engine.specs.Begun.{HasBegun}
use Rattle.sq_engine.proofs.BegunLaws.{has_begun}
use Rattle.sq_engine.proofs.engines.Engine.ask_on.Goals as goal

pub began-requires-clause-room : goal.began-requires-clause-room
began-requires-clause-room c =
    let v : EngineView = record {
      conns = c.self.inside.conns;
      checks = c.self.inside.checks;
      asks = c.self.inside.asks;
      puts = c.self.inside.puts;
      epochs = c.self.inside.epochs;
      setup = c.self.inside.setup;
      offset = c.self.inside.offset;
      latest = c.self.inside.latest;
    } in
    subst (λ z. suc (checks_at v.epochs z) < 2 ^ 64) (sym c.current-epoch.ensures)
    (began_room v c.self.invariant c.len-len.ensures.rise)

pub invariant_of-self-2 : goal.invariant_of-self-2
invariant_of-self-2 c =
    let v : EngineView = record {
      conns = c.self.inside.conns;
      checks = c.self.inside.checks;
      asks = c.self.inside.asks;
      puts = c.self.inside.puts;
      epochs = c.self.inside.epochs;
      setup = c.self.inside.setup;
      offset = c.self.inside.offset;
      latest = c.self.inside.latest;
    } in
    let n = c.in_ok-peer.number in
    let one : n ≡ suc v.asks = c.in_ok-peer.ensures.number ∙ ap (λ z. suc z.asks) (sym c.self.view_is) in
    let few : n < last_number = c.in_ok-peer.ensures.few in
    let free : check_in v.conns c.args.conn ≡ None = ap (λ z. check_in z.conns c.args.conn) c.self.view_is
    ∙ c.in_ok-peer.ensures.free in
    let sight : Sight = record {
      request = c.args.request;
      addr = c.in_ok-peer.peer.addr;
      port = c.in_ok-peer.peer.port;
      minute = c.minute_of_week.result;
      conns = c.of.result;
    } in
    let k : Begun v c.args.conn n sight c.set_check.new.self c.begin.new.checks = record {
      number_is = one;
      few = few;
      free = free;
      list = c.in-Ok.ensures.list
          ∙ ap (λ s. v.checks ++ (n, begun_parts c.args.conn c.current-epoch.result s sight) ∷ [])
          c.in_ok-facts.ensures.same
          ∙ ap (λ e. v.checks ++ (n, begun_parts c.args.conn e v.setup sight) ∷ []) c.current-epoch.ensures;
      rows = c.in-Ok.ensures.rows
          ∙ ap (λ s. rows_of v.checks ++ row n (begun_parts c.args.conn c.current-epoch.result s sight) ∷ [])
          c.in_ok-facts.ensures.same
          ∙ ap (λ e. rows_of v.checks ++ row n (begun_parts c.args.conn e v.setup sight) ∷ []) c.current-epoch.ensures;
      marks = c.set_check.ensures.checks;
    } in
    let is : c.began.new.self ≡ after_began v.epochs.current v.epochs = c.began.ensures
    ∙ ap (λ z. after_began z v.epochs) c.current-epoch.ensures in
    subst (λ z. IsEngine (record v {
      conns = c.set_check.new.self;
      checks = c.begin.new.checks;
      asks = n;
      epochs = c.began.new.self;
      setup = z;
      latest = c.later-moment.result;
    })) (sym c.in_ok-facts.ensures.same)
    (begun_engine v c.args.conn n c.later-moment.result sight c.set_check.new.self c.begin.new.checks c.began.new.self
    c.self.invariant k is)

pub returns-clause-ok : goal.returns-clause-ok
returns-clause-ok c = λ method target fields e.
    let v : EngineView = record {
      conns = c.self.inside.conns;
      checks = c.self.inside.checks;
      asks = c.self.inside.asks;
      puts = c.self.inside.puts;
      epochs = c.self.inside.epochs;
      setup = c.self.inside.setup;
      offset = c.self.inside.offset;
      latest = c.self.inside.latest;
    } in
    let n = c.in_ok-peer.number in
    let one : n ≡ suc v.asks = c.in_ok-peer.ensures.number ∙ ap (λ z. suc z.asks) (sym c.self.view_is) in
    let few : n < last_number = c.in_ok-peer.ensures.few in
    let free : check_in v.conns c.args.conn ≡ None = ap (λ z. check_in z.conns c.args.conn) c.self.view_is
    ∙ c.in_ok-peer.ensures.free in
    let sight : Sight = record {
      request = c.args.request;
      addr = c.in_ok-peer.peer.addr;
      port = c.in_ok-peer.peer.port;
      minute = c.minute_of_week.result;
      conns = c.of.result;
    } in
    let k : Begun v c.args.conn n sight c.set_check.new.self c.begin.new.checks = record {
      number_is = one;
      few = few;
      free = free;
      list = c.in-Ok.ensures.list
          ∙ ap (λ s. v.checks ++ (n, begun_parts c.args.conn c.current-epoch.result s sight) ∷ [])
          c.in_ok-facts.ensures.same
          ∙ ap (λ e. v.checks ++ (n, begun_parts c.args.conn e v.setup sight) ∷ []) c.current-epoch.ensures;
      rows = c.in-Ok.ensures.rows
          ∙ ap (λ s. rows_of v.checks ++ row n (begun_parts c.args.conn c.current-epoch.result s sight) ∷ [])
          c.in_ok-facts.ensures.same
          ∙ ap (λ e. rows_of v.checks ++ row n (begun_parts c.args.conn e v.setup sight) ∷ []) c.current-epoch.ensures;
      marks = c.set_check.ensures.checks;
    } in
    let is : c.began.new.self ≡ after_began v.epochs.current v.epochs = c.began.ensures
    ∙ ap (λ z. after_began z v.epochs) c.current-epoch.ensures in
    subst (λ z. IsSame (state_of
    (record v {
      conns = c.set_check.new.self;
      checks = c.begin.new.checks;
      asks = n;
      epochs = c.began.new.self;
      latest = c.later-moment.result;
    }))
    (after_ask (asked_in (state_of z) (max c.args.now z.latest) c.args.conn method target fields)
    (max c.args.now z.latest) (state_of z))) c.self.view_is
    (subst (λ z. IsSame (state_of
    (record v {
      conns = c.set_check.new.self;
      checks = c.begin.new.checks;
      asks = n;
      epochs = c.began.new.self;
      latest = c.later-moment.result;
    }))
    (after_ask (asked_in (state_of v) z c.args.conn method target fields) z (state_of v))) c.later-moment.ensures
    (begun_same v c.args.conn n c.later-moment.result method target fields c.in_ok-peer.peer sight c.set_check.new.self
    c.begin.new.checks c.began.new.self k is
    (ap (λ z. client_in z.conns c.args.conn) c.self.view_is ∙ c.in_ok-peer.ensures.client) e refl refl
    c.minute_of_week.ensures c.of.ensures c.set_check.ensures.clients c.set_check.ensures.len
    c.set_check.ensures.counts))

pub returns-clause-begun : goal.returns-clause-begun
returns-clause-begun c =
    let v : EngineView = record {
      conns = c.self.inside.conns;
      checks = c.self.inside.checks;
      asks = c.self.inside.asks;
      puts = c.self.inside.puts;
      epochs = c.self.inside.epochs;
      setup = c.self.inside.setup;
      offset = c.self.inside.offset;
      latest = c.self.inside.latest;
    } in
    let n = c.in_ok-peer.number in
    let sight : Sight = record {
      request = c.args.request;
      addr = c.in_ok-peer.peer.addr;
      port = c.in_ok-peer.peer.port;
      minute = c.minute_of_week.result;
      conns = c.of.result;
    } in
    let list : c.begin.new.checks ≡ v.checks ++ (n, begun_parts c.args.conn v.epochs.current v.setup sight) ∷ [] =
    c.in-Ok.ensures.list
    ∙ ap (λ s. v.checks ++ (n, begun_parts c.args.conn c.current-epoch.result s sight) ∷ []) c.in_ok-facts.ensures.same
    ∙ ap (λ e. v.checks ++ (n, begun_parts c.args.conn e v.setup sight) ∷ []) c.current-epoch.ensures in
    let one : suc v.asks ≡ n = ap (λ z. suc z.asks) c.self.view_is ∙ sym c.in_ok-peer.ensures.number in
    let above : all_before n (rows_of v.checks) ≡ true =
    subst (λ z. all_before z (rows_of v.checks) ≡ true) one c.self.invariant.asked.given in
    subst (λ z. HasBegun n z.setup c.args.request z.checks c.begin.new.checks) c.self.view_is
    (subst (HasBegun n v.setup c.args.request v.checks) (sym list)
    (has_begun n c.args.conn v.epochs.current v.setup sight c.args.request v.checks above refl))
