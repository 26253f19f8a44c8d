use Rattle.std.proofs.Common.{◌≡◌, ◌∙◌, max, None, Some, sym, subst}
use Rattle.sq_model.specs.Acts.{due_in}
use Rattle.sq_model.specs.States.{IsSame}
use Rattle.sq_engine.specs.Acting.{IsActPromised, after_act, due_now}
use Rattle.sq_engine.specs.EngineViews.{EngineView, state_of}
use Rattle.sq_engine.proofs.ActLaws.{act_left, act_promised, due_read, left_same}
use Rattle.sq_engine.proofs.engines.Engine.act.Goals as goal

pub invariant_of-self : goal.invariant_of-self
invariant_of-self c =
    let v : EngineView = record {
      conns = c.self.inside.conns;
      checks = c.self.inside.checks;
      asks = c.self.inside.asks;
      puts = c.self.inside.puts;
      epochs = c.self.inside.epochs;
      setup = c.self.inside.setup;
      offset = c.self.inside.offset;
      latest = c.self.inside.latest;
    } in
    act_left v c.act.new.self c.self.inside.latest c.self.invariant c.act.ensures.value

pub returns-in_default-clause-state : goal.returns-in_default-clause-state
returns-in_default-clause-state c =
    let v : EngineView = record {
      conns = c.self.inside.conns;
      checks = c.self.inside.checks;
      asks = c.self.inside.asks;
      puts = c.self.inside.puts;
      epochs = c.self.inside.epochs;
      setup = c.self.inside.setup;
      offset = c.self.inside.offset;
      latest = c.self.inside.latest;
    } in
    subst (λ z. due_now z ≡ due_in (state_of z)) c.self.view_is (due_read v c.self.invariant c.facts.ensures)

pub returns-in_default-clause-promised : goal.returns-in_default-clause-promised
returns-in_default-clause-promised c =
    let v : EngineView = record {
      conns = c.self.inside.conns;
      checks = c.self.inside.checks;
      asks = c.self.inside.asks;
      puts = c.self.inside.puts;
      epochs = c.self.inside.epochs;
      setup = c.self.inside.setup;
      offset = c.self.inside.offset;
      latest = c.self.inside.latest;
    } in
    subst (λ z. IsActPromised (state_of z) (max c.args.now z.latest) None (state_of z)) c.self.view_is
    (act_promised v (state_of v) (max c.args.now v.latest) None c.self.invariant c.facts.ensures
    (sym c.in_default.is ∙ c.act.ensures.act) tt)

pub invariant_of-self-2 : goal.invariant_of-self-2
invariant_of-self-2 c =
    let v : EngineView = record {
      conns = c.self.inside.conns;
      checks = c.self.inside.checks;
      asks = c.self.inside.asks;
      puts = c.self.inside.puts;
      epochs = c.self.inside.epochs;
      setup = c.self.inside.setup;
      offset = c.self.inside.offset;
      latest = c.self.inside.latest;
    } in
    act_left v c.act.new.self c.later-self-inside.result c.self.invariant c.act.ensures.value

pub returns-clause-state : goal.returns-clause-state
returns-clause-state c =
    let v : EngineView = record {
      conns = c.self.inside.conns;
      checks = c.self.inside.checks;
      asks = c.self.inside.asks;
      puts = c.self.inside.puts;
      epochs = c.self.inside.epochs;
      setup = c.self.inside.setup;
      offset = c.self.inside.offset;
      latest = c.self.inside.latest;
    } in
    subst (λ z. due_now z ≡ due_in (state_of z)) c.self.view_is (due_read v c.self.invariant c.facts.ensures)

pub returns-clause-some : goal.returns-clause-some
returns-clause-some c =
    let v : EngineView = record {
      conns = c.self.inside.conns;
      checks = c.self.inside.checks;
      asks = c.self.inside.asks;
      puts = c.self.inside.puts;
      epochs = c.self.inside.epochs;
      setup = c.self.inside.setup;
      offset = c.self.inside.offset;
      latest = c.self.inside.latest;
    } in
    let new : EngineView = record v { epochs = c.act.new.self; latest = c.later-self-inside.result } in
    subst (λ z. IsSame (state_of new) (after_act (due_now z) (max c.args.now z.latest) (state_of z))) c.self.view_is
    (subst (λ m. IsSame (state_of new) (after_act (due_now v) m (state_of v))) c.later-self-inside.ensures
    (left_same v c.act.new.self c.later-self-inside.result c.in-Some.act c.act.ensures.value
    (sym c.act.ensures.act ∙ c.in-Some.is)))

pub returns-clause-promised : goal.returns-clause-promised
returns-clause-promised c =
    let v : EngineView = record {
      conns = c.self.inside.conns;
      checks = c.self.inside.checks;
      asks = c.self.inside.asks;
      puts = c.self.inside.puts;
      epochs = c.self.inside.epochs;
      setup = c.self.inside.setup;
      offset = c.self.inside.offset;
      latest = c.self.inside.latest;
    } in
    let new : EngineView = record v { epochs = c.act.new.self; latest = c.later-self-inside.result } in
    subst (λ z. IsActPromised (state_of z) (max c.args.now z.latest) (Some c.in-Some.act) (state_of new)) c.self.view_is
    (act_promised v (state_of new) (max c.args.now v.latest) (Some c.in-Some.act) c.self.invariant c.facts.ensures
    (sym c.in-Some.is ∙ c.act.ensures.act)
    (subst (λ m. IsSame (state_of new) (after_act (due_now v) m (state_of v))) c.later-self-inside.ensures
    (left_same v c.act.new.self c.later-self-inside.result c.in-Some.act c.act.ensures.value
    (sym c.act.ensures.act ∙ c.in-Some.is))))
