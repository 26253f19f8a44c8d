use Rattle.std.proofs.Common.{◌≡◌, subst}
use Rattle.sq_model.specs.Acts.{due_in}
use Rattle.sq_engine.specs.Acting.{due_now}
use Rattle.sq_engine.specs.EngineViews.{EngineView, state_of}
use Rattle.sq_engine.proofs.ActLaws.{due_read}
use Rattle.sq_engine.proofs.engines.Engine.due.Goals as goal

pub returns-clause-state : goal.returns-clause-state
returns-clause-state c =
    let v : EngineView = record {
      conns = c.self.inside.conns;
      checks = c.self.inside.checks;
      asks = c.self.inside.asks;
      puts = c.self.inside.puts;
      epochs = c.self.inside.epochs;
      setup = c.self.inside.setup;
      offset = c.self.inside.offset;
      latest = c.self.inside.latest;
    } in
    subst (λ z. due_now z ≡ due_in (state_of z)) c.self.view_is (due_read v c.self.invariant c.facts.ensures)
