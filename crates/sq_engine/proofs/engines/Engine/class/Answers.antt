use Rattle.std.proofs.Common.{◌∙◌, ap}
use Rattle.sq_model.specs.Says.{class_in}
use Rattle.sq_engine.specs.EngineViews.{EngineView, state_of}
use Rattle.sq_engine.proofs.ReaderLaws.{class_read}
use Rattle.sq_engine.proofs.engines.Engine.class.Goals as goal

pub returns : goal.returns
returns c =
    let v : EngineView = record {
      conns = c.self.inside.conns;
      checks = c.self.inside.checks;
      asks = c.self.inside.asks;
      puts = c.self.inside.puts;
      epochs = c.self.inside.epochs;
      setup = c.self.inside.setup;
      offset = c.self.inside.offset;
      latest = c.self.inside.latest;
    } in
    c.class.ensures.class ∙ class_read v c.args.epoch c.args.class
    ∙ ap (λ z. class_in (state_of z) c.args.epoch c.args.class) c.self.view_is
