use Rattle.sq_engine.specs.EngineViews.{EngineView}
use Rattle.sq_engine.proofs.ChangedLaws.{settled_engine}
use Rattle.std.proofs.Common.{subst}
use Rattle.sq_engine.specs.Begun.{AreKept}
use Rattle.sq_engine.proofs.BegunLaws.{kept_settled}
use Rattle.sq_engine.proofs.engines.Engine.settle.Goals as goal

pub invariant_of-self : goal.invariant_of-self
invariant_of-self c =
    let v : EngineView = record {
      conns = c.self.inside.conns;
      checks = c.self.inside.checks;
      asks = c.self.inside.asks;
      puts = c.self.inside.puts;
      epochs = c.self.inside.epochs;
      setup = c.self.inside.setup;
      offset = c.self.inside.offset;
      latest = c.self.inside.latest;
    } in
    settled_engine v c.settle.new.self c.args.check c.settle.result c.self.invariant c.settle.ensures.list
    c.settle.ensures.rows c.settle.ensures.err

pub returns-clause-kept : goal.returns-clause-kept
returns-clause-kept c =
    let v : EngineView = record {
      conns = c.self.inside.conns;
      checks = c.self.inside.checks;
      asks = c.self.inside.asks;
      puts = c.self.inside.puts;
      epochs = c.self.inside.epochs;
      setup = c.self.inside.setup;
      offset = c.self.inside.offset;
      latest = c.self.inside.latest;
    } in
    subst (λ z. AreKept z.checks c.settle.new.self) c.self.view_is
    (kept_settled c.args.check v.checks c.settle.new.self c.settle.result c.settle.ensures.list c.settle.ensures.err)
