use Rattle.std.proofs.Common.{◌≡◌, subst}
use Rattle.sq_checks.specs.OpenChecks.{change_at, looked}
use Rattle.sq_engine.specs.Begun.{AreKeptBut}
use Rattle.sq_engine.specs.EngineViews.{EngineView}
use Rattle.sq_engine.proofs.BegunLaws.{kept_looked}
use Rattle.sq_engine.proofs.ChangedLaws.{looked_engine}
use Rattle.sq_engine.proofs.engines.Engine.come_to.Goals as goal

pub invariant_of-self : goal.invariant_of-self
invariant_of-self c =
    let v : EngineView = record {
      conns = c.self.inside.conns;
      checks = c.self.inside.checks;
      asks = c.self.inside.asks;
      puts = c.self.inside.puts;
      epochs = c.self.inside.epochs;
      setup = c.self.inside.setup;
      offset = c.self.inside.offset;
      latest = c.self.inside.latest;
    } in
    looked_engine v c.come_to.new.self c.args.check c.come_to.ensures.list.0 c.self.invariant c.come_to.ensures.list.1
    c.come_to.ensures.rows

pub returns-clause-list : goal.returns-clause-list
returns-clause-list c =
    let list = c.come_to.ensures.list in
    (list.0, subst (λ z. c.come_to.new.self ≡ change_at c.args.check (looked list.0) z.checks) c.self.view_is list.1)

pub returns-clause-kept : goal.returns-clause-kept
returns-clause-kept c =
    let v : EngineView = record {
      conns = c.self.inside.conns;
      checks = c.self.inside.checks;
      asks = c.self.inside.asks;
      puts = c.self.inside.puts;
      epochs = c.self.inside.epochs;
      setup = c.self.inside.setup;
      offset = c.self.inside.offset;
      latest = c.self.inside.latest;
    } in
    let list = c.come_to.ensures.list in
    subst (λ z. AreKeptBut c.args.check z.checks c.come_to.new.self) c.self.view_is
    (kept_looked c.args.check list.0 v.checks c.come_to.new.self list.1)
