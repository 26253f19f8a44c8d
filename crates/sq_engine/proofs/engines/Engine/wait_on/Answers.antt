use Rattle.std.proofs.Common.{subst, refl}
use Rattle.sq_checks.specs.Conns.{check_in}
use Rattle.sq_checks.specs.OpenChecks.{rows_of, says_waits}
use Rattle.sq_epochs.specs.EpochStates.{epoch_at}
use Rattle.sq_engine.specs.EngineViews.{EngineView}
use Rattle.sq_engine.proofs.ChangedLaws.{changed_engine, waited_keeps}
use Rattle.sq_engine.proofs.HeldLaws.{asked_stepped, counted_stepped}
use Rattle.sq_engine.specs.Begun.{AreKept}
use Rattle.sq_engine.proofs.BegunLaws.{kept_change}
use Rattle.sq_engine.proofs.engines.Engine.wait_on.Goals as goal

pub invariant_of-self : goal.invariant_of-self
invariant_of-self c =
    let v : EngineView = record {
      conns = c.self.inside.conns;
      checks = c.self.inside.checks;
      asks = c.self.inside.asks;
      puts = c.self.inside.puts;
      epochs = c.self.inside.epochs;
      setup = c.self.inside.setup;
      offset = c.self.inside.offset;
      latest = c.self.inside.latest;
    } in
    let rows = c.wait_on.ensures.rows c.args.question (rw (← c.self.view_is) at c.requires.waits) in
    changed_engine v c.wait_on.new.self c.args.moment c.args.check _ c.self.invariant c.wait_on.ensures.list
    (asked_stepped c.args.check (says_waits c.args.question) (check_in v.conns) (rows_of v.checks) _ v.asks
    rows c.self.invariant.asked)
    (counted_stepped c.args.check (says_waits c.args.question) v.epochs.current (epoch_at v.epochs) (rows_of v.checks) _
    rows c.self.invariant.counted)
    (λ m same j is. waited_keeps j)

pub returns-clause-rows : goal.returns-clause-rows
returns-clause-rows c = rw (← c.self.view_is)
    (c.wait_on.ensures.rows c.args.question (rw (← c.self.view_is) at c.requires.waits))

pub returns-clause-kept : goal.returns-clause-kept
returns-clause-kept c =
    let v : EngineView = record {
      conns = c.self.inside.conns;
      checks = c.self.inside.checks;
      asks = c.self.inside.asks;
      puts = c.self.inside.puts;
      epochs = c.self.inside.epochs;
      setup = c.self.inside.setup;
      offset = c.self.inside.offset;
      latest = c.self.inside.latest;
    } in
    subst (λ z. AreKept z.checks c.wait_on.new.self) c.self.view_is
    (kept_change c.args.check _ v.checks c.wait_on.new.self c.wait_on.ensures.list (λ k. refl))
