use Rattle.std.proofs.Common.{None, ◌≡◌, subst, refl}
use Rattle.sq_machine.specs.StepRule.{says_done}
use Rattle.sq_checks.specs.Conns.{check_in}
use Rattle.sq_checks.specs.OpenChecks.{finished, rows_of}
use Rattle.sq_checks.specs.Stages.{need_in}
use Rattle.sq_epochs.specs.EpochStates.{epoch_at}
use Rattle.sq_engine.specs.EngineViews.{EngineView}
use Rattle.sq_engine.proofs.ChangedLaws.{at_number, changed_engine, finished_keeps}
use Rattle.sq_engine.proofs.HeldLaws.{asked_stepped, counted_stepped}
use Rattle.sq_engine.specs.Begun.{AreKept}
use Rattle.sq_engine.proofs.BegunLaws.{kept_change}
use Rattle.sq_engine.proofs.engines.Engine.decide.Goals as goal

pub invariant_of-self : goal.invariant_of-self
invariant_of-self c =
    let v : EngineView = record {
      conns = c.self.inside.conns;
      checks = c.self.inside.checks;
      asks = c.self.inside.asks;
      puts = c.self.inside.puts;
      epochs = c.self.inside.epochs;
      setup = c.self.inside.setup;
      offset = c.self.inside.offset;
      latest = c.self.inside.latest;
    } in
    changed_engine v c.finish.new.self c.args.moment c.args.check (finished c.args.outcome) c.self.invariant
    c.finish.ensures.list
    (asked_stepped c.args.check says_done (check_in v.conns) (rows_of v.checks) _ v.asks c.finish.ensures.rows
    c.self.invariant.asked)
    (counted_stepped c.args.check says_done v.epochs.current (epoch_at v.epochs) (rows_of v.checks) _
    c.finish.ensures.rows c.self.invariant.counted)
    (λ m same j is. finished_keeps c.args.outcome j
    (at_number (λ k. need_in k.stage ≡ None) v.checks c.args.check m same j is
    (rw (← c.self.view_is) at c.requires.idle)))

pub returns-clause-kept : goal.returns-clause-kept
returns-clause-kept c =
    let v : EngineView = record {
      conns = c.self.inside.conns;
      checks = c.self.inside.checks;
      asks = c.self.inside.asks;
      puts = c.self.inside.puts;
      epochs = c.self.inside.epochs;
      setup = c.self.inside.setup;
      offset = c.self.inside.offset;
      latest = c.self.inside.latest;
    } in
    subst (λ z. AreKept z.checks c.finish.new.self) c.self.view_is
    (kept_change c.args.check (finished c.args.outcome) v.checks c.finish.new.self c.finish.ensures.list (λ k. refl))
