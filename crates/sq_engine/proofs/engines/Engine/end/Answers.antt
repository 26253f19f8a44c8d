use Rattle.std.proofs.Common.{is_some, ap, subst, sym}
use Rattle.sq_model.specs.Changes.{after_end_at}
use Rattle.sq_model.specs.States.{IsSame}
use Rattle.sq_engine.specs.EngineViews.{EngineView, state_of}
use Rattle.sq_engine.proofs.EndingLaws.{end_engine, end_listed, end_same, end_there}
use Rattle.sq_engine.specs.Begun.{AreKept}
use Rattle.sq_engine.proofs.BegunLaws.{kept_lost}
use Rattle.sq_engine.proofs.RepliedLaws.{part_there}
use Rattle.sq_engine.proofs.engines.Engine.end.Goals as goal

pub end-requires : goal.end-requires
end-requires c = ap is_some (rw (← c.self.view_is) at c.requires)

pub hand_out-requires-clause-there : goal.hand_out-requires-clause-there
hand_out-requires-clause-there c =
    let v : EngineView = record {
      conns = c.self.inside.conns;
      checks = c.self.inside.checks;
      asks = c.self.inside.asks;
      puts = c.self.inside.puts;
      epochs = c.self.inside.epochs;
      setup = c.self.inside.setup;
      offset = c.self.inside.offset;
      latest = c.self.inside.latest;
    } in
    end_there v c.end.new.self c.args.epoch c.args.class c.args.proc c.args.cause c.args.by_line c.self.invariant
    (rw (← c.self.view_is) at c.requires) c.end.ensures

pub hand_out-requires-clause-listed : goal.hand_out-requires-clause-listed
hand_out-requires-clause-listed c =
    let v : EngineView = record {
      conns = c.self.inside.conns;
      checks = c.self.inside.checks;
      asks = c.self.inside.asks;
      puts = c.self.inside.puts;
      epochs = c.self.inside.epochs;
      setup = c.self.inside.setup;
      offset = c.self.inside.offset;
      latest = c.self.inside.latest;
    } in
    end_listed v c.end.new.self c.args.epoch c.args.class c.args.proc c.args.cause c.args.by_line c.self.invariant
    (rw (← c.self.view_is) at c.requires) c.end.ensures

pub invariant_of-self : goal.invariant_of-self
invariant_of-self c =
    let v : EngineView = record {
      conns = c.self.inside.conns;
      checks = c.self.inside.checks;
      asks = c.self.inside.asks;
      puts = c.self.inside.puts;
      epochs = c.self.inside.epochs;
      setup = c.self.inside.setup;
      offset = c.self.inside.offset;
      latest = c.self.inside.latest;
    } in
    end_engine v c.end.new.self c.hand_out.new.epochs c.hand_out.new.checks c.args.epoch c.args.class c.args.proc
    c.args.moment c.args.cause c.args.by_line c.self.invariant (rw (← c.self.view_is) at c.requires) c.end.ensures
    c.hand_out.ensures.part c.hand_out.ensures.checks c.hand_out.ensures.rise

pub returns-clause-same : goal.returns-clause-same
returns-clause-same c =
    let v : EngineView = record {
      conns = c.self.inside.conns;
      checks = c.self.inside.checks;
      asks = c.self.inside.asks;
      puts = c.self.inside.puts;
      epochs = c.self.inside.epochs;
      setup = c.self.inside.setup;
      offset = c.self.inside.offset;
      latest = c.self.inside.latest;
    } in
    subst (λ z. IsSame (state_of
    (record v { checks = c.hand_out.new.checks; epochs = c.hand_out.new.epochs; latest = c.args.moment }))
    (after_end_at (record { epoch = c.args.epoch; class = c.args.class }) c.args.proc c.args.cause c.args.by_line
    c.args.moment (state_of z))) c.self.view_is
    (end_same v c.end.new.self c.hand_out.new.epochs c.hand_out.new.checks c.args.epoch c.args.class c.args.proc
    c.args.moment c.args.cause c.args.by_line c.self.invariant (rw (← c.self.view_is) at c.requires) c.end.ensures
    c.hand_out.ensures.part c.hand_out.ensures.checks c.hand_out.ensures.rise)

pub returns-clause-kept : goal.returns-clause-kept
returns-clause-kept c =
    let v : EngineView = record {
      conns = c.self.inside.conns;
      checks = c.self.inside.checks;
      asks = c.self.inside.asks;
      puts = c.self.inside.puts;
      epochs = c.self.inside.epochs;
      setup = c.self.inside.setup;
      offset = c.self.inside.offset;
      latest = c.self.inside.latest;
    } in
    let there = end_there v c.end.new.self c.args.epoch c.args.class c.args.proc c.args.cause c.args.by_line
    c.self.invariant (rw (← c.self.view_is) at c.requires) c.end.ensures in
    let x = part_there (record v { epochs = c.end.new.self }) c.args.epoch c.args.class there in
    subst (λ z. AreKept z.checks c.hand_out.new.checks) c.self.view_is
    (subst (AreKept v.checks) (sym (c.hand_out.ensures.checks x.part x.is))
    (kept_lost x.part.row.stock.losses c.args.moment v.checks))
