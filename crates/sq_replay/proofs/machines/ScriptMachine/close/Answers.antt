use Rattle.std.proofs.Common.{Ok, refl, subst}
use Rattle.sq_machine.specs.declared.entries.Event.TheVariants as event
use Rattle.sq_machine.specs.declared.entries.Told.TheVariants as told
use Rattle.sq_engine.specs.EngineViews.{state_of}
use Rattle.sq_replay.specs.MachineViews.{MachineView, machine_of}
use Rattle.sq_replay.specs.Making.{IsMaking}
use Rattle.sq_replay.proofs.ViewLaws.{left_engine, stops_view}
use Rattle.sq_replay.specs.Riding.{rider_at}
use Rattle.sq_replay.proofs.EngineLaws.{closed_at}
use Rattle.sq_replay.proofs.machines.ScriptMachine.close.Goals as goal

pub returns-in-Err-clause-making : goal.returns-in-Err-clause-making
returns-in-Err-clause-making c =
    let m : MachineView = record {
      engine = c.self.inside.engine;
      pools = c.self.inside.pools;
      latest = c.self.inside.latest;
      riders = c.self.inside.riders;
    } in
    stops_view {A = Unit {0}} (λ _. told.Fine) m c.args.self.now (machine_of (record m { engine = c.close.new.self }))
    (state_of c.close.new.self) c.args.now c.later-moment.result (event.Close c.args.conn) c.in-Err.refusal
    c.stop_by.result c.self.view_is c.stop_by.ensures c.later-moment.ensures
    (λ configs h moment e. e) c.in-Err.ensures.promised

pub returns-clause-making : goal.returns-clause-making
returns-clause-making c =
    let m : MachineView = record {
      engine = c.self.inside.engine;
      pools = c.self.inside.pools;
      latest = c.self.inside.latest;
      riders = c.self.inside.riders;
    } in
    subst (λ (z : MachineView). IsMaking (machine_of z)
    (machine_of (record {
      engine = c.close.new.self;
      pools = m.pools;
      latest = c.later-moment.result;
      riders = c.remove.new.self;
    })) c.args.now (event.Close c.args.conn) (Ok told.Fine)) c.self.view_is
    (closed_at (machine_of m) (state_of c.close.new.self) (rider_at c.remove.new.self) c.args.now c.later-moment.result
    c.args.conn told.Fine c.later-moment.ensures c.facts.ensures refl c.in-Ok.ensures.promised c.remove.ensures)

pub returns-in-Err-clause-left : goal.returns-in-Err-clause-left
returns-in-Err-clause-left c =
    let m : MachineView = record {
      engine = c.self.inside.engine;
      pools = c.self.inside.pools;
      latest = c.self.inside.latest;
      riders = c.self.inside.riders;
    } in
    left_engine m c.args.self.now c.close.new.self c.stop_by.result c.self.view_is c.in-Err.ensures.err
