use Rattle.std.proofs.Common.{refl}
use Rattle.sq_machine.specs.declared.entries.Event.TheVariants as event
use Rattle.sq_machine.specs.declared.entries.Told.TheVariants as told
use Rattle.sq_engine.specs.EngineViews.{state_of}
use Rattle.sq_replay.specs.MachineViews.{MachineView, machine_of}
use Rattle.sq_replay.proofs.ViewLaws.{left_engine, quiet_view, stops_view}
use Rattle.sq_replay.proofs.machines.ScriptMachine.open.Goals as goal

pub returns-in-Err-clause-making : goal.returns-in-Err-clause-making
returns-in-Err-clause-making c =
    let m : MachineView = record {
      engine = c.self.inside.engine;
      pools = c.self.inside.pools;
      latest = c.self.inside.latest;
      riders = c.self.inside.riders;
    } in
    stops_view {A = Unit {0}} (λ _. told.Fine) m c.args.self.now (machine_of (record m { engine = c.open.new.self }))
    (state_of c.open.new.self) c.args.now c.later-moment.result (event.Open c.args.conn c.args.addr c.args.port)
    c.in-Err.refusal c.stop_by.result c.self.view_is c.stop_by.ensures c.later-moment.ensures
    (λ configs h moment e. e) c.in-Err.ensures.promised

pub returns-clause-making : goal.returns-clause-making
returns-clause-making c =
    let m : MachineView = record {
      engine = c.self.inside.engine;
      pools = c.self.inside.pools;
      latest = c.self.inside.latest;
      riders = c.self.inside.riders;
    } in
    quiet_view m c.args.self.now c.open.new.self c.args.now c.later-moment.result
    (event.Open c.args.conn c.args.addr c.args.port) told.Fine c.self.view_is c.later-moment.ensures c.facts.ensures
    refl refl tt c.in-Ok.ensures.promised

pub returns-in-Err-clause-left : goal.returns-in-Err-clause-left
returns-in-Err-clause-left c =
    let m : MachineView = record {
      engine = c.self.inside.engine;
      pools = c.self.inside.pools;
      latest = c.self.inside.latest;
      riders = c.self.inside.riders;
    } in
    left_engine m c.args.self.now c.open.new.self c.stop_by.result c.self.view_is c.in-Err.ensures.err
