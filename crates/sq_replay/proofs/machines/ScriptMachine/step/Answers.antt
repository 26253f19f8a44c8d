use Rattle.std.proofs.Common.{◌≡◌, ◌∙◌, ℕ, max, Ok, refl, sym, ap, subst}
use Rattle.sq_machine.specs.declared.entries.Event.TheVariants as event
use Rattle.sq_machine.specs.declared.entries.Told.{Told}
use Rattle.sq_engine.specs.EngineViews.{state_of}
use Rattle.sq_replay.specs.MachineViews.{MachineView, machine_of}
use Rattle.sq_replay.specs.Making.{IsMaking}
use Rattle.sq_replay.proofs.ViewLaws.{left_state, quiet_view, stops_view}
use Rattle.sq_model.specs.declared.stepping.Stepped.{Stepped}
use Rattle.sq_engine.specs.Stepping.{epoch_of, stepped_told}
use Rattle.sq_replay.proofs.NamingLaws.{stepped_same}
use Rattle.sq_replay.proofs.machines.ScriptMachine.step.Goals as goal

pub returns-in-Err-clause-making : goal.returns-in-Err-clause-making
returns-in-Err-clause-making c =
    let m : MachineView = record {
      engine = c.self.inside.engine;
      pools = c.self.inside.pools;
      latest = c.self.inside.latest;
      riders = c.self.inside.riders;
    } in
    stops_view {A = Stepped} (stepped_told (state_of m.engine) (epoch_of (state_of m.engine) c.args.check)) m
    c.args.self.now (machine_of (record m { engine = c.step.new.self })) (state_of c.step.new.self) c.args.now
    c.later-moment.result (event.Step c.args.check) c.in-Err.refusal c.stop_by.result c.self.view_is c.stop_by.ensures
    c.later-moment.ensures
    (λ configs h moment e. e) c.in-Err.ensures.promised

pub returns-clause-making : goal.returns-clause-making
returns-clause-making c =
    let m : MachineView = record {
      engine = c.self.inside.engine;
      pools = c.self.inside.pools;
      latest = c.self.inside.latest;
      riders = c.self.inside.riders;
    } in
    let s = state_of m.engine in
    let is : c.in-Ok-stepped_of.told ≡ stepped_told s (epoch_of s c.args.check) c.in-Ok.stepped =
    c.in-Ok-stepped_of.ensures
    ∙ stepped_same s (state_of c.step.new.self) c.args.check (max c.later-moment.result m.engine.latest)
    c.epoch_of-epoch.result c.in-Ok.stepped c.in-Ok.ensures.ok
    ∙ ap (λ (e : ℕ). stepped_told s e c.in-Ok.stepped) c.epoch_of-epoch.ensures in
    subst (λ (x : Told). IsMaking (machine_of c.args.self.now)
    (machine_of (record {
      engine = c.step.new.self;
      pools = m.pools;
      latest = c.later-moment.result;
      riders = m.riders;
    })) c.args.now (event.Step c.args.check) (Ok x)) (sym is)
    (quiet_view m c.args.self.now c.step.new.self c.args.now c.later-moment.result (event.Step c.args.check)
    (stepped_told s (epoch_of s c.args.check) c.in-Ok.stepped) c.self.view_is c.later-moment.ensures c.facts.ensures
    refl refl tt c.in-Ok.ensures.promised)

pub returns-in-Err-clause-left : goal.returns-in-Err-clause-left
returns-in-Err-clause-left c =
    let m : MachineView = record {
      engine = c.self.inside.engine;
      pools = c.self.inside.pools;
      latest = c.self.inside.latest;
      riders = c.self.inside.riders;
    } in
    left_state m c.args.self.now c.step.new.self c.stop_by.result c.self.view_is c.in-Err.ensures.err
