use Rattle.std.proofs.Common.{◌≡◌, ℕ, Option, None, Ok, Err, refl, sym, subst, rules}
use Rattle.sq_machine.specs.declared.entries.Event.TheVariants as event
use Rattle.sq_machine.specs.declared.entries.Told.TheVariants as told
use Rattle.sq_engine.specs.EngineViews.{state_of}
use Rattle.sq_replay.specs.declared.stops.Stop.{Stop}
use Rattle.sq_replay.specs.declared.stops.Stop.TheVariants as stop
use Rattle.sq_replay.specs.MachineViews.{MachineView, machine_of}
use Rattle.sq_replay.specs.Making.{IsMaking}
use Rattle.sq_replay.specs.Naming.{IsNowhere}
use Rattle.std.specs.Prelude.{IfNone}
use Rattle.sq_replay.proofs.NamingLaws.{failed_stops, named_at, named_stops_at}
use Rattle.sq_replay.proofs.ViewLaws.{left_engine}
use Rattle.sq_replay.proofs.machines.ScriptMachine.start_failed.Goals as goal

pub returns-in_default-clause-making : goal.returns-in_default-clause-making
returns-in_default-clause-making c =
    let m : MachineView = record {
      engine = c.self.inside.engine;
      pools = c.self.inside.pools;
      latest = c.self.inside.latest;
      riders = c.self.inside.riders;
    } in
    let none : c.place_of.result ≡ None = search rules in
    let nowhere : IsNowhere (state_of m.engine) c.args.epoch c.args.class.now =
    subst (λ (r : Option ℕ). IfNone r (IsNowhere (state_of m.engine) c.args.epoch c.args.class.now)) none
    c.place_of.ensures.none in
    subst (λ (z : MachineView). IsMaking (machine_of z) (machine_of m) c.args.now
    (event.StartFail c.args.epoch c.args.class.now) (Err stop.Refused)) c.self.view_is
    (failed_stops (machine_of m) (machine_of m) c.args.now c.args.epoch c.args.class.now nowhere)

pub returns-in-Err-clause-making : goal.returns-in-Err-clause-making
returns-in-Err-clause-making c =
    let m : MachineView = record {
      engine = c.self.inside.engine;
      pools = c.self.inside.pools;
      latest = c.self.inside.latest;
      riders = c.self.inside.riders;
    } in
    let w = machine_of (record m { engine = c.start_failed.new.self }) in
    subst (λ (z : MachineView). IsMaking (machine_of z) w c.args.now (event.StartFail c.args.epoch c.args.class.now)
    (Err c.stop_by.result)) c.self.view_is
    (subst (λ (x : Stop). IsMaking (machine_of m) w c.args.now (event.StartFail c.args.epoch c.args.class.now) (Err x))
    (sym c.stop_by.ensures)
    (named_stops_at {A = Unit {0}} (λ _. told.Fine) (machine_of m) w (state_of c.start_failed.new.self) c.args.now
    c.later-moment.result event.StartFail c.args.epoch c.in-Some.place c.args.class.now c.in-Err.refusal
    c.later-moment.ensures
    (λ configs h moment e. e) c.in-Some.ensures.some c.in-Err.ensures.promised))

pub returns-clause-making : goal.returns-clause-making
returns-clause-making c =
    let m : MachineView = record {
      engine = c.self.inside.engine;
      pools = c.self.inside.pools;
      latest = c.self.inside.latest;
      riders = c.self.inside.riders;
    } in
    subst (λ (z : MachineView). IsMaking (machine_of z)
    (machine_of (record {
      engine = c.start_failed.new.self;
      pools = m.pools;
      latest = c.later-moment.result;
      riders = m.riders;
    })) c.args.now (event.StartFail c.args.epoch c.args.class.now) (Ok told.Fine)) c.self.view_is
    (named_at (machine_of m) (state_of c.start_failed.new.self) c.args.now c.later-moment.result event.StartFail
    told.Fine c.args.epoch c.in-Some.place c.args.class.now c.later-moment.ensures c.facts.ensures
    c.in-Some.ensures.some refl refl tt c.in-Ok.ensures.promised)

pub returns-in-Err-clause-left : goal.returns-in-Err-clause-left
returns-in-Err-clause-left c =
    let m : MachineView = record {
      engine = c.self.inside.engine;
      pools = c.self.inside.pools;
      latest = c.self.inside.latest;
      riders = c.self.inside.riders;
    } in
    left_engine m c.args.self.now c.start_failed.new.self c.stop_by.result c.self.view_is c.in-Err.ensures.err

pub returns-in_default-clause-left : goal.returns-in_default-clause-left
returns-in_default-clause-left c = λ configs h is. is
