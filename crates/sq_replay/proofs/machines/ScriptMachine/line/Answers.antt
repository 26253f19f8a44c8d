use Rattle.std.proofs.Common.{ℕ, List, max, Ok, Err, refl, sym, subst}
use Rattle.sq_machine.specs.declared.entries.Event.TheVariants as event
use Rattle.sq_machine.specs.declared.entries.Told.{Told}
use Rattle.sq_engine.specs.EngineViews.{state_of}
use Rattle.sq_replay.specs.MachineViews.{MachineView, machine_of}
use Rattle.sq_replay.specs.Making.{IsMaking}
use Rattle.sq_replay.proofs.ViewLaws.{left_state, quiet_view, stops_view}
use Rattle.sq_channel.specs.declared.replies.Got.{Got}
use Rattle.sq_engine.specs.Lines.{got_told}
use Rattle.sq_engine.specs.Promised.{IsPromised}
use Rattle.sq_replay.proofs.machines.ScriptMachine.line.Goals as goal

pub returns-in-Err-clause-making : goal.returns-in-Err-clause-making
returns-in-Err-clause-making c =
    let m : MachineView = record {
      engine = c.self.inside.engine;
      pools = c.self.inside.pools;
      latest = c.self.inside.latest;
      riders = c.self.inside.riders;
    } in
    let promised : IsPromised got_told (state_of m.engine) (max c.later-moment.result m.engine.latest)
    (event.Line c.args.proc c.args.bytes.now) (Err c.in-Err.refusal) (state_of c.line.new.self) =
    subst (λ (b : List ℕ). IsPromised {A = Got} got_told (state_of m.engine) (max c.later-moment.result m.engine.latest)
    (event.Line c.args.proc b) (Err c.in-Err.refusal) (state_of c.line.new.self)) c.as_bytes.ensures.value
    c.in-Err.ensures.promised in
    stops_view {A = Got} got_told m c.args.self.now (machine_of (record m { engine = c.line.new.self }))
    (state_of c.line.new.self) c.args.now c.later-moment.result (event.Line c.args.proc c.args.bytes.now)
    c.in-Err.refusal c.stop_by.result c.self.view_is c.stop_by.ensures c.later-moment.ensures
    (λ configs h moment e. e) promised

pub returns-clause-making : goal.returns-clause-making
returns-clause-making c =
    let m : MachineView = record {
      engine = c.self.inside.engine;
      pools = c.self.inside.pools;
      latest = c.self.inside.latest;
      riders = c.self.inside.riders;
    } in
    let promised : IsPromised got_told (state_of m.engine) (max c.later-moment.result m.engine.latest)
    (event.Line c.args.proc c.args.bytes.now) (Ok c.in-Ok.got) (state_of c.line.new.self) =
    subst (λ (b : List ℕ). IsPromised {A = Got} got_told (state_of m.engine) (max c.later-moment.result m.engine.latest)
    (event.Line c.args.proc b) (Ok c.in-Ok.got) (state_of c.line.new.self)) c.as_bytes.ensures.value
    c.in-Ok.ensures.promised in
    subst (λ (x : Told). IsMaking (machine_of c.args.self.now)
    (machine_of (record {
      engine = c.line.new.self;
      pools = m.pools;
      latest = c.later-moment.result;
      riders = m.riders;
    })) c.args.now (event.Line c.args.proc c.args.bytes.now) (Ok x)) (sym c.got_of.ensures)
    (quiet_view m c.args.self.now c.line.new.self c.args.now c.later-moment.result
    (event.Line c.args.proc c.args.bytes.now) (got_told c.in-Ok.got) c.self.view_is c.later-moment.ensures
    c.facts.ensures refl refl tt promised)

pub returns-in-Err-clause-left : goal.returns-in-Err-clause-left
returns-in-Err-clause-left c =
    let m : MachineView = record {
      engine = c.self.inside.engine;
      pools = c.self.inside.pools;
      latest = c.self.inside.latest;
      riders = c.self.inside.riders;
    } in
    left_state m c.args.self.now c.line.new.self c.stop_by.result c.self.view_is c.in-Err.ensures.err
