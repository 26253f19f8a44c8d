use Rattle.std.proofs.Common.{◌≡◌, ◌∙◌, ℕ, None, Ok, Err, sym, subst, rules}
use Rattle.sq_machine.specs.declared.entries.Event.TheVariants as event
use Rattle.sq_machine.specs.declared.entries.Told.TheVariants as told
use Rattle.sq_engine.specs.EngineViews.{state_of}
use Rattle.sq_replay.specs.declared.stops.Stop.TheVariants as stop
use Rattle.sq_replay.specs.MachineViews.{MachineView, machine_of}
use Rattle.sq_replay.specs.Making.{IsMaking}
use Rattle.sq_replay.proofs.ViewLaws.{left_engine, stops_view}
use Rattle.std.proofs.Common.{true}
use Rattle.sq_rules.specs.declared.outcomes.Outcome.{Outcome}
use Rattle.sq_machine.specs.Entries.{is_outcome}
use Rattle.sq_checks.specs.Records.{Judged}
use Rattle.sq_replay.specs.Riding.{rider_at}
use Rattle.sq_replay.proofs.OutcomeLaws.{verdict_sound}
use Rattle.sq_replay.proofs.RecordLaws.{record_is, take_stops, taken_at_moment}
use Rattle.sq_replay.proofs.machines.ScriptMachine.take.Goals as goal

pub returns-in_default-clause-making : goal.returns-in_default-clause-making
returns-in_default-clause-making c =
    let m : MachineView = record {
      engine = c.self.inside.engine;
      pools = c.self.inside.pools;
      latest = c.self.inside.latest;
      riders = c.self.inside.riders;
    } in
    let none : c.conn_of.result ≡ None = search rules in
    subst (λ (z : MachineView). IsMaking (machine_of z) (machine_of m) c.args.now (event.Take c.args.check)
    (Err stop.Refused)) c.self.view_is
    (take_stops (machine_of m) (machine_of m) c.args.now c.args.check (sym c.conn_of.ensures ∙ none))

pub returns-in-Err-clause-making : goal.returns-in-Err-clause-making
returns-in-Err-clause-making c =
    let m : MachineView = record {
      engine = c.self.inside.engine;
      pools = c.self.inside.pools;
      latest = c.self.inside.latest;
      riders = c.self.inside.riders;
    } in
    stops_view {A = Judged} (λ r. told.Judged r.epoch r.outcome) m c.args.self.now
    (machine_of (record m { engine = c.take.new.self })) (state_of c.take.new.self) c.args.now c.later-moment.result
    (event.Take c.args.check) c.in-Err.refusal c.stop_by.result c.self.view_is c.stop_by.ensures c.later-moment.ensures
    (λ configs h moment e. e) c.in-Err.ensures.promised

pub returns-clause-making : goal.returns-clause-making
returns-clause-making c =
    let m : MachineView = record {
      engine = c.self.inside.engine;
      pools = c.self.inside.pools;
      latest = c.self.inside.latest;
      riders = c.self.inside.riders;
    } in
    let r = c.in-Ok.taken in
    let out : c.in-Ok-copy_outcome.outcome ≡ r.outcome = c.in-Ok-copy_outcome.ensures ∙ c.outcome.ensures.value in
    let w = machine_of (record {
      engine = c.take.new.self;
      pools = m.pools;
      latest = c.later-moment.result;
      riders = c.note.new.self;
    }) in
    subst (λ (e : ℕ). IsMaking (machine_of c.args.self.now) w c.args.now (event.Take c.args.check)
    (Ok (told.Judged e c.in-Ok-copy_outcome.outcome))) (sym c.epoch.ensures)
    (subst (λ (o : Outcome). IsMaking (machine_of c.args.self.now) w c.args.now (event.Take c.args.check)
    (Ok (told.Judged r.epoch o))) (sym out)
    (subst (λ (z : MachineView). IsMaking (machine_of z) w c.args.now (event.Take c.args.check)
    (Ok (told.Judged r.epoch r.outcome))) c.self.view_is
    (taken_at_moment (machine_of m) (state_of c.take.new.self) (rider_at c.note.new.self) c.args.now
    c.later-moment.result c.args.check c.in-Some.conn r c.later-moment.ensures c.facts-2.ensures (sym c.in-Some.ensures)
    c.in-Ok.ensures.promised
    (λ k found. record_is m.engine c.args.check k r (told.Judged r.epoch r.outcome) c.facts.ensures found
    c.in-Ok.ensures.told c.in-Ok.ensures.record)
    c.in-Ok-note.ensures.ok)))

pub returns-clause-row : goal.returns-clause-row
returns-clause-row c =
    let r = c.in-Ok.taken in
    let out : c.in-Ok-copy_outcome.outcome ≡ r.outcome = c.in-Ok-copy_outcome.ensures ∙ c.outcome.ensures.value in
    subst (λ (o : Outcome). is_outcome o ≡ true) (sym out)
    (verdict_sound r.answers r.config r.sight r.outcome c.outcome.ensures.verdict)

pub returns-in-Err-clause-left : goal.returns-in-Err-clause-left
returns-in-Err-clause-left c =
    let m : MachineView = record {
      engine = c.self.inside.engine;
      pools = c.self.inside.pools;
      latest = c.self.inside.latest;
      riders = c.self.inside.riders;
    } in
    left_engine m c.args.self.now c.take.new.self c.stop_by.result c.self.view_is c.in-Err.ensures.err

pub returns-in_default-clause-left : goal.returns-in_default-clause-left
returns-in_default-clause-left c = λ configs h is. is
