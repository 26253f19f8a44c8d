use Rattle.std.proofs.Common.{◌≡◌, ◌∙◌, ℕ, Some, is_some, refl, ap, inr}
use Rattle.sq_machine.specs.declared.entries.Event.TheVariants as event
use Rattle.sq_machine.specs.declared.entries.Told.TheVariants as told
use Rattle.sq_engine.specs.EngineViews.{state_of}
use Rattle.sq_replay.specs.MachineViews.{MachineView, machine_of}
use Rattle.sq_replay.proofs.ViewLaws.{left_engine, quiet_view, stops_view}
use Rattle.sq_request.specs.Written.{made_request}
use Rattle.sq_rules.specs.Sights.{asked_request, unversioned}
use Rattle.sq_rules.proofs.SightLaws.{asked_unversioned}
use Rattle.sq_replay.proofs.AskLaws.{made_of}
use Rattle.sq_replay.proofs.machines.ScriptMachine.ask.Goals as goal

pub returns-in-Err-ask-clause-making : goal.returns-in-Err-ask-clause-making
returns-in-Err-ask-clause-making c =
    let m : MachineView = record {
      engine = c.self.inside.engine;
      pools = c.self.inside.pools;
      latest = c.self.inside.latest;
      riders = c.self.inside.riders;
    } in
    let method = c.args.method.now in
    let target = c.args.target.now in
    let fields = c.args.fields.now in
    let made : made_request method target 1 fields ≡ Some c.in-Ok-make_request.request =
    rw (← c.as_bytes.ensures.value, ← c.as_bytes-2.ensures.value, ← c.in-Ok.ensures)
    c.in-Ok-make_request.ensures.made in
    let of = made_of method target fields c.in-Ok-make_request.request made in
    let same : unversioned c.in-Ok-make_request.request ≡ asked_request method target fields =
    ap unversioned of.request_is ∙ asked_unversioned method target fields in
    stops_view {A = ℕ} (λ n. told.Check n) m c.args.self.now (machine_of (record m { engine = c.ask.new.self }))
    (state_of c.ask.new.self) c.args.now c.later-moment.result
    (event.Ask c.args.conn c.args.method.now c.args.target.now c.args.fields.now) c.in-Err-ask.refusal c.stop_by.result
    c.self.view_is c.stop_by.ensures c.later-moment.ensures
    (λ configs h moment e. inr e) (c.in-Err-ask.ensures.promised method target fields same of.has_form)

pub returns-clause-making : goal.returns-clause-making
returns-clause-making c =
    let m : MachineView = record {
      engine = c.self.inside.engine;
      pools = c.self.inside.pools;
      latest = c.self.inside.latest;
      riders = c.self.inside.riders;
    } in
    let method = c.args.method.now in
    let target = c.args.target.now in
    let fields = c.args.fields.now in
    let made : made_request method target 1 fields ≡ Some c.in-Ok-make_request.request =
    rw (← c.as_bytes.ensures.value, ← c.as_bytes-2.ensures.value, ← c.in-Ok.ensures)
    c.in-Ok-make_request.ensures.made in
    let of = made_of method target fields c.in-Ok-make_request.request made in
    let same : unversioned c.in-Ok-make_request.request ≡ asked_request method target fields =
    ap unversioned of.request_is ∙ asked_unversioned method target fields in
    quiet_view m c.args.self.now c.ask.new.self c.args.now c.later-moment.result
    (event.Ask c.args.conn c.args.method.now c.args.target.now c.args.fields.now) (told.Check c.in-Ok-ask.check)
    c.self.view_is c.later-moment.ensures c.facts.ensures refl refl (ap is_some made)
    (c.in-Ok-ask.ensures.promised method target fields same of.has_form)

pub returns-in-Err-ask-clause-left : goal.returns-in-Err-ask-clause-left
returns-in-Err-ask-clause-left c =
    let m : MachineView = record {
      engine = c.self.inside.engine;
      pools = c.self.inside.pools;
      latest = c.self.inside.latest;
      riders = c.self.inside.riders;
    } in
    left_engine m c.args.self.now c.ask.new.self c.stop_by.result c.self.view_is c.in-Err-ask.ensures.err
