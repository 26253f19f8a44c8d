use Rattle.std.proofs.Common.{◌≡◌, ℕ, Option, None, Ok, Err, subst, rules}
use Rattle.sq_machine.specs.declared.entries.Event.TheVariants as event
use Rattle.sq_machine.specs.declared.entries.Told.TheVariants as told
use Rattle.sq_replay.specs.declared.stops.Stop.TheVariants as stop
use Rattle.sq_replay.specs.MachineViews.{MachineView, machine_of}
use Rattle.sq_replay.specs.Making.{IsMaking}
use Rattle.std.specs.Prelude.{IfNone}
use Rattle.sq_replay.specs.Riding.{IsHeldNowhere}
use Rattle.sq_replay.proofs.SeatingLaws.{grant_stops, granted_at}
use Rattle.sq_replay.proofs.machines.ScriptMachine.grant.Goals as goal

pub returns-in_default-clause-making : goal.returns-in_default-clause-making
returns-in_default-clause-making c =
    let m : MachineView = record {
      engine = c.self.inside.engine;
      pools = c.self.inside.pools;
      latest = c.self.inside.latest;
      riders = c.self.inside.riders;
    } in
    let none : c.grant.result ≡ None = search rules in
    let gone : IsHeldNowhere m.pools c.args.seat =
    subst (λ (o : Option ℕ). IfNone o (IsHeldNowhere m.pools c.args.seat)) none c.grant.ensures.none in
    let w = machine_of (record m { pools = c.grant.new.self }) in
    subst (λ (z : MachineView). IsMaking (machine_of z) (w) c.args.now (event.Grant c.args.seat c.args.wanted)
    (Err stop.Refused)) c.self.view_is
    (grant_stops (machine_of m) w c.args.now c.args.seat c.args.wanted gone.addressed gone.tagged)

pub returns-clause-making : goal.returns-clause-making
returns-clause-making c =
    let m : MachineView = record {
      engine = c.self.inside.engine;
      pools = c.self.inside.pools;
      latest = c.self.inside.latest;
      riders = c.self.inside.riders;
    } in
    subst (λ (z : MachineView). IsMaking (machine_of z)
    (machine_of (record {
      engine = m.engine;
      pools = c.grant.new.self;
      latest = c.later-moment.result;
      riders = m.riders;
    })) c.args.now (event.Grant c.args.seat c.args.wanted) (Ok (told.Granted c.in-Some.amount)))
    c.self.view_is
    (granted_at (machine_of m) c.grant.new.self c.args.now c.later-moment.result c.args.seat c.args.wanted
    c.in-Some.amount c.later-moment.ensures c.facts.ensures c.in-Some.ensures.granted)
