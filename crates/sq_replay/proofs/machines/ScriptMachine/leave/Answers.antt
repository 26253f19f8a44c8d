use Rattle.std.proofs.Common.{◌≡◌, Ok, Err, subst, rules}
use Rattle.sq_machine.specs.declared.entries.Event.TheVariants as event
use Rattle.sq_machine.specs.declared.entries.Told.TheVariants as told
use Rattle.sq_replay.specs.declared.stops.Stop.TheVariants as stop
use Rattle.sq_replay.specs.MachineViews.{MachineView, machine_of}
use Rattle.sq_replay.specs.Making.{IsMaking}
use Rattle.std.proofs.Common.{false, true}
use Rattle.sq_replay.specs.Riding.{IsHeldNowhere}
use Rattle.sq_replay.proofs.SeatingLaws.{leave_stops, left_at}
use Rattle.sq_replay.proofs.machines.ScriptMachine.leave.Goals as goal

pub returns-then-not-leave-clause-making : goal.returns-then-not-leave-clause-making
returns-then-not-leave-clause-making c =
    let m : MachineView = record {
      engine = c.self.inside.engine;
      pools = c.self.inside.pools;
      latest = c.self.inside.latest;
      riders = c.self.inside.riders;
    } in
    let no : c.leave.result ≡ false = search rules in
    let gone : IsHeldNowhere m.pools c.args.seat = c.leave.ensures.none no in
    let w = machine_of (record m { pools = c.leave.new.self }) in
    subst (λ (z : MachineView). IsMaking (machine_of z) (w) c.args.now (event.Leave c.args.seat) (Err stop.Refused))
    c.self.view_is
    (leave_stops (machine_of m) w c.args.now c.args.seat gone.addressed gone.tagged)

pub returns-clause-making : goal.returns-clause-making
returns-clause-making c =
    let m : MachineView = record {
      engine = c.self.inside.engine;
      pools = c.self.inside.pools;
      latest = c.self.inside.latest;
      riders = c.self.inside.riders;
    } in
    let yes : c.leave.result ≡ true = search rules in
    subst (λ (z : MachineView). IsMaking (machine_of z)
    (machine_of (record {
      engine = m.engine;
      pools = c.leave.new.self;
      latest = c.later-self-inside.result;
      riders = m.riders;
    })) c.args.now (event.Leave c.args.seat) (Ok told.Fine)) c.self.view_is
    (left_at (machine_of m) c.leave.new.self c.args.now c.later-self-inside.result c.args.seat
    c.later-self-inside.ensures c.facts.ensures (c.leave.ensures.left yes))
