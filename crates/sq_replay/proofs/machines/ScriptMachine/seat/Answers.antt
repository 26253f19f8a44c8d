use Rattle.std.proofs.Common.{◌≡◌, ◌∙◌, Some, None, Ok, Err, sym, ap, subst, rules}
use Rattle.sq_machine.specs.declared.entries.Event.TheVariants as event
use Rattle.sq_machine.specs.declared.entries.Told.TheVariants as told
use Rattle.sq_machine.specs.SeatPlaces.{pool_at}
use Rattle.sq_replay.specs.declared.stops.Stop.TheVariants as stop
use Rattle.sq_replay.specs.MachineViews.{MachineView, machine_of}
use Rattle.sq_replay.specs.Making.{IsMaking}
use Rattle.std.specs.Arc.{arc_value}
use Rattle.sq_replay.specs.Riding.{rider_at}
use Rattle.sq_replay.specs.Runs.{Rider}
use Rattle.sq_replay.proofs.SeatingLaws.{seat_stops, seated_at, spent_stops, tagged_at, unseated_at}
use Rattle.sq_replay.proofs.machines.ScriptMachine.seat.Goals as goal

pub returns-in_default-clause-making : goal.returns-in_default-clause-making
returns-in_default-clause-making c =
    let m : MachineView = record {
      engine = c.self.inside.engine;
      pools = c.self.inside.pools;
      latest = c.self.inside.latest;
      riders = c.self.inside.riders;
    } in
    let none : rider_at m.riders c.args.conn ≡ None = search rules in
    subst (λ (z : MachineView). IsMaking (machine_of z) (machine_of m) c.args.now (event.Seat c.args.conn)
    (Err stop.Refused)) c.self.view_is
    (seat_stops (machine_of m) (machine_of m) c.args.now c.args.conn none)

pub returns-in-Nowhere-clause-making : goal.returns-in-Nowhere-clause-making
returns-in-Nowhere-clause-making c =
    let m : MachineView = record {
      engine = c.self.inside.engine;
      pools = c.self.inside.pools;
      latest = c.self.inside.latest;
      riders = c.self.inside.riders;
    } in
    let r : Rider = record {
      epoch = c.ride.inside.epoch;
      config = arc_value c.ride.inside.config;
      place = c.ride.inside.place;
      addr = c.ride.inside.addr;
    } in
    let rides : rider_at m.riders c.args.conn ≡ Some r = sym c.in-Some.ensures ∙ ap Some (sym c.ride.view_is) in
    subst (λ (z : MachineView). IsMaking (machine_of z)
    (machine_of (record { engine = m.engine; pools = m.pools; latest = c.later-moment.result; riders = m.riders }))
    c.args.now (event.Seat c.args.conn) (Ok told.NoSeat)) c.self.view_is
    (unseated_at (machine_of m) c.args.now c.later-moment.result c.args.conn r c.later-moment.ensures c.facts.ensures
    rides c.in-Nowhere.is)

pub returns-in-Err-Spent-clause-making : goal.returns-in-Err-Spent-clause-making
returns-in-Err-Spent-clause-making c =
    let m : MachineView = record {
      engine = c.self.inside.engine;
      pools = c.self.inside.pools;
      latest = c.self.inside.latest;
      riders = c.self.inside.riders;
    } in
    let r : Rider = record {
      epoch = c.ride.inside.epoch;
      config = arc_value c.ride.inside.config;
      place = c.ride.inside.place;
      addr = c.ride.inside.addr;
    } in
    let rides : rider_at m.riders c.args.conn ≡ Some r = sym c.in-Some.ensures ∙ ap Some (sym c.ride.view_is) in
    let w = machine_of (record m { pools = c.choose.new.self }) in
    subst (λ (z : MachineView). IsMaking (machine_of z) w c.args.now (event.Seat c.args.conn) (Err stop.Refused))
    c.self.view_is
    (spent_stops (machine_of m) w c.args.now c.args.conn c.in-ByAddress.pool r rides (ap pool_at c.in-ByAddress.is)
    (c.in-Err-Spent.ensures.spent c.in-Err-Spent.field-0-is))

pub returns-in-Ok-clause-making : goal.returns-in-Ok-clause-making
returns-in-Ok-clause-making c =
    let m : MachineView = record {
      engine = c.self.inside.engine;
      pools = c.self.inside.pools;
      latest = c.self.inside.latest;
      riders = c.self.inside.riders;
    } in
    let r : Rider = record {
      epoch = c.ride.inside.epoch;
      config = arc_value c.ride.inside.config;
      place = c.ride.inside.place;
      addr = c.ride.inside.addr;
    } in
    let rides : rider_at m.riders c.args.conn ≡ Some r = sym c.in-Some.ensures ∙ ap Some (sym c.ride.view_is) in
    subst (λ (z : MachineView). IsMaking (machine_of z)
    (machine_of (record {
      engine = m.engine;
      pools = c.choose.new.self;
      latest = c.later-moment.result;
      riders = m.riders;
    })) c.args.now (event.Seat c.args.conn) (Ok (told.Seat c.in-Ok.seat c.in-ByAddress.pool)))
    c.self.view_is
    (seated_at (machine_of m) c.choose.new.self c.args.now c.later-moment.result c.args.conn c.in-Ok.seat
    c.in-ByAddress.pool r c.later-moment.ensures c.facts.ensures rides c.in-ByAddress.is c.in-Ok.ensures.number
    c.in-Ok.ensures.few c.in-Ok.ensures.chosen c.in-Ok.ensures.passed)

pub returns-in-Err-Spent-choose_tag-clause-making : goal.returns-in-Err-Spent-choose_tag-clause-making
returns-in-Err-Spent-choose_tag-clause-making c =
    let m : MachineView = record {
      engine = c.self.inside.engine;
      pools = c.self.inside.pools;
      latest = c.self.inside.latest;
      riders = c.self.inside.riders;
    } in
    let r : Rider = record {
      epoch = c.ride.inside.epoch;
      config = arc_value c.ride.inside.config;
      place = c.ride.inside.place;
      addr = c.ride.inside.addr;
    } in
    let rides : rider_at m.riders c.args.conn ≡ Some r = sym c.in-Some.ensures ∙ ap Some (sym c.ride.view_is) in
    let w = machine_of (record m { pools = c.choose_tag.new.self }) in
    subst (λ (z : MachineView). IsMaking (machine_of z) w c.args.now (event.Seat c.args.conn) (Err stop.Refused))
    c.self.view_is
    (spent_stops (machine_of m) w c.args.now c.args.conn c.in-ByTag.pool r rides (ap pool_at c.in-ByTag.is)
    (c.in-Err-Spent-choose_tag.ensures.spent c.in-Err-Spent-choose_tag.field-0-is))

pub returns-in-Ok-choose_tag-clause-making : goal.returns-in-Ok-choose_tag-clause-making
returns-in-Ok-choose_tag-clause-making c =
    let m : MachineView = record {
      engine = c.self.inside.engine;
      pools = c.self.inside.pools;
      latest = c.self.inside.latest;
      riders = c.self.inside.riders;
    } in
    let r : Rider = record {
      epoch = c.ride.inside.epoch;
      config = arc_value c.ride.inside.config;
      place = c.ride.inside.place;
      addr = c.ride.inside.addr;
    } in
    let rides : rider_at m.riders c.args.conn ≡ Some r = sym c.in-Some.ensures ∙ ap Some (sym c.ride.view_is) in
    subst (λ (z : MachineView). IsMaking (machine_of z)
    (machine_of (record {
      engine = m.engine;
      pools = c.choose_tag.new.self;
      latest = c.later-moment.result;
      riders = m.riders;
    })) c.args.now (event.Seat c.args.conn) (Ok (told.Seat c.in-Ok-choose_tag.seat c.in-ByTag.pool)))
    c.self.view_is
    (tagged_at (machine_of m) c.choose_tag.new.self c.args.now c.later-moment.result c.args.conn c.in-Ok-choose_tag.seat
    c.in-ByTag.pool c.in-ByTag.tag r c.later-moment.ensures c.facts.ensures rides c.in-ByTag.is
    c.in-Ok-choose_tag.ensures.number c.in-Ok-choose_tag.ensures.few
    c.in-Ok-choose_tag.ensures.chosen c.in-Ok-choose_tag.ensures.passed)
