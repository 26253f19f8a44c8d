use Rattle.std.proofs.Common.{◌≡◌, ◌∙◌, Ok, Err, sym, subst}
use Rattle.sq_machine.specs.declared.entries.Told.TheVariants as told
use Rattle.sq_engine.specs.EngineViews.{state_of}
use Rattle.sq_replay.specs.declared.stops.Stop.{Stop}
use Rattle.sq_replay.specs.MachineViews.{MachineView, machine_of}
use Rattle.std.specs.Arc.{arc_value}
use Rattle.sq_rules.specs.Configurations.{Configuration}
use Rattle.sq_replay.specs.Making.{IsReconfiguring}
use Rattle.sq_replay.specs.Riding.{AreRenewed}
use Rattle.sq_replay.proofs.EngineLaws.{reconfigure_stops_at, reconfigured_at}
use Rattle.sq_replay.proofs.machines.ScriptMachine.reconfigure.Goals as goal

pub returns-in-Err-reconfigure-clause-making : goal.returns-in-Err-reconfigure-clause-making
returns-in-Err-reconfigure-clause-making c =
    let m : MachineView = record {
      engine = c.self.inside.engine;
      pools = c.self.inside.pools;
      latest = c.self.inside.latest;
      riders = c.self.inside.riders;
    } in
    let w = machine_of (record m { engine = c.reconfigure.new.self }) in
    subst (λ (z : MachineView). IsReconfiguring (machine_of z) w c.args.now c.args.setup (Err c.stop_by.result))
    c.self.view_is
    (subst (λ (x : Stop). IsReconfiguring (machine_of m) w c.args.now c.args.setup (Err x)) (sym c.stop_by.ensures)
    (reconfigure_stops_at (machine_of m) w (state_of c.reconfigure.new.self) c.args.now c.later-moment.result
    c.args.setup c.in-Err-reconfigure.refusal c.later-moment.ensures c.in-Err-reconfigure.ensures.promised))

pub returns-clause-making : goal.returns-clause-making
returns-clause-making c =
    let m : MachineView = record {
      engine = c.self.inside.engine;
      pools = c.self.inside.pools;
      latest = c.self.inside.latest;
      riders = c.self.inside.riders;
    } in
    let q = c.renew.new.self in
    let e = c.in-Ok-reconfigure.epoch in
    let u = c.later-moment.result in
    let own : arc_value c.in-Ok.config ≡ c.args.setup = c.in-Ok.ensures ∙ c.config.ensures in
    subst (λ (z : MachineView). IsReconfiguring (machine_of z)
    (machine_of (record { engine = c.reconfigure.new.self; pools = q; latest = u; riders = m.riders })) c.args.now
    c.args.setup (Ok (told.Epoch e))) c.self.view_is
    (reconfigured_at (machine_of m) (state_of c.reconfigure.new.self) q c.args.now u e c.args.setup
    c.later-moment.ensures c.facts.ensures c.in-Ok-reconfigure.ensures.told c.in-Ok-reconfigure.ensures.promised
    (λ fresh tags. subst (λ (k : Configuration). AreRenewed m.pools q e k u) own (c.in-Ok-renew.ensures fresh tags)))
