use Rattle.std.proofs.Common.{◌≡◌, ◌∙◌, max, Option, Some, None, Ok, sym, subst, rules}
use Rattle.sq_machine.specs.declared.entries.Told.{Told}
use Rattle.sq_engine.specs.EngineViews.{state_of}
use Rattle.sq_replay.specs.MachineViews.{MachineView, machine_of}
use Rattle.std.proofs.Common.{◌<◌}
use Rattle.sq_machine.specs.declared.acts.Act.{Act}
use Rattle.sq_engine.specs.Acting.{IsActPromised, due_now, told_of_act}
use Rattle.sq_replay.specs.Dues.{dues_in}
use Rattle.sq_replay.specs.Making.{IsActing}
use Rattle.sq_replay.proofs.NamingLaws.{act_same}
use Rattle.sq_replay.proofs.ActingLaws.{act_at_moment, act_lowers_due, none_at_moment}
use Rattle.sq_replay.proofs.machines.ScriptMachine.act_at.Goals as goal

pub returns-in_default-clause-acting : goal.returns-in_default-clause-acting
returns-in_default-clause-acting c =
    let m : MachineView = record {
      engine = c.self.inside.engine;
      pools = c.self.inside.pools;
      latest = c.self.inside.latest;
      riders = c.self.inside.riders;
    } in
    let u = c.later-moment.result in
    let none : c.act.result ≡ None = search rules in
    let promised : IsActPromised (state_of m.engine) (max u m.engine.latest) None (state_of c.act.new.self) =
    subst (λ (o : Option Act). IsActPromised (state_of m.engine) (max u m.engine.latest) o (state_of c.act.new.self))
    none c.act.ensures.promised in
    let w = machine_of (record m { engine = c.act.new.self }) in
    subst (λ (z : MachineView). IsActing (machine_of z) w (max c.args.now z.latest) (Ok None)) c.self.view_is
    (none_at_moment (machine_of m) w (state_of c.act.new.self) c.args.now u c.later-moment.ensures promised)

pub returns-clause-acting : goal.returns-clause-acting
returns-clause-acting c =
    let m : MachineView = record {
      engine = c.self.inside.engine;
      pools = c.self.inside.pools;
      latest = c.self.inside.latest;
      riders = c.self.inside.riders;
    } in
    let u = c.later-moment.result in
    let s = state_of m.engine in
    let is : c.in_ok-told.told ≡ told_of_act s c.in-Some.act =
    c.in_ok-told.ensures.told
    ∙ act_same s (state_of c.act.new.self) (due_now m.engine) (max u m.engine.latest) c.in-Some.act
    c.in-Some.ensures.some in
    let w = machine_of (record { engine = c.act.new.self; pools = m.pools; latest = u; riders = m.riders }) in
    subst (λ (x : Told). IsActing (machine_of c.args.self.now) w (max c.args.now c.args.self.now.latest) (Ok (Some x)))
    (sym is)
    (subst (λ (z : MachineView). IsActing (machine_of z) w (max c.args.now z.latest)
    (Ok (Some (told_of_act s c.in-Some.act)))) c.self.view_is
    (act_at_moment (machine_of m) (state_of c.act.new.self) c.args.now u c.in-Some.act c.later-moment.ensures
    c.facts.ensures c.in-Some.ensures.promised))

pub returns-clause-lowers : goal.returns-clause-lowers
returns-clause-lowers c =
    let m : MachineView = record {
      engine = c.self.inside.engine;
      pools = c.self.inside.pools;
      latest = c.self.inside.latest;
      riders = c.self.inside.riders;
    } in
    let u = c.later-moment.result in
    subst (λ (z : MachineView). dues_in (state_of c.act.new.self) < dues_in (state_of z.engine)) c.self.view_is
    (act_lowers_due (state_of m.engine) (state_of c.act.new.self) (due_now m.engine) (max u m.engine.latest)
    c.in-Some.act c.act.ensures.state c.in-Some.ensures.act c.in-Some.ensures.some)
