use Rattle.std.proofs.Common.{◌≡◌, ℕ, max, List, Ok, subst}
use Rattle.sq_machine.specs.declared.entries.Event.TheVariants.{Act}
use Rattle.sq_rules.specs.Configurations.{Configuration}
use Rattle.sq_machine.specs.Entries.{History}
use Rattle.sq_replay.specs.MachineViews.{machine_of}
use Rattle.sq_replay.specs.Making.{IsActing}
use Rattle.sq_replay.specs.Runs.{Is, IsMade}
use Rattle.sq_commands.specs.Driving.{answered}
use Rattle.sq_commands.specs.Summaries.{counted}
use Rattle.sq_commands.specs.Turns.{TurnsTo}
use Rattle.sq_commands.proofs.TurnLaws.{act_done, on_ok}
use Rattle.sq_commands.proofs.rehearsals.make_act.Goals as goal

pub returns-in-Some-clause-turns : goal.returns-in-Some-clause-turns
returns-in-Some-clause-turns c =
    let v = machine_of c.args.machine.now in
    let w = machine_of c.act_at.new.self in
    let d = c.args.driver.now in
    let told = c.in-Some.told in
    let acting = subst (λ o. IsActing v w (max c.moment.result v.latest) (Ok o)) c.in-Some.is
    c.in_ok-act_at.ensures.acting in
    on_ok c.answered.result (c.answered.new.self ≡ answered told d)
    ((configs : List Configuration) (h : History) → Is v configs h → c.args.summary.now ≡ counted h
    → TurnsTo configs h d w c.count.new.self c.answered.new.self)
    (λ goes configs h is counts. act_done v w configs h d c.answered.new.self c.args.summary.now c.count.new.self told
    c.requires.acting goes c.count.ensures
    (subst (λ (m : ℕ). IsMade w configs h (max m v.latest) Act told) c.moment.ensures (acting configs h is)) is counts)
    c.answered.ensures
