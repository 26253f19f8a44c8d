use Rattle.std.proofs.Common.{◌+◌, List, Option, Some, ap, sym, subst, ◌∙◌}
use Rattle.sq_rules.specs.Configurations.{Configuration}
use Rattle.sq_machine.specs.Entries.{History, Noted}
use Rattle.sq_verify.specs.Judging.{stated_line}
use Rattle.sq_verify.specs.Promised.{Goes, IsNext, Stands}
use Rattle.sq_verify.proofs.judging.judge_line.Goals as goal

pub returns : goal.returns
returns g c =
    let machine = g.M.Player.machine in
    record {
      goes = subst (λ (o : Option Noted). (configs : List Configuration) (h : History)
          → Stands (machine c.args.machine.now) c.args.count c.args.epoch configs h → IsNext configs h o
          → Goes (machine c.judge_event.new.machine) (c.args.count + 1) configs
          (stated_line c.args.version configs h c.args.line.now o) c.judge_event.result)
          (ap (λ (e : Noted). Some e) c.entry.view_is ∙ sym c.in-Ok.ensures) c.judge_event.ensures.goes;
    }
