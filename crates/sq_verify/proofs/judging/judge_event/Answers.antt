use Rattle.std.proofs.Common.{◌≡◌, ◌+◌, ℕ, max, arith, ap, subst, sym, ◌∙◌, Err}
use Rattle.sq_machine.specs.Entries.{entry_at}
use Rattle.sq_verify.specs.declared.halts.Halt.{Halt}
use Rattle.sq_verify.specs.Judging.{event_line}
use Rattle.sq_verify.specs.Promised.{ComparesNext, Goes}
use Rattle.sq_verify.proofs.StepLaws.{goes_by, goes_stopped}
use Rattle.sq_verify.proofs.judging.judge_event.Goals as goal

pub returns-in-Err : goal.returns-in-Err
returns-in-Err g c =
    let machine = g.M.Player.machine in
    record {
      goes = λ configs h s next.
          subst (λ (r : Halt). Goes (machine c.play.new.machine) (c.args.count + 1) configs
          (event_line c.args.version configs h c.args.line.now c.args.now c.args.event) (Err r))
          (sym c.halt_for.ensures)
          (goes_stopped c.args.version (machine c.args.machine.now) (machine c.play.new.machine) configs h
          c.args.line.now c.args.now (c.args.count + 1) c.args.event c.in-Err.stop s.is c.in-Err.ensures.plays);
    }

pub returns : goal.returns
returns g c =
    let machine = g.M.Player.machine in
    let moment : c.later-moment.result ≡ max c.args.now (machine c.args.machine.now).latest = c.later-moment.ensures
    ∙ ap (λ (n : ℕ). max c.args.now n) c.latest.ensures in
    record {
      goes = λ configs h s next.
          goes_by c.args.version (machine c.args.machine.now) (machine c.play.new.machine) configs h c.args.line.now
          c.args.now c.args.event c.in-Ok.answer c.args.count c.args.epoch c.compare_next.result
          (omega (arith, c.requires.count)) s c.in-Ok.ensures.plays.0 (c.in-Ok.ensures.plays.1 configs h s.is next)
          (subst (λ (n : ℕ). ComparesNext c.args.version c.args.count c.args.epoch
          (entry_at n c.args.event c.in-Ok.answer) c.args.line.now c.compare_next.result) moment
          c.compare_next.ensures);
    }
