use Rattle.std.proofs.Common.{◌≡◌, true, false, subst, sym, ap, ◌∙◌}
use Rattle.sq_commands.specs.Commands.{ran_output}
use Rattle.sq_commands.specs.Ends.{run_status}
use Rattle.sq_commands.specs.Outputs.{Delivers, IsSettled, failed_end, is_write_fault}
use Rattle.sq_commands.proofs.SettleLaws.{settled_fault, settled_ok, settled_err, failed_settled}
use Rattle.sq_commands.proofs.top.settle.Goals as goal

pub returns-then-is_write_fault-clause-delivers : goal.returns-then-is_write_fault-clause-delivers
returns-then-is_write_fault-clause-delivers g c = λ base ran r.
    let write : is_write_fault (run_status c.args.end) ≡ true = sym (ap is_write_fault c.status_of-end.ensures)
    ∙ sym c.is_write_fault.ensures ∙ c.if-is_write_fault.true in
    subst (λ s. Delivers base (g.O.Sink.contents c.args.out.now) (g.O.Sink.faults c.args.out.now)
    (g.O.Sink.faults c.args.out.now) (ran_output ran) s) (sym c.status_of-end.ensures)
    (settled_fault base _ _ _ _ ran c.args.end write r)

pub returns-in-Ok-clause-delivers : goal.returns-in-Ok-clause-delivers
returns-in-Ok-clause-delivers g c = λ base ran r.
    let write : is_write_fault (run_status c.args.end) ≡ false = sym (ap is_write_fault c.status_of-end.ensures)
    ∙ sym c.is_write_fault.ensures ∙ c.if-is_write_fault.false in
    subst (λ s. Delivers base (g.O.Sink.contents c.write_page.new.out) (g.O.Sink.faults c.args.out.now)
    (g.O.Sink.faults c.write_page.new.out) (ran_output ran) s) (sym c.status_of-end.ensures)
    (settled_ok base _ _ _ _ _ _ ran c.args.end write c.in-Ok.ensures.ok c.in-Ok.ensures.empty r)

pub returns-in-Err-clause-delivers : goal.returns-in-Err-clause-delivers
returns-in-Err-clause-delivers g c = λ base ran r.
    let write : is_write_fault (run_status c.args.end) ≡ false = sym (ap is_write_fault c.status_of-end.ensures)
    ∙ sym c.is_write_fault.ensures ∙ c.if-is_write_fault.false in
    subst (λ s. Delivers base (g.O.Sink.contents c.write_page.new.out) (g.O.Sink.faults c.args.out.now)
    (g.O.Sink.faults c.write_page.new.out) (ran_output ran) s)
    (sym (c.failed_end.ensures ∙ ap failed_end c.status_of-end.ensures))
    (settled_err base _ _ _ _ _ ran c.args.end write c.in-Err.ensures.err c.in-Err.ensures.cause.failed r)

pub returns-in-Err-clause-same : goal.returns-in-Err-clause-same
returns-in-Err-clause-same g c =
    subst (IsSettled (run_status c.args.end)) (sym (c.failed_end.ensures ∙ ap failed_end c.status_of-end.ensures))
    (failed_settled (run_status c.args.end))
