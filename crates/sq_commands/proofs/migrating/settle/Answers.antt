use Rattle.std.proofs.Common.{◌≡◌, true, false, subst, sym, ap, ◌∙◌}
use Rattle.sq_commands.specs.Commands.{migrated}
use Rattle.sq_commands.specs.Ends.{migrate_status}
use Rattle.sq_commands.specs.Outputs.{Delivers, IsSettled, failed_end, is_write_fault}
use Rattle.sq_commands.proofs.MigrateLaws.{settled_fault, settled_ok, settled_err}
use Rattle.sq_commands.proofs.SettleLaws.{failed_settled}
use Rattle.sq_commands.proofs.migrating.settle.Goals as goal

pub returns-then-is_write_fault-clause-delivers : goal.returns-then-is_write_fault-clause-delivers
returns-then-is_write_fault-clause-delivers g c = λ base ran r.
    let write : is_write_fault (migrate_status c.args.ended) ≡ true =
    sym (ap is_write_fault c.migrate_status-end.ensures) ∙ sym c.is_write_fault.ensures ∙ c.if-is_write_fault.true in
    subst (λ s. Delivers base (g.O.Sink.contents c.args.out.now) (g.O.Sink.faults c.args.out.now)
    (g.O.Sink.faults c.args.out.now) (migrated ran) s) (sym c.migrate_status-end.ensures)
    (settled_fault base _ _ _ _ ran c.args.ended write r)

pub returns-in-Ok-clause-delivers : goal.returns-in-Ok-clause-delivers
returns-in-Ok-clause-delivers g c = λ base ran r.
    let write : is_write_fault (migrate_status c.args.ended) ≡ false =
    sym (ap is_write_fault c.migrate_status-end.ensures) ∙ sym c.is_write_fault.ensures ∙ c.if-is_write_fault.false in
    subst (λ s. Delivers base (g.O.Sink.contents c.write_page.new.out) (g.O.Sink.faults c.args.out.now)
    (g.O.Sink.faults c.write_page.new.out) (migrated ran) s) (sym c.migrate_status-end.ensures)
    (settled_ok base _ _ _ _ _ _ ran c.args.ended write c.in-Ok.ensures.ok c.in-Ok.ensures.empty r)

pub returns-in-Err-clause-delivers : goal.returns-in-Err-clause-delivers
returns-in-Err-clause-delivers g c = λ base ran r.
    let write : is_write_fault (migrate_status c.args.ended) ≡ false =
    sym (ap is_write_fault c.migrate_status-end.ensures) ∙ sym c.is_write_fault.ensures ∙ c.if-is_write_fault.false in
    subst (λ s. Delivers base (g.O.Sink.contents c.write_page.new.out) (g.O.Sink.faults c.args.out.now)
    (g.O.Sink.faults c.write_page.new.out) (migrated ran) s)
    (sym (c.failed_end.ensures ∙ ap failed_end c.migrate_status-end.ensures))
    (settled_err base _ _ _ _ _ ran c.args.ended write c.in-Err.ensures.err c.in-Err.ensures.cause.failed r)

pub returns-in-Err-clause-same : goal.returns-in-Err-clause-same
returns-in-Err-clause-same g c =
    subst (IsSettled (migrate_status c.args.ended))
    (sym (c.failed_end.ensures ∙ ap failed_end c.migrate_status-end.ensures))
    (failed_settled (migrate_status c.args.ended))
