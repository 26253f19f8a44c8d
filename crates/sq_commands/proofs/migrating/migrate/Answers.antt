use Rattle.sq_commands.specs.declared.ends.Status.TheVariants as ends
use Rattle.sq_commands.specs.Commands.{migrated_output, script_stage, staged}
use Rattle.sq_commands.proofs.OpenedLaws.{fault_told}
use Rattle.sq_commands.proofs.MigrateLaws.{migrate_causes, migrate_played, migrate_told}
use Rattle.sq_commands.proofs.VerifyLaws.{journal_fault, journal_missing, journal_opened, journal_over}
use Rattle.sq_commands.proofs.migrating.migrate.Goals as goal

pub returns-clause-delivers : goal.returns-clause-delivers
returns-clause-delivers g c =
    let a = g.O.Sink.contents c.args.out.now in
    let b = g.O.Sink.contents c.settle.new.out in
    let before = g.O.Sink.faults c.args.out.now in
    let now = g.O.Sink.faults c.settle.new.out in
    journal_over (g.F.Files.texts c.args.files.now) _ a b before now c.args.journal.now migrated_output c.settle.result
    c.in-Ok.ensures.opened
    (migrate_told _ a (g.O.Sink.contents c.migrate-ended.new.out) b before (g.O.Sink.faults c.migrate-ended.new.out) now
    c.new-page.result.items _ c.migrate-ended.result c.settle.result c.new-page.ensures.items
    c.migrate-ended.ensures.causes.out_later c.migrate-ended.ensures.migrates c.settle.ensures.delivers)

pub returns-clause-opened : goal.returns-clause-opened
returns-clause-opened g c =
    let opened = g.F.Files.opened in
    let a = g.O.Sink.contents c.args.out.now in
    let b = g.O.Sink.contents c.settle.new.out in
    let before = g.O.Sink.faults c.args.out.now in
    let now = g.O.Sink.faults c.settle.new.out in
    journal_opened (opened c.args.files.now) (opened c.open.new.self) (opened c.give_back.new.self) _ a b before now
    c.args.journal.now migrated_output c.settle.result
    c.in-Ok.ensures.opened_list c.give_back.ensures.opened_list
    (migrate_told _ a (g.O.Sink.contents c.migrate-ended.new.out) b before (g.O.Sink.faults c.migrate-ended.new.out) now
    c.new-page.result.items _ c.migrate-ended.result c.settle.result c.new-page.ensures.items
    c.migrate-ended.ensures.causes.out_later c.migrate-ended.ensures.migrates c.settle.ensures.delivers)

pub returns-clause-causes : goal.returns-clause-causes
returns-clause-causes g c =
    migrate_causes (g.F.Files.faults c.args.files.now) (g.F.Files.faults c.open.new.self)
    (g.F.Files.faults c.give_back.new.self) _ _
    (g.O.Sink.faults c.args.out.now) (g.O.Sink.faults c.migrate-ended.new.out) (g.O.Sink.faults c.settle.new.out)
    c.migrate-ended.result c.settle.result
    c.in-Ok.ensures.cause.quiet c.in-Ok.ensures.fresh c.migrate-ended.ensures.causes c.give_back.ensures.cause
    c.settle.ensures.same c.settle.ensures.read c.settle.ensures.later c.settle.ensures.write c.settle.ensures.quiet

pub returns-clause-end : goal.returns-clause-end
returns-clause-end g c = migrate_played (g.F.Files.texts c.args.files.now) c.args.journal.now c.migrate-ended.result
    c.settle.result c.settle.ensures.same

pub returns-in-Err-Missing-clause-opened : goal.returns-in-Err-Missing-clause-opened
returns-in-Err-Missing-clause-opened g c =
    journal_missing (g.F.Files.opened c.args.files.now) (g.F.Files.opened c.open.new.self)
    (g.O.Sink.contents c.args.out.now) (g.O.Sink.faults c.args.out.now) c.args.journal.now
    migrated_output c.missing.result c.in-Err-Missing.ensures.opened_list c.missing.ensures

pub returns-in-Err-Failed-clause-delivers : goal.returns-in-Err-Failed-clause-delivers
returns-in-Err-Failed-clause-delivers g c =
    fault_told (g.F.Files.texts c.args.files.now) (g.O.Sink.contents c.args.out.now) (g.O.Sink.faults c.args.out.now)
    (λ disk. staged (script_stage c.args.journal.now (disk c.args.journal.now)) migrated_output) ends.ReadFault
    (λ e. absurd (cc)) tt

pub returns-in-Err-Failed-clause-opened : goal.returns-in-Err-Failed-clause-opened
returns-in-Err-Failed-clause-opened g c =
    journal_fault (g.F.Files.opened c.args.files.now) (g.F.Files.opened c.open.new.self)
    (g.O.Sink.contents c.args.out.now) (g.O.Sink.faults c.args.out.now) c.args.journal.now
    migrated_output ends.ReadFault c.in-Err-Failed.ensures.opened_list (λ e. absurd (cc)) tt

pub returns-in-Err-WantOfMemory-clause-opened : goal.returns-in-Err-WantOfMemory-clause-opened
returns-in-Err-WantOfMemory-clause-opened g c =
    journal_fault (g.F.Files.opened c.args.files.now) (g.F.Files.opened c.open.new.self)
    (g.O.Sink.contents c.args.out.now) (g.O.Sink.faults c.args.out.now) c.args.journal.now
    migrated_output ends.WantOfMemory c.in-Err-WantOfMemory.ensures.opened_list (λ e. absurd (cc)) tt
