use Rattle.sq_commands.specs.declared.ends.Status.TheVariants as ends
use Rattle.sq_commands.specs.Commands.{journal_output, script_stage, staged}
use Rattle.sq_commands.proofs.OpenedLaws.{fault_told}
use Rattle.sq_commands.proofs.VerifyLaws.{found_played, found_told, journal_fault, journal_missing, journal_opened, journal_over, judge_causes}
use Rattle.sq_commands.proofs.verifying.judge_file.Goals as goal

pub returns-clause-delivers : goal.returns-clause-delivers
returns-clause-delivers g c =
    journal_over (g.F.Files.texts c.args.files.now) _ (g.O.Sink.contents c.args.out.now)
    (g.O.Sink.contents c.settle_finding.new.out)
    (g.O.Sink.faults c.args.out.now) (g.O.Sink.faults c.settle_finding.new.out) c.args.journal.now
    (journal_output c.args.setup) c.settle_finding.result c.in-Ok.ensures.opened
    (found_told _ _ _ _ _ c.args.setup c.judge-found.result c.settle_finding.result c.judge-found.ensures.judges
    c.settle_finding.ensures.delivers)

pub returns-clause-opened : goal.returns-clause-opened
returns-clause-opened g c =
    let opened = g.F.Files.opened in
    journal_opened (opened c.args.files.now) (opened c.open.new.self) (opened c.give_back.new.self) _
    (g.O.Sink.contents c.args.out.now) (g.O.Sink.contents c.settle_finding.new.out)
    (g.O.Sink.faults c.args.out.now) (g.O.Sink.faults c.settle_finding.new.out) c.args.journal.now
    (journal_output c.args.setup) c.settle_finding.result c.in-Ok.ensures.opened_list c.give_back.ensures.opened_list
    (found_told _ _ _ _ _ c.args.setup c.judge-found.result c.settle_finding.result c.judge-found.ensures.judges
    c.settle_finding.ensures.delivers)

pub returns-clause-causes : goal.returns-clause-causes
returns-clause-causes g c =
    judge_causes (g.F.Files.faults c.args.files.now) (g.F.Files.faults c.open.new.self)
    (g.F.Files.faults c.give_back.new.self) _ _
    (g.O.Sink.faults c.args.out.now) (g.O.Sink.faults c.settle_finding.new.out) c.judge-found.result
    c.settle_finding.result
    c.in-Ok.ensures.cause.quiet c.in-Ok.ensures.fresh c.judge-found.ensures.causes c.give_back.ensures.cause
    c.settle_finding.ensures.end c.settle_finding.ensures.later c.settle_finding.ensures.write
    c.settle_finding.ensures.quiet

pub returns-clause-end : goal.returns-clause-end
returns-clause-end g c = found_played (g.F.Files.texts c.args.files.now) c.args.journal.now c.judge-found.result
    c.settle_finding.result c.settle_finding.ensures.end

pub returns-in-Err-Missing-clause-opened : goal.returns-in-Err-Missing-clause-opened
returns-in-Err-Missing-clause-opened g c =
    journal_missing (g.F.Files.opened c.args.files.now) (g.F.Files.opened c.open.new.self)
    (g.O.Sink.contents c.args.out.now) (g.O.Sink.faults c.args.out.now) c.args.journal.now
    (journal_output c.args.setup) c.missing.result c.in-Err-Missing.ensures.opened_list c.missing.ensures

pub returns-in-Err-Failed-clause-delivers : goal.returns-in-Err-Failed-clause-delivers
returns-in-Err-Failed-clause-delivers g c =
    fault_told (g.F.Files.texts c.args.files.now) (g.O.Sink.contents c.args.out.now) (g.O.Sink.faults c.args.out.now)
    (λ disk. staged (script_stage c.args.journal.now (disk c.args.journal.now)) (journal_output c.args.setup))
    ends.ReadFault (λ e. absurd (cc)) tt

pub returns-in-Err-Failed-clause-opened : goal.returns-in-Err-Failed-clause-opened
returns-in-Err-Failed-clause-opened g c =
    journal_fault (g.F.Files.opened c.args.files.now) (g.F.Files.opened c.open.new.self)
    (g.O.Sink.contents c.args.out.now) (g.O.Sink.faults c.args.out.now) c.args.journal.now
    (journal_output c.args.setup) ends.ReadFault c.in-Err-Failed.ensures.opened_list (λ e. absurd (cc)) tt

pub returns-in-Err-WantOfMemory-clause-opened : goal.returns-in-Err-WantOfMemory-clause-opened
returns-in-Err-WantOfMemory-clause-opened g c =
    journal_fault (g.F.Files.opened c.args.files.now) (g.F.Files.opened c.open.new.self)
    (g.O.Sink.contents c.args.out.now) (g.O.Sink.faults c.args.out.now) c.args.journal.now
    (journal_output c.args.setup) ends.WantOfMemory c.in-Err-WantOfMemory.ensures.opened_list (λ e. absurd (cc)) tt
