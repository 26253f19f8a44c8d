use Rattle.std.specs.Io.KnownBytes.{prepend_known}
use Rattle.sq_verify.specs.declared.versions.Version.TheVariants.{Two}
use Rattle.sq_verify.specs.JournalLines.{line_limit}
use Rattle.sq_verify.proofs.BeginLaws.{causes_behind, first_whole, reaches_behind}
use Rattle.sq_verify.proofs.beginning.judge_second.Goals as goal

pub returns-in-Ok-clause-judges : goal.returns-in-Ok-clause-judges
returns-in-Ok-clause-judges g c =
    first_whole Two c.args.setup (prepend_known c.args.held.now (g.S.Source.left c.args.journal.now))
    (prepend_known c.first_line.new.held (g.S.Source.left c.first_line.new.journal)) c.first_line.new.line.items
    c.args.place c.first_line.new.place c.judge_from.result c.in-Ok.ensures.whole c.in-Ok.ensures.place.0
    c.judge_from.ensures.judges

pub returns-in-Ok-clause-end : goal.returns-in-Ok-clause-end
returns-in-Ok-clause-end g c =
    reaches_behind c.judge_from.result (prepend_known c.args.held.now (g.S.Source.left c.args.journal.now))
    (prepend_known c.first_line.new.held (g.S.Source.left c.first_line.new.journal))
    (prepend_known c.judge_from.new.held (g.S.Source.left c.judge_from.new.journal)) (line_limit Two) c.args.place
    c.first_line.new.line.items c.in-Ok.ensures.whole c.judge_from.ensures.end

pub returns-in-Ok-clause-causes : goal.returns-in-Ok-clause-causes
returns-in-Ok-clause-causes g c =
    causes_behind (g.S.Source.faults c.args.journal.now) (g.S.Source.faults c.first_line.new.journal)
    (g.S.Source.faults c.judge_from.new.journal) c.judge_from.result c.in-Ok.ensures.quiet c.judge_from.ensures.causes
