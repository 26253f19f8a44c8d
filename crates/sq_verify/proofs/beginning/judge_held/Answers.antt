use Rattle.std.proofs.Common.{◌≡◌, ◌∙◌, List, ℕ, ap, bytes_eq, codes, false, sym, true}
use Rattle.std.specs.Io.KnownBytes.{prepend_known}
use Rattle.sq_verify.specs.declared.versions.Version.TheVariants.{One}
use Rattle.sq_verify.specs.JournalLines.{line_limit}
use Rattle.sq_verify.proofs.BeginLaws.{causes_behind, judged_first_one, judged_first_two, judged_lacking, lacking_reaches, reaches_behind}
use Rattle.sq_verify.proofs.beginning.judge_held.Goals as goal

pub returns-in-Err-clause-judges : goal.returns-in-Err-clause-judges
returns-in-Err-clause-judges g c =
    judged_lacking c.args.setup (prepend_known c.args.held.now (g.S.Source.left c.args.journal.now)) c.in-Err.finding
    c.in-Err.ensures.lacks

pub returns-in-Err-clause-end : goal.returns-in-Err-clause-end
returns-in-Err-clause-end g c =
    let left = prepend_known c.args.held.now (g.S.Source.left c.args.journal.now) in
    lacking_reaches One 0 left left
    (prepend_known c.first_line.new.held (g.S.Source.left c.first_line.new.journal)) c.in-Err.finding
    c.in-Err.ensures.lacks

pub returns-then-is_version_line-clause-judges : goal.returns-then-is_version_line-clause-judges
returns-then-is_version_line-clause-judges g c =
    let is : bytes_eq c.first_line.new.line.items (codes "journal 2") ≡ true =
    sym (ap (λ (l : List ℕ). bytes_eq l (codes "journal 2")) c.as_slice.ensures.value)
    ∙ sym c.is_version_line.ensures ∙ c.if-is_version_line.true in
    judged_first_two c.args.setup (prepend_known c.args.held.now (g.S.Source.left c.args.journal.now))
    (prepend_known c.first_line.new.held (g.S.Source.left c.first_line.new.journal)) c.first_line.new.line.items
    c.first_line.new.place c.judge_second.result is c.in-Ok.ensures.whole c.in-Ok.ensures.place.0
    c.judge_second.ensures.judges

pub returns-then-is_version_line-clause-end : goal.returns-then-is_version_line-clause-end
returns-then-is_version_line-clause-end g c =
    reaches_behind c.judge_second.result (prepend_known c.args.held.now (g.S.Source.left c.args.journal.now))
    (prepend_known c.first_line.new.held (g.S.Source.left c.first_line.new.journal))
    (prepend_known c.judge_second.new.held (g.S.Source.left c.judge_second.new.journal)) (line_limit One) 0
    c.first_line.new.line.items c.in-Ok.ensures.whole c.judge_second.ensures.end

pub returns-then-is_version_line-clause-causes : goal.returns-then-is_version_line-clause-causes
returns-then-is_version_line-clause-causes g c =
    causes_behind (g.S.Source.faults c.args.journal.now) (g.S.Source.faults c.first_line.new.journal)
    (g.S.Source.faults c.judge_second.new.journal) c.judge_second.result c.in-Ok.ensures.quiet
    c.judge_second.ensures.causes

pub returns-else-is_version_line-clause-judges : goal.returns-else-is_version_line-clause-judges
returns-else-is_version_line-clause-judges g c =
    let is : bytes_eq c.first_line.new.line.items (codes "journal 2") ≡ false =
    sym (ap (λ (l : List ℕ). bytes_eq l (codes "journal 2")) c.as_slice.ensures.value)
    ∙ sym c.is_version_line.ensures ∙ c.if-is_version_line.false in
    judged_first_one c.args.setup (prepend_known c.args.held.now (g.S.Source.left c.args.journal.now))
    (prepend_known c.first_line.new.held (g.S.Source.left c.first_line.new.journal)) c.first_line.new.line.items
    c.first_line.new.place c.judge_from.result is c.in-Ok.ensures.whole c.in-Ok.ensures.place.0
    c.judge_from.ensures.judges

pub returns-else-is_version_line-clause-end : goal.returns-else-is_version_line-clause-end
returns-else-is_version_line-clause-end g c =
    reaches_behind c.judge_from.result (prepend_known c.args.held.now (g.S.Source.left c.args.journal.now))
    (prepend_known c.first_line.new.held (g.S.Source.left c.first_line.new.journal))
    (prepend_known c.judge_from.new.held (g.S.Source.left c.judge_from.new.journal)) (line_limit One) 0
    c.first_line.new.line.items c.in-Ok.ensures.whole c.judge_from.ensures.end

pub returns-else-is_version_line-clause-causes : goal.returns-else-is_version_line-clause-causes
returns-else-is_version_line-clause-causes g c =
    causes_behind (g.S.Source.faults c.args.journal.now) (g.S.Source.faults c.first_line.new.journal)
    (g.S.Source.faults c.judge_from.new.journal) c.judge_from.result c.in-Ok.ensures.quiet c.judge_from.ensures.causes
