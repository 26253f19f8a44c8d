use Rattle.std.proofs.Common.{◌≡◌, ◌∙◌, ap, map}
use Rattle.regex_hir.proofs.MeaningLemmas.{meaning-Alternation}
use Rattle.regex_hir.specs.Meaning.{alt_all, meaning}
use Rattle.regex_meta.specs.Programs.{pattern_of}
use Rattle.sq_urlmatch.proofs.ManyLaws.{whole_finds}
use Rattle.sq_urlmatch.proofs.programs.whole_program.Goals as goal

pub returns-in-Ok : goal.returns-in-Ok
returns-in-Ok c finds alike =
    let e : pattern_of c.in-Ok.program ≡ alt_all (map meaning c.args.trees.trees.items) = ap meaning c.in-Ok.ensures
    ∙ meaning-Alternation c.args.trees.trees in
    whole_finds finds c.args.trees.trees.items c.in-Ok.program e alike
