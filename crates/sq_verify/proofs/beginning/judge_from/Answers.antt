use Rattle.std.proofs.Common.{List, ℕ, Ok, subst}
use Rattle.std.specs.Io.KnownBytes.{prepend_known}
use Rattle.sq_verify.specs.JournalLines.{noted_in}
use Rattle.sq_verify.specs.Judging.{stated_first}
use Rattle.sq_verify.specs.Promised.{BeginsLine}
use Rattle.sq_verify.proofs.BeginLaws.{rest_judged}
use Rattle.sq_verify.proofs.beginning.judge_from.Goals as goal

pub returns-clause-judges : goal.returns-clause-judges
returns-clause-judges g c =
    let machine = g.M.Player.machine in
    let v = c.args.version in
    let begun = subst (λ (l : List ℕ). BeginsLine machine c.args.setup (stated_first v l (noted_in v l))
    (Ok c.in-Ok.machine)) c.as_slice.ensures.value c.in-Ok.ensures in
    rest_judged (machine c.in-Ok.machine) v c.args.setup
    (prepend_known c.args.held.now (g.S.Source.left c.args.journal.now)) c.args.line.items c.args.place begun.0
    c.judge_rest.result c.configuration_facts.ensures
    begun.1 begun.2 c.judge_rest.ensures.judges
