use Rattle.std.proofs.Common.{sym, ◌∙◌, subst}
use Rattle.std.proofs.lemmas.Option.{none-some}
use Rattle.sq_server.specs.Service.{IsServiceEnd}
use Rattle.sq_commands.proofs.DoneLaws.{migrates_truly_told, runs_truly_told}
use Rattle.sq_proxy.proofs.proxying.proxy.Goals as goal

pub returns-in-Some-clause-truly : goal.returns-in-Some-clause-truly
returns-in-Some-clause-truly g c = runs_truly_told (g.W.F.Files.texts c.args.files.now) c.args.words.now

pub returns-in-Some-clause-migrates : goal.returns-in-Some-clause-migrates
returns-in-Some-clause-migrates g c = migrates_truly_told (g.W.F.Files.texts c.args.files.now) c.args.words.now

pub returns-in-Some-clause-usage : goal.returns-in-Some-clause-usage
returns-in-Some-clause-usage g c = (
  λ e. absurd (subst IsServiceEnd e c.serve_service-status.ensures.end),
  λ p. absurd (none-some _ (sym p.1 ∙ c.in-Some.ensures)),
)
