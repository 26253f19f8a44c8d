use Rattle.std.proofs.Common.{◌∙◌, refl, sym}
use Rattle.sq_checks.proofs.FrameStepLaws.{none_here}
use Rattle.sq_checks.proofs.stepping.end.Goals as goal

pub decide-requires-clause-open : goal.decide-requires-clause-open
decide-requires-clause-open c = none_here c.args.position.now.groups.list (sym c.first.ensures ∙ c.in-None.is)

pub returns-in-None-clause-stops : goal.returns-in-None-clause-stops
returns-in-None-clause-stops c = λ taken n. record { stays = refl; quiet = refl; is = c.decide.ensures.stop taken }
