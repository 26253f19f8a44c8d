use Rattle.std.proofs.Common.{refl, sym, ◌∙◌}
use Rattle.sq_turns.specs.declared.ends.Carried.TheVariants.{Stays, Closes, Over}
use Rattle.sq_turns.specs.declared.ends.End.TheVariants.{Finished}
use Rattle.sq_session.proofs.SessionLaws.{tells_end, refuse_cause, over_dry}
use Rattle.sq_session.proofs.sessions.refuse.Goals as goal

pub returns-in-Stays-clause-tells : goal.returns-in-Stays-clause-tells
returns-in-Stays-clause-tells g c = tells_end Stays Finished (λ _. refl) (λ e i. cc) c.in-Stays.ensures.tells

pub returns-in-Closes-clause-tells : goal.returns-in-Closes-clause-tells
returns-in-Closes-clause-tells g c = tells_end Closes Finished (λ _. refl) (λ e i. cc) c.in-Closes.ensures.tells

pub returns-in-Over-clause-tells : goal.returns-in-Over-clause-tells
returns-in-Over-clause-tells g c = tells_end (Over c.in-Over.end) c.in-Over.end (λ i. cc) (λ e i. cc)
    c.in-Over.ensures.tells

pub returns-in-Over-clause-cause : goal.returns-in-Over-clause-cause
returns-in-Over-clause-cause g c = refuse_cause _ _ c.in-Over.end c.in-Over.ensures.cause

pub returns-in-Over-clause-dry : goal.returns-in-Over-clause-dry
returns-in-Over-clause-dry g c = sym (over_dry c.in-Over.end) ∙ c.in-Over.ensures.dry
