use Rattle.std.proofs.Common.{◌≡◌, ◌∙◌, ◌++◌, ◌∷◌, [], List, Some, IfSome, false, sym, subst}
use Rattle.std.specs.Arc.{arc_value}
use Rattle.sq_base.specs.Distinct.{has_answer}
use Rattle.sq_base.specs.declared.helpers.Answer.{Answer}
use Rattle.sq_rules.specs.Values.{taken_at}
use Rattle.sq_checks.specs.GivenValues.{given_value}
use Rattle.sq_checks.specs.declared.answers.Given.{Given}
use Rattle.sq_checks.specs.Givens.{AreFrames}
use Rattle.sq_checks.specs.Stages.{IsOf, came_in}
use Rattle.sq_checks.proofs.CheckLaws.{came_asked, came_new}
use Rattle.sq_checks.proofs.GivenLaws.{asked_taken, frames_stay}
use Rattle.sq_checks.proofs.check_state.CheckState.settle.Goals as goal

pub invariant_of-self-2 : goal.invariant_of-self-2
invariant_of-self-2 c =
    let k = c.self.inside in
    let a = c.in-Some.answer in
    let came : came_in k.stage ≡ Some a = sym c.in_ok-answer.ensures ∙ c.in-Some.is in
    let new : has_answer k.answers a.class a.key ≡ false =
    came_new (arc_value k.config) k.sight k.answers k.stage a c.self.invariant.stage_is came in
    let of : IfSome k.asks (λ acl. IsOf (arc_value k.config) k.sight acl a.class a.key) =
    came_asked (arc_value k.config) k.sight k.asks k.stage a c.self.invariant.asks_are came in
    let taken =
    subst (λ (v : Given). IfSome k.asks
    (λ acl. taken_at (arc_value k.config) k.sight (k.answers ++ a ∷ []) acl ≡ given_value acl (Some v)))
    (sym c.given_by-value.ensures) (asked_taken (arc_value k.config) k.sight k.answers a k.asks new of) in
    record {
      facts_are = c.self.invariant.facts_are;
      pool_is = c.self.invariant.pool_is;
      stage_is = tt;
      looks_are = tt;
      frames_are = subst (λ (l : List Answer). AreFrames (arc_value k.config) k.sight l k.facts c.give_asked.new.frames)
          (sym c.in_ok-push.ensures.ok)
          (c.give_asked.ensures.given (arc_value k.config) k.sight (k.answers ++ a ∷ []) k.facts
          (frames_stay (arc_value k.config) k.sight k.answers (a ∷ []) k.facts k.frames c.self.invariant.frames_are)
          taken);
      asks_are = tt;
    }
