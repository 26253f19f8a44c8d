use Rattle.std.proofs.Common.{List, [], ◌∷◌, ◌++◌, Err, refl, sym, subst, ◌∙◌, inl, inr}
use Rattle.sq_message.specs.declared.own.Own.TheVariants.{NotImplemented, Inner, NoMemory}
use Rattle.sq_turns.specs.Fronts.{FrontAnswer, OfSit}
use Rattle.sq_turns.specs.declared.front.SitFault.TheVariants as sit
use Rattle.sq_turns.proofs.CarryLaws.{carries_unserved, carries_unseated, carries_seated, cause_client}
use Rattle.sq_turns.proofs.GoesLaws.{was_told}
use Rattle.sq_turns.proofs.OwnReplyLaws.{tells_as}
use Rattle.sq_turns.proofs.carrying.carry.Goals as goal

pub returns-then-not-is_served-clause-told : goal.returns-then-not-is_served-clause-told
returns-then-not-is_served-clause-told g c =
    carries_unserved c.args.request.now.sent.now c.args.request.now.addr c.args.request.now.plan
    c.args.request.now.judged.now
    (sym c.is_served.ensures ∙ c.if-not-is_served.true)
    (tells_as NotImplemented c.is_head.result _ c.is_head.ensures c.say.ensures.tells)
    (g.met.F.Meter.capped c.args.front.now)

pub returns-then-not-is_served-clause-cause : goal.returns-then-not-is_served-clause-cause
returns-then-not-is_served-clause-cause g c = cause_client _ _ _ c.say.result c.say.ensures.cause

pub returns-then-not-is_served-clause-dialled : goal.returns-then-not-is_served-clause-dialled
returns-then-not-is_served-clause-dialled g c = was_told _

pub returns-then-not-is_served-clause-calls : goal.returns-then-not-is_served-clause-calls
returns-then-not-is_served-clause-calls g c = inl refl

pub returns-in-Err-Spent-clause-told : goal.returns-in-Err-Spent-clause-told
returns-in-Err-Spent-clause-told g c =
    carries_unseated c.args.request.now.sent.now c.args.request.now.addr c.args.request.now.plan
    c.args.request.now.judged.now
    (OfSit c.args.request.now.judged.now (Err sit.Spent) ∷ []) Inner (sym c.is_served.ensures
    ∙ c.if-not-is_served.false)
    (λ rest. refl) refl
    (subst (λ e. (list : List FrontAnswer) → g.F.Front.stands c.args.front.now list
    → g.F.Front.stands c.sit.new.self (list ++ OfSit c.args.request.now.judged.now (Err e) ∷ []))
    c.in-Err-Spent.field-0-is
    c.in-Err-Spent.ensures.told)
    (tells_as Inner c.is_head-in-Err-Spent.result _ c.is_head-in-Err-Spent.ensures c.say-in-Err-Spent.ensures.tells)
    (g.met.F.Meter.capped c.args.front.now) c.in-Err-Spent.ensures.granted

pub returns-in-Err-Spent-clause-cause : goal.returns-in-Err-Spent-clause-cause
returns-in-Err-Spent-clause-cause g c = cause_client _ _ _ c.say-in-Err-Spent.result c.say-in-Err-Spent.ensures.cause

pub returns-in-Err-Spent-clause-dialled : goal.returns-in-Err-Spent-clause-dialled
returns-in-Err-Spent-clause-dialled g c = was_told _

pub returns-in-Err-Spent-clause-calls : goal.returns-in-Err-Spent-clause-calls
returns-in-Err-Spent-clause-calls g c = inl refl

pub returns-in-Err-WantOfMemory-clause-told : goal.returns-in-Err-WantOfMemory-clause-told
returns-in-Err-WantOfMemory-clause-told g c =
    carries_unseated c.args.request.now.sent.now c.args.request.now.addr c.args.request.now.plan
    c.args.request.now.judged.now
    (OfSit c.args.request.now.judged.now (Err sit.WantOfMemory) ∷ []) NoMemory (sym c.is_served.ensures
    ∙ c.if-not-is_served.false)
    (λ rest. refl) refl
    (subst (λ e. (list : List FrontAnswer) → g.F.Front.stands c.args.front.now list
    → g.F.Front.stands c.sit.new.self (list ++ OfSit c.args.request.now.judged.now (Err e) ∷ []))
    c.in-Err-WantOfMemory.field-0-is
    c.in-Err-WantOfMemory.ensures.told)
    (tells_as NoMemory c.is_head-in-Err-WantOfMemory.result _ c.is_head-in-Err-WantOfMemory.ensures
    c.say-in-Err-WantOfMemory.ensures.tells) (g.met.F.Meter.capped c.args.front.now)
    c.in-Err-WantOfMemory.ensures.granted

pub returns-in-Err-WantOfMemory-clause-cause : goal.returns-in-Err-WantOfMemory-clause-cause
returns-in-Err-WantOfMemory-clause-cause g c = cause_client _ _ _ c.say-in-Err-WantOfMemory.result
    c.say-in-Err-WantOfMemory.ensures.cause

pub returns-in-Err-WantOfMemory-clause-dialled : goal.returns-in-Err-WantOfMemory-clause-dialled
returns-in-Err-WantOfMemory-clause-dialled g c = was_told _

pub returns-in-Err-WantOfMemory-clause-calls : goal.returns-in-Err-WantOfMemory-clause-calls
returns-in-Err-WantOfMemory-clause-calls g c = inl refl

pub returns-clause-told : goal.returns-clause-told
returns-clause-told g c =
    carries_seated c.args.request.now.sent.now c.args.request.now.addr c.args.request.now.plan
    c.args.request.now.judged.now _
    (sym c.is_served.ensures ∙ c.if-not-is_served.false) c.in-Ok.ensures.seated c.in-Ok.ensures.granted
    (sym c.rise.ensures.granted)
    (λ list s. c.rise.ensures.told _
    (g.met.F.Front.stands_besides c.sit.new.self c.reach-carried.new.meter (sym c.reach-carried.ensures.besides) _
    (c.in-Ok.ensures.told list s))) c.reach-carried.ensures.told

pub returns-clause-calls : goal.returns-clause-calls
returns-clause-calls g c = inr c.reach-carried.ensures.calls

pub returns-clause-number : goal.returns-clause-number
returns-clause-number g c = c.rise.ensures.number
    ∙ g.met.F.Front.number_besides c.reach-carried.new.meter c.sit.new.self c.reach-carried.ensures.besides
    ∙ c.in-Ok.ensures.number

pub returns-clause-asked : goal.returns-clause-asked
returns-clause-asked g c = c.rise.ensures.asked
    ∙ g.met.F.Front.asked_besides c.reach-carried.new.meter c.sit.new.self c.reach-carried.ensures.besides
    ∙ c.in-Ok.ensures.asked
