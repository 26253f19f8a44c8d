-- A verdict, put together.
use Rattle.std.proofs.Common.{◌≡◌, ◌⊎◌, inl, subst, ℕ, List, [], ◌∷◌, ◌++◌, Bool, true, false, if◌then◌else◌, Result, Ok, Err, refl, sym, ◌∙◌}
use Rattle.sq_base.specs.Addresses.{Address}
use Rattle.sq_base.specs.Requests.{HttpRequest}
use Rattle.sq_base.specs.declared.plans.BodyPlan.{BodyPlan}
use Rattle.sq_checks.specs.Records.{Judged}
use Rattle.sq_message.specs.BodyPlans.{request_plan}
use Rattle.sq_message.specs.OwnReplies.{error_text}
use Rattle.sq_message.specs.declared.faults.BadBody.{BadBody}
use Rattle.sq_message.specs.declared.own.Own.{Own}
use Rattle.sq_message.specs.declared.own.Own.TheVariants.{BadRequest, HeadTooLarge, Inner, Stopped, NoMemory}
use Rattle.sq_turns.specs.Begins.{fits_hosts}
use Rattle.sq_turns.specs.Fronts.{FrontAnswer, OfDecide, Decides}
use Rattle.sq_turns.specs.Steps.{EndHasCause, dry_after, front_seen}
use Rattle.sq_turns.specs.Turns.{NoOrigin, asked, body_own, is_head, judged, says, turn}
use Rattle.sq_turns.specs.Verdicts.{HasVerdict, LacksVerdict, heard_of, plan_of, plan_or_own, record_of}
use Rattle.sq_turns.specs.declared.beginning.Begun.{Begun}
use Rattle.sq_turns.specs.declared.beginning.Begun.TheVariants as begun
use Rattle.sq_turns.specs.declared.beginning.Heard.TheVariants as heard
use Rattle.sq_turns.specs.declared.ends.Carried.{Carried}
use Rattle.sq_turns.specs.declared.ends.Carried.TheVariants.{Stays, Closes, Over}
use Rattle.sq_turns.specs.declared.ends.End.TheVariants as end
use Rattle.sq_turns.specs.declared.front.Decided.{Decided}
use Rattle.sq_turns.specs.declared.front.Decided.TheVariants as decided
use Rattle.sq_turns.proofs.CarryLaws.{asked_judged, none_behind}
use Rattle.sq_turns.proofs.GoesLaws.{own_turn}
use Rattle.sq_turns.proofs.TurnLaws.{told_none}

-- a plan

plan_parts : (b : Bool) (q : Result BodyPlan BadBody) (p : BodyPlan)
    → (if b then plan_or_own q else Err BadRequest) ≡ Ok p → (b ≡ true) × (q ≡ Ok p)
plan_parts true (Ok plan) p e = (refl, cc)
plan_parts true (Err bad) p e = absurd (cc)
plan_parts false q p e = absurd (cc)

planned : (r : HttpRequest) (p : BodyPlan) → plan_of r ≡ Ok p → (fits_hosts r ≡ true) × (request_plan r ≡ Ok p)
planned r p e = plan_parts (fits_hosts r) (request_plan r) p e

refused_by : (r : HttpRequest) (addr : Address) (rest : List ℕ) (own : Own) (b : Bool) (q : Result BodyPlan BadBody)
    → fits_hosts r ≡ b → request_plan r ≡ q → (if b then plan_or_own q else Err BadRequest) ≡ Err own
    → asked r addr rest [] NoOrigin ≡ says own (is_head r) []
refused_by r addr rest own true (Ok plan) e f g = absurd (cc)
refused_by r addr rest own true (Err bad) e f g = let same : own ≡ body_own bad = cc in rw (e, f, same) refl
refused_by r addr rest own false q e f g = let same : own ≡ BadRequest = cc in rw (e, same) refl

-- a request that the front is not asked about
pub unasked : {stood : List FrontAnswer → Type 0} (r : HttpRequest) (own : Own) → plan_of r ≡ Err own
    → LacksVerdict r (front_seen stood stood) own
unasked {stood} r own e = record {
  answers = [];
  judges = tt;
  told = told_none stood;
  turn = λ addr rest. refused_by r addr rest own (fits_hosts r) (request_plan r) refl refl e;
}

-- a record
pub recorded_by : {stood stands : List FrontAnswer → Type 0} (r : HttpRequest) (p : BodyPlan) (said : Decided)
    (j : Judged) → plan_of r ≡ Ok p → record_of said ≡ Ok j → Decides r said
    → ((list : List FrontAnswer) → stood list → stands (list ++ OfDecide r said ∷ []))
    → HasVerdict r (front_seen stood stands) j p
recorded_by r p (decided.Record k) j e f same told =
    let plan = planned r p e in
    let is : j ≡ k = cc in
    rw is (record { hosts = plan.0; planned = plan.1; same = same; told = told })
recorded_by r p (decided.Mismatch other) j e f same told = absurd (cc)
recorded_by r p (decided.Refused why) j e f same told = absurd (cc)
recorded_by r p decided.JournalFault j e f same told = absurd (cc)
recorded_by r p decided.WantOfMemory j e f same told = absurd (cc)

-- an answer that is none
unjudged_says : (r : HttpRequest) (addr : Address) (p : BodyPlan) (rest : List ℕ) (said : Decided) (own : Own)
    → record_of said ≡ Err own → judged r addr p rest (OfDecide r said ∷ []) NoOrigin ≡ says own (is_head r) []
unjudged_says r addr p rest (decided.Record j) own f = absurd (cc)
unjudged_says r addr p rest (decided.Mismatch other) own f = let is : own ≡ Inner = cc in rw is refl
unjudged_says r addr p rest (decided.Refused why) own f = let is : own ≡ Inner = cc in rw is refl
unjudged_says r addr p rest decided.JournalFault own f = let is : own ≡ Stopped = cc in rw is refl
unjudged_says r addr p rest decided.WantOfMemory own f = let is : own ≡ NoMemory = cc in rw is refl

pub unrecorded : {stood stands : List FrontAnswer → Type 0} (r : HttpRequest) (p : BodyPlan) (said : Decided)
    (own : Own) → plan_of r ≡ Ok p → record_of said ≡ Err own → Decides r said
    → ((list : List FrontAnswer) → stood list → stands (list ++ OfDecide r said ∷ []))
    → LacksVerdict r (front_seen stood stands) own
unrecorded r p said own e f judges told =
    let plan = planned r p e in
    record {
      answers = OfDecide r said ∷ [];
      judges = (refl, judges, none_behind said);
      told = told;
      turn = λ addr rest.
          sym (asked_judged r addr p rest (OfDecide r said ∷ []) NoOrigin plan.0 plan.1)
          ∙ unjudged_says r addr p rest said own f;
    }

-- what an input begins with

pub asks_heard : (b : Begun) (r : HttpRequest) → heard_of b ≡ heard.Asks r → b ≡ begun.Asks r
asks_heard (begun.Asks q) r e = cc
asks_heard begun.Nothing r e = absurd (cc)
asks_heard begun.Cut r e = absurd (cc)
asks_heard begun.TooLarge r e = absurd (cc)
asks_heard begun.Bad r e = absurd (cc)
asks_heard begun.Failed r e = absurd (cc)
asks_heard begun.WantOfMemory r e = absurd (cc)

-- the client is told why
pub refused_turn : (addr : Address) (rest : List ℕ) (begun : Begun) (own : Own) → heard_of begun ≡ heard.Refused own
    → turn addr begun rest [] NoOrigin ≡ own_turn (error_text own false) [] [] Closes
refused_turn addr rest (begun.Asks r) own e = absurd (cc)
refused_turn addr rest begun.Nothing own e = absurd (cc)
refused_turn addr rest begun.Cut own e = absurd (cc)
refused_turn addr rest begun.TooLarge own e = let same : own ≡ HeadTooLarge = cc in rw same refl
refused_turn addr rest begun.Bad own e = let same : own ≡ BadRequest = cc in rw same refl
refused_turn addr rest begun.Failed own e = absurd (cc)
refused_turn addr rest begun.WantOfMemory own e = let same : own ≡ NoMemory = cc in rw same refl

-- or is told nothing
pub record EndsSilent (addr : Address) (begun : Begun) (ended : Carried) : Type 0 where
  pub turn_is : (rest : List ℕ) → turn addr begun rest [] NoOrigin ≡ own_turn [] [] [] ended
  pub goes : ended ≡ Stays → ⊥
  pub here : ended ≡ Over end.OriginFault → ⊥
  pub dry : dry_after ended ≡ 0

pub silent_ends : (addr : Address) (begun : Begun) (ended : Carried) → heard_of begun ≡ heard.Silent ended
    → EndsSilent addr begun ended
silent_ends addr (begun.Asks r) ended e = absurd (cc)
silent_ends addr begun.Nothing ended e =
    let same : ended ≡ Closes = cc in
    subst (EndsSilent addr begun.Nothing) (sym same) (record {
      turn_is = λ rest. refl;
      goes = λ s. cc;
      here = λ s. cc;
      dry = refl;
    })
silent_ends addr begun.Cut ended e =
    let same : ended ≡ Over end.Cut = cc in
    subst (EndsSilent addr begun.Cut) (sym same) (record {
      turn_is = λ rest. refl;
      goes = λ s. cc;
      here = λ s. cc;
      dry = refl;
    })
silent_ends addr begun.TooLarge ended e = absurd (cc)
silent_ends addr begun.Bad ended e = absurd (cc)
silent_ends addr begun.Failed ended e =
    let same : ended ≡ Over end.ClientFault = cc in
    subst (EndsSilent addr begun.Failed) (sym same) (record {
      turn_is = λ rest. refl;
      goes = λ s. cc;
      here = λ s. cc;
      dry = refl;
    })
silent_ends addr begun.WantOfMemory ended e = absurd (cc)

pub silent_cause : (A B C : Type 0) (b : Begun) (ended : Carried) → heard_of b ≡ heard.Silent ended
    → (b ≡ begun.Failed → A) → EndHasCause (A ⊎ B) C ended
silent_cause A B C (begun.Asks r) ended e fails = absurd (cc)
silent_cause A B C begun.Nothing ended e fails =
    let same : ended ≡ Closes = cc in subst (EndHasCause (A ⊎ B) C) (sym same) tt
silent_cause A B C begun.Cut ended e fails =
    let same : ended ≡ Over end.Cut = cc in subst (EndHasCause (A ⊎ B) C) (sym same) tt
silent_cause A B C begun.TooLarge ended e fails = absurd (cc)
silent_cause A B C begun.Bad ended e fails = absurd (cc)
silent_cause A B C begun.Failed ended e fails =
    let same : ended ≡ Over end.ClientFault = cc in subst (EndHasCause (A ⊎ B) C) (sym same) (inl (fails refl))
silent_cause A B C begun.WantOfMemory ended e fails = absurd (cc)
