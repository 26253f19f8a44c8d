-- The verdict on a connection, on what its input begins with, and on a request.
use Rattle.std.specs.Prelude.{◌≡◌, ℕ, List, [], ◌∷◌, ◌++◌, true, if◌then◌else◌, Some, None, Ok, Err}
use Rattle.std.specs.declared.option.Option.{Option}
use Rattle.std.specs.declared.result.Result.{Result}
use Rattle.sq_base.specs.Addresses.{Address}
use Rattle.sq_base.specs.Requests.{HttpRequest}
use Rattle.sq_base.specs.declared.plans.BodyPlan.{BodyPlan}
use Rattle.sq_checks.specs.Records.{Judged}
use Rattle.sq_message.specs.BodyPlans.{request_plan}
use Rattle.sq_message.specs.declared.faults.BadBody.{BadBody}
use Rattle.sq_message.specs.declared.own.Own.{Own}
use Rattle.sq_message.specs.declared.own.Own.TheVariants.{BadRequest, HeadTooLarge, Inner, Stopped, NoMemory, TooManyConns}
use Rattle.sq_turns.specs.Begins.{fits_hosts}
use Rattle.sq_turns.specs.Fronts.{FrontAnswer, OfDecide}
use Rattle.sq_turns.specs.Sessions.{JudgesOf}
use Rattle.sq_turns.specs.Steps.{FrontSeen}
use Rattle.sq_turns.specs.Turns.{NoOrigin, asked, body_own, is_head, says}
use Rattle.sq_turns.specs.declared.beginning.Begun.{Begun}
use Rattle.sq_turns.specs.declared.beginning.Begun.TheVariants as begun
use Rattle.sq_turns.specs.declared.beginning.Heard.{Heard}
use Rattle.sq_turns.specs.declared.beginning.Heard.TheVariants as heard
use Rattle.sq_turns.specs.declared.ends.Carried.TheVariants.{Closes, Over}
use Rattle.sq_turns.specs.declared.ends.End.TheVariants as end
use Rattle.sq_turns.specs.declared.front.Opened.{Opened}
use Rattle.sq_turns.specs.declared.front.Opened.TheVariants as opened
use Rattle.sq_turns.specs.declared.front.Decided.{Decided}
use Rattle.sq_turns.specs.declared.front.Decided.TheVariants as decided

-- the reply to a connection that is not opened
abbrev pub refusal_of : Opened → Option Own
refusal_of opened.In = None
refusal_of opened.Full = Some TooManyConns
refusal_of (opened.Refused why) = Some Inner
refusal_of opened.JournalFault = Some Stopped
refusal_of opened.WantOfMemory = Some NoMemory

-- what becomes of what an input begins with
abbrev pub heard_of : Begun → Heard
heard_of (begun.Asks r) = heard.Asks r
heard_of begun.Nothing = heard.Silent Closes
heard_of begun.Cut = heard.Silent (Over end.Cut)
heard_of begun.TooLarge = heard.Refused HeadTooLarge
heard_of begun.Bad = heard.Refused BadRequest
heard_of begun.Failed = heard.Silent (Over end.ClientFault)
heard_of begun.WantOfMemory = heard.Refused NoMemory

-- the plan of a request's body, or the reply to a request that the front is not asked about
abbrev pub plan_or_own : Result BodyPlan BadBody → Result BodyPlan Own
plan_or_own (Ok plan) = Ok plan
plan_or_own (Err bad) = Err (body_own bad)

abbrev pub plan_of : HttpRequest → Result BodyPlan Own
plan_of r = if fits_hosts r then plan_or_own (request_plan r) else Err BadRequest

-- the record of a check, or the reply to a request that has none
abbrev pub record_of : Decided → Result Judged Own
record_of (decided.Record j) = Ok j
record_of (decided.Mismatch other) = Err Inner
record_of (decided.Refused why) = Err Inner
record_of decided.JournalFault = Err Stopped
record_of decided.WantOfMemory = Err NoMemory

-- the check of a request is over
pub record HasVerdict (r : HttpRequest) (front : FrontSeen) (j : Judged)
    (plan : BodyPlan) : Type 0 where
  pub hosts : fits_hosts r ≡ true
  pub planned : request_plan r ≡ Ok plan
  pub same : j.sight.request ≡ r
  pub told : (list : List FrontAnswer) → front.stood list
      → front.stands (list ++ OfDecide r (decided.Record j) ∷ [])

-- it has none, and its client hears this
pub record LacksVerdict (r : HttpRequest) (front : FrontSeen) (own : Own) : Type 0 where
  pub answers : List FrontAnswer
  pub judges : JudgesOf r answers
  pub told : (list : List FrontAnswer) → front.stood list → front.stands (list ++ answers)
  pub turn : (addr : Address) (rest : List ℕ)
      → asked r addr rest answers NoOrigin ≡ says own (is_head r) []

abbrev pub Settles : HttpRequest → FrontSeen → Result (Judged × BodyPlan) Own → Type 0
Settles r front (Ok v) = HasVerdict r front v.0 v.1
Settles r front (Err own) = LacksVerdict r front own
