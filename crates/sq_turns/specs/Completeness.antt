-- What becomes of each request of a session whose front refuses nothing.
use Rattle.std.specs.Prelude.{◌≡◌, ℕ, List, [], ◌∷◌, Bool, true, false, if◌then◌else◌, Ok, Err, IfOk, ⊤}
use Rattle.sq_base.specs.Addresses.{Address}
use Rattle.sq_base.specs.Requests.{HttpRequest}
use Rattle.sq_base.specs.declared.plans.BodyPlan.{BodyPlan}
use Rattle.sq_checks.specs.Records.{Judged}
use Rattle.sq_message.specs.BodyPlans.{request_plan}
use Rattle.sq_message.specs.declared.own.Own.TheVariants.{NotImplemented, NoMemory}
use Rattle.sq_turns.specs.Begins.{fits_hosts}
use Rattle.sq_turns.specs.Fronts.{FrontAnswer, OfOpen, OfDecide, OfRewrite, OfSit, OfClose}
use Rattle.sq_turns.specs.Sessions.{SessionStep, turn_of}
use Rattle.sq_turns.specs.Turns.{ClientTurn, Reply, access_of, denied, dialled, is_connect, is_head, is_served, redirected, says, silent}
use Rattle.sq_turns.specs.declared.beginning.Begun.{Begun}
use Rattle.sq_turns.specs.declared.beginning.Begun.TheVariants as begun
use Rattle.sq_turns.specs.declared.ends.Carried.TheVariants.{Over}
use Rattle.sq_turns.specs.declared.ends.End.TheVariants as end
use Rattle.sq_turns.specs.declared.front.Decided.TheVariants as decided
use Rattle.sq_turns.specs.declared.front.Rewritten.TheVariants as rewritten
use Rattle.sq_turns.specs.declared.front.SitFault.TheVariants as sit

-- the numbers of seats are not used up
abbrev pub is_unspent : FrontAnswer → Bool
is_unspent (OfSit j (Ok u)) = true
is_unspent (OfSit j (Err sit.Spent)) = false
is_unspent (OfSit j (Err sit.WantOfMemory)) = true
is_unspent (OfRewrite j said) = true
is_unspent (OfOpen a port o) = true
is_unspent (OfDecide r d) = true
is_unspent (OfClose c) = true

-- the request that goes on behind its record: another one where the rewriter put it in its place,
-- and for a tunnel always the request itself
abbrev pub put_by : HttpRequest → List FrontAnswer → HttpRequest
put_by r (OfRewrite j (rewritten.New new) ∷ more) = new
put_by r (OfRewrite j rewritten.Same ∷ more) = r
put_by r (OfRewrite j (rewritten.Redirect code url) ∷ more) = r
put_by r (OfRewrite j rewritten.WantOfMemory ∷ more) = r
put_by r (OfSit j s ∷ more) = r
put_by r (OfOpen a port o ∷ more) = r
put_by r (OfDecide q d ∷ more) = r
put_by r (OfClose c ∷ more) = r
put_by r [] = r

abbrev pub sent_as : HttpRequest → List FrontAnswer → HttpRequest
sent_as r more = if is_connect r then r else put_by r more

-- the turn of a request whose hosts are accepted, and whose fields give a plan of its body: it gets
-- the denial of the record that the front answered, the redirect that the rewriter answered about
-- that record, the 501 of the scheme of the request that goes on, or what the origin's bytes give
-- for that, with the fields that the configuration of the record allows; or its turn is that of no
-- memory, with the reply that says so or with none. How it ended is said by the session
pub data Completes (r : HttpRequest) (addr : Address) (p : BodyPlan) (rest : List ℕ)
    (answers : List FrontAnswer) (reply : Reply) (t : ClientTurn) : Type 0 where
  GetsDenial : (j : Judged) (more : List FrontAnswer)
      → answers ≡ OfDecide r (decided.Record j) ∷ more → j.sight.request ≡ r
      → j.outcome.allow ≡ false
      → t ≡ denied r p rest j [] → Completes r addr p rest answers reply t
  GetsRedirect : (j : Judged) (code : ℕ) (url : List ℕ)
      → answers ≡ OfDecide r (decided.Record j) ∷ (OfRewrite j (rewritten.Redirect code url) ∷ [])
      → j.sight.request ≡ r → j.outcome.allow ≡ true → is_connect r ≡ false
      → t ≡ redirected code url [] → Completes r addr p rest answers reply t
  GetsUnserved : (j : Judged) (more : List FrontAnswer)
      → answers ≡ OfDecide r (decided.Record j) ∷ more → j.sight.request ≡ r
      → j.outcome.allow ≡ true → is_served (sent_as r more) ≡ false
      → t ≡ says NotImplemented (is_head (sent_as r more)) []
      → Completes r addr p rest answers reply t
  GetsReply : (j : Judged) (more : List FrontAnswer)
      → answers ≡ OfDecide r (decided.Record j) ∷ more → j.sight.request ≡ r
      → j.outcome.allow ≡ true → is_served (sent_as r more) ≡ true
      → t ≡ dialled (access_of j) (sent_as r more) addr p rest [] reply
      → Completes r addr p rest answers reply t
  HasNoMemory : t ≡ says NoMemory (is_head r) [] → Completes r addr p rest answers reply t
  HasNone : t ≡ silent (Over end.WantOfMemory) [] → Completes r addr p rest answers reply t

-- the same of what an input begins with, where that is such a request
abbrev pub CompletesBegun : Address → Begun → List ℕ → List FrontAnswer → Reply → ClientTurn
    → Type 0
CompletesBegun addr (begun.Asks r) rest answers reply t = fits_hosts r ≡ true
    → IfOk (request_plan r) (λ p. Completes r addr p rest answers reply t)
CompletesBegun addr begun.Nothing rest answers reply t = ⊤
CompletesBegun addr begun.Cut rest answers reply t = ⊤
CompletesBegun addr begun.TooLarge rest answers reply t = ⊤
CompletesBegun addr begun.Bad rest answers reply t = ⊤
CompletesBegun addr begun.Failed rest answers reply t = ⊤
CompletesBegun addr begun.WantOfMemory rest answers reply t = ⊤

-- and of each step of a session
abbrev pub EachCompletes : Address → List SessionStep → Type 0
EachCompletes addr [] = ⊤
EachCompletes addr (s ∷ ss) = CompletesBegun addr s.begun s.rest s.answers s.reply (turn_of addr s)
    × EachCompletes addr ss
