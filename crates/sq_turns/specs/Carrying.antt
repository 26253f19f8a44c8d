-- What follows an allowed verdict.
use Rattle.std.specs.Prelude.{◌≡◌, ℕ, List, [], ◌∷◌, ◌++◌, Bool, true, false, ◌&&◌, Ok, Err}
use Rattle.sq_base.specs.Requests.{HttpRequest}
use Rattle.sq_checks.specs.Records.{Judged}
use Rattle.sq_forward.specs.Exchanges.{Message}
use Rattle.sq_outside.specs.Dials.{Dialled}
use Rattle.sq_turns.specs.Fronts.{FrontAnswer, OfOpen, OfDecide, OfRewrite, OfSit, OfClose, SitsFor, takes_seat}
use Rattle.sq_turns.specs.Steps.{FrontSeen, TurnSeen, Goes}
use Rattle.sq_turns.specs.Turns.{access_of, is_connect, carried, recorded}
use Rattle.sq_turns.specs.declared.ends.Carried.{Carried}

-- method, version and fields are the same
pub record IsSameMessage (sent judged : HttpRequest) : Type 0 where
  pub method : sent.method ≡ judged.method
  pub minor : sent.minor ≡ judged.minor
  pub fields : sent.fields ≡ judged.fields

-- a seat was given, if there was a pool; an answer of the rewriter may come before
abbrev pub sat : List FrontAnswer → Bool
sat (OfRewrite j said ∷ more) = sat more
sat (OfSit k (Ok u) ∷ more) = true
sat (OfSit k (Err e) ∷ more) = false
sat (OfDecide r d ∷ more) = false
sat (OfOpen a port o ∷ more) = false
sat (OfClose c ∷ more) = false
sat [] = false

-- the part of a turn from the scheme on, with the answers that the front gave in it
pub record Carries (sent : Message) (rest : List ℕ) (j : Judged) (front : FrontSeen)
    (links : TurnSeen) (dialled_now : Dialled) (failed : Type 0) (ended : Carried) : Type 0 where
  pub answers : List FrontAnswer
  pub told : (list : List FrontAnswer) → front.stood list → front.stands (list ++ answers)
  pub sits : SitsFor j answers
  pub goes : Goes (is_connect sent.request)
      (carried (access_of j) sent.request sent.addr sent.plan rest answers) []
      (takes_seat j && sat answers) links dialled_now failed ended

-- the part of a turn from the record on
pub record Obeys (sent : Message) (rest : List ℕ) (j : Judged) (front : FrontSeen)
    (links : TurnSeen) (dialled_now : Dialled) (failed : Type 0) (ended : Carried) : Type 0 where
  pub answers : List FrontAnswer
  pub told : (list : List FrontAnswer) → front.stood list → front.stands (list ++ answers)
  pub sits : SitsFor j answers
  pub goes : Goes (is_connect sent.request)
      (recorded sent.request sent.addr sent.plan rest j answers) []
      (takes_seat j && sat answers) links dialled_now failed ended
