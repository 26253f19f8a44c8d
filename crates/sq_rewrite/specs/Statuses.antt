-- What becomes of each question of a rewriter, told by the calls alone: it waits from its asking,
-- it is at a process from its send, it ends once, by the reply or by what took it its process, and
-- then it is taken.
use Rattle.std.specs.Prelude.{◌≡◌, ℕ, suc, ◌-◌, List, [], ◌∷◌, Bool, true, false, ◌&&◌, if◌then◌else◌, ◌==◌, Some}
use Rattle.sq_base.specs.Addresses.{Address}
use Rattle.sq_base.specs.Requests.{HttpRequest}
use Rattle.sq_base.specs.declared.helpers.Cause.{Cause}
use Rattle.sq_base.specs.declared.helpers.Cause.TheVariants as cause
use Rattle.sq_base.specs.declared.helpers.Reply.{Reply}
use Rattle.sq_channel.specs.declared.replies.Got.{Got}
use Rattle.sq_channel.specs.declared.replies.Got.TheVariants as got
use Rattle.sq_rewrite.specs.Calls.{Call, Calls, Asked, Acted, Started, StartFailed, Wrote, Died, Took}
use Rattle.sq_rewrite.specs.Rewritings.{question_text, rewriting_of}
use Rattle.sq_rewrite.specs.declared.acts.RewriteAct.{RewriteAct}
use Rattle.sq_rewrite.specs.declared.acts.RewriteAct.TheVariants as act
use Rattle.sq_rewrite.specs.declared.rewritings.Rewriting.{Rewriting}
use Rattle.sq_rewrite.specs.declared.rewritings.Rewriting.TheVariants as rewriting

pub data Status : Type 0 where
  -- it was not asked
  Unasked : Status
  -- it is about this request of a client with this address, and was not sent
  Waits : HttpRequest → Address → Status
  -- it is about this request, and was sent to this process
  IsAt : HttpRequest → ℕ → Status
  -- it came to this
  HasEnded : Rewriting → Status
  IsTaken : Status

abbrev pub once_sent : ℕ → Status → Status
once_sent k Unasked = Unasked
once_sent k (Waits r addr) = IsAt r k
once_sent k (IsAt r p) = IsAt r p
once_sent k (HasEnded w) = HasEnded w
once_sent k IsTaken = IsTaken

-- an act changes the status of the question that it sends
abbrev pub once_acted : ℕ → RewriteAct → Status → Status
once_acted q (act.Send k p channel text) st = if q == p then once_sent k st else st
once_acted q (act.Stop k) st = st
once_acted q act.Start st = st

-- a reply of process k ends a question that was sent to it: it comes to what the reply makes of its
-- request
abbrev pub once_replied : ℕ → Reply → Status → Status
once_replied k reply Unasked = Unasked
once_replied k reply (Waits r addr) = Waits r addr
once_replied k reply (IsAt r p) = if k == p then HasEnded (rewriting_of reply r) else IsAt r p
once_replied k reply (HasEnded w) = HasEnded w
once_replied k reply IsTaken = IsTaken

-- the end of process k ends the questions that were sent to it
abbrev pub once_lost : ℕ → Cause → Status → Status
once_lost k c Unasked = Unasked
once_lost k c (Waits r addr) = Waits r addr
once_lost k c (IsAt r p) = if k == p then HasEnded (rewriting.Same (Some c)) else IsAt r p
once_lost k c (HasEnded w) = HasEnded w
once_lost k c IsTaken = IsTaken

abbrev pub once_written : ℕ → ℕ → Got → Status → Status
once_written q k (got.Reply p reply) st = if q == p then once_replied k reply st else st
once_written q k got.Bad st = once_lost k cause.BadReply st
once_written q k got.Stray st = once_lost k cause.Stray st

-- a failed start, after which no process lives or starts, ends the questions that were not sent
abbrev pub once_failed : Bool → Status → Status
once_failed last Unasked = Unasked
once_failed last (Waits r addr) = if last then HasEnded (rewriting.Same (Some cause.NoHelper))
    else Waits r addr
once_failed last (IsAt r p) = IsAt r p
once_failed last (HasEnded w) = HasEnded w
once_failed last IsTaken = IsTaken

-- how many processes live
abbrev pub living_count : Calls → ℕ
living_count [] = 0
living_count (Asked r addr q ∷ h) = living_count h
living_count (Acted a ∷ h) = living_count h
living_count (Started k ∷ h) = suc (living_count h)
living_count (StartFailed ∷ h) = living_count h
living_count (Wrote k line (got.Reply q reply) ∷ h) = living_count h
living_count (Wrote k line got.Bad ∷ h) = living_count h - 1
living_count (Wrote k line got.Stray ∷ h) = living_count h - 1
living_count (Died k ∷ h) = living_count h - 1
living_count (Took q w ∷ h) = living_count h

-- how many starts are open
abbrev pub starts_open : Calls → ℕ
starts_open [] = 0
starts_open (Asked r addr q ∷ h) = starts_open h
starts_open (Acted act.Start ∷ h) = suc (starts_open h)
starts_open (Acted (act.Stop k) ∷ h) = starts_open h
starts_open (Acted (act.Send k q channel text) ∷ h) = starts_open h
starts_open (Started k ∷ h) = starts_open h - 1
starts_open (StartFailed ∷ h) = starts_open h - 1
starts_open (Wrote k line g ∷ h) = starts_open h
starts_open (Died k ∷ h) = starts_open h
starts_open (Took q w ∷ h) = starts_open h

-- no process lives, and one start is open
abbrev pub is_last_open : Calls → Bool
is_last_open h = living_count h == 0 && starts_open h == 1

-- the status of question q after a call; `last` says that no process lives, and that one start is
-- open
abbrev pub once : Bool → ℕ → Call → Status → Status
once last q (Asked r addr p) st = if q == p then Waits r addr else st
once last q (Acted a) st = once_acted q a st
once last q (Started k) st = st
once last q StartFailed st = once_failed last st
once last q (Wrote k line g) st = once_written q k g st
once last q (Died k) st = once_lost k cause.Died st
once last q (Took p w) st = if q == p then IsTaken else st

-- the status of a question after some calls
abbrev pub status : Calls → ℕ → Status
status [] q = Unasked
status (e ∷ h) q = once (is_last_open h) q e (status h q)

-- the question was asked, and was not taken
abbrev pub is_known : Status → Bool
is_known Unasked = false
is_known (Waits r addr) = true
is_known (IsAt r k) = true
is_known (HasEnded w) = true
is_known IsTaken = false

-- a question waits, and this is its text
pub record WaitsWith (text : List ℕ) (st : Status) : Type 0 where
  pub request : HttpRequest
  pub addr : Address
  pub waits : st ≡ Waits request addr
  pub text_is : text ≡ question_text request addr

-- a question was sent to process k, and has not ended
pub record IsAtProcess (k : ℕ) (st : Status) : Type 0 where
  pub request : HttpRequest
  pub is_at : st ≡ IsAt request k

abbrev pub is_send : ℕ → RewriteAct → Bool
is_send q (act.Send k p channel text) = q == p
is_send q (act.Stop k) = false
is_send q act.Start = false

-- how often the question was sent
abbrev pub times_sent : ℕ → Calls → ℕ
times_sent q [] = 0
times_sent q (Asked r addr p ∷ h) = times_sent q h
times_sent q (Acted a ∷ h) = if is_send q a then suc (times_sent q h) else times_sent q h
times_sent q (Started k ∷ h) = times_sent q h
times_sent q (StartFailed ∷ h) = times_sent q h
times_sent q (Wrote k line g ∷ h) = times_sent q h
times_sent q (Died k ∷ h) = times_sent q h
times_sent q (Took p w ∷ h) = times_sent q h

-- how often it was taken
abbrev pub times_taken : ℕ → Calls → ℕ
times_taken q [] = 0
times_taken q (Asked r addr p ∷ h) = times_taken q h
times_taken q (Acted a ∷ h) = times_taken q h
times_taken q (Started k ∷ h) = times_taken q h
times_taken q (StartFailed ∷ h) = times_taken q h
times_taken q (Wrote k line g ∷ h) = times_taken q h
times_taken q (Died k ∷ h) = times_taken q h
times_taken q (Took p w ∷ h) = if q == p then suc (times_taken q h) else times_taken q h
