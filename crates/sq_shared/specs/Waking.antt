-- Who is to be woken by a call of a desk behind its lock.
use Rattle.std.specs.Prelude.{◌+◌, ◌%◌, ◌^◌, ◌==◌, ◌++◌, ◌∷◌, [], ℕ, List, Bool, true, false, not, ◌&&◌, if◌then◌else◌, is_none, nat_lt, None, Result, Ok, Err}
use Rattle.std.specs.List.{filter, list_any, position}
use Rattle.std.specs.declared.option.Option.{Option}
use Rattle.sq_calls.specs.declared.faults.DeskFault.{DeskFault}
use Rattle.sq_channel.specs.declared.replies.Got.{Got}
use Rattle.sq_channel.specs.declared.replies.Got.TheVariants as got
use Rattle.sq_model.specs.declared.stepping.Stepped.{Stepped}
use Rattle.sq_model.specs.declared.stepping.Stepped.TheVariants as stepped
use Rattle.sq_shared.specs.declared.wait_queues.WaitQueue.{WaitQueue}

-- a count that goes round at 2^64
abbrev pub one_more : ℕ → ℕ
one_more n = (n + 1) % 2 ^ 64

abbrev pub raised_if : Bool → ℕ → ℕ
raised_if due n = if due then one_more n else n

-- the question is among those that are awaited
abbrev pub is_awaited : ℕ → List ℕ → Bool
is_awaited question questions = list_any (λ n. n == question) questions

abbrev pub with_question : ℕ → List ℕ → List ℕ
with_question question questions = if is_awaited question questions then questions else questions
    ++ question ∷ []

abbrev pub without_question : ℕ → List ℕ → List ℕ
without_question question questions = filter (λ n. not (n == question)) questions

-- a step may have put a question, for its check or to refresh a kept answer
abbrev pub may_ask : Result Stepped DeskFault → Bool
may_ask (Ok (stepped.Took class)) = true
may_ask (Ok (stepped.Waits question)) = true
may_ask (Ok stepped.Done) = false
may_ask (Err f) = false

-- what is awaited after a step: its question too, where it said to wait
abbrev pub after_step : Result Stepped DeskFault → List ℕ → List ℕ
after_step (Ok (stepped.Took class)) questions = questions
after_step (Ok (stepped.Waits question)) questions = with_question question questions
after_step (Ok stepped.Done) questions = questions
after_step (Err f) questions = questions

-- what is awaited after a line: not the question that it replied to, and none where it ends a
-- process
abbrev pub after_line : Result Got DeskFault → List ℕ → List ℕ
after_line (Ok (got.Reply question reply)) questions = without_question question questions
after_line (Ok got.Bad) questions = []
after_line (Ok got.Stray) questions = []
after_line (Err f) questions = questions

-- the epoch that is current after a reconfiguration: the one that it made, if it made one
abbrev pub current_after : Result ℕ DeskFault → ℕ → ℕ
current_after (Ok epoch) current = epoch
current_after (Err f) current = current

-- the oldest epoch that may live, where this is its configuration as far as it lives: the next one,
-- where it lives no more and is not current
abbrev pub oldest_after : {C : Type 0} → Option C → ℕ → ℕ → ℕ
oldest_after lives oldest current = if nat_lt oldest current && is_none lives then oldest + 1
    else oldest

-- sessions sleep here
abbrev pub has_waiters : WaitQueue → Bool
has_waiters queue = nat_lt 0 queue.length

-- sessions sleep here that wait for this question
abbrev pub is_for : ℕ → WaitQueue → Bool
is_for question queue = has_waiters queue && queue.question == question

-- the place at which sessions sleep that wait for this question
abbrev pub place_of : ℕ → List WaitQueue → Option ℕ
place_of question queues = position (is_for question) queues

-- the place of those who wait for the question that a line replied to
abbrev pub place_after : Result Got DeskFault → List WaitQueue → Option ℕ
place_after (Ok (got.Reply question reply)) queues = place_of question queues
place_after (Ok got.Bad) queues = None
place_after (Ok got.Stray) queues = None
place_after (Err f) queues = None

-- the question for which a step says to wait, or 0
abbrev pub number_told : Result Stepped DeskFault → ℕ
number_told (Ok (stepped.Took class)) = 0
number_told (Ok (stepped.Waits question)) = question
number_told (Ok stepped.Done) = 0
number_told (Err f) = 0
