-- In the statement: docs/STATEMENT.md lists which definitions.
-- What the machine answers next, and which of its histories are legal.
use Rattle.std.specs.Prelude.{◌≡◌, ℕ, ◌≤◌, suc, List, [], ◌∷◌, Bool, true, false, not, ◌&&◌, ◌==◌, nat_le, Some, None, is_some, is_none, if◌then◌else◌}
use Rattle.std.specs.Option.{option_map_or}
use Rattle.std.specs.declared.option.Option.{Option}
use Rattle.sq_base.specs.declared.helpers.Answer.{Answer}
use Rattle.sq_machine.specs.declared.entries.Event.{Event}
use Rattle.sq_machine.specs.declared.entries.Event.TheVariants.{Open, Close, Ask, Step, Take, Started, StartFail, Line, Died, Act, Reconfigure, Seat, Grant, Leave}
use Rattle.sq_machine.specs.declared.entries.Told.{Told}
use Rattle.sq_machine.specs.declared.entries.Told.TheVariants as told
use Rattle.sq_rules.specs.declared.outcomes.Outcome.{Outcome}
use Rattle.sq_rules.specs.declared.outcomes.Why.TheVariants as why
use Rattle.sq_machine.specs.declared.refusals.Refusal.TheVariants as refusal
use Rattle.sq_machine.specs.AnswerReadings.{answers}
use Rattle.sq_machine.specs.Checks.{Asked, ask_count, ask_of, check_open, epoch_of, is_done, open_check}
use Rattle.sq_rules.specs.Configurations.{Configuration}
use Rattle.sq_machine.specs.Connections.{open_count, peer_at}
use Rattle.sq_machine.specs.DueActs.{next_act}
use Rattle.sq_machine.specs.Entries.{History}
use Rattle.sq_machine.specs.Epochs.{busy_epochs, channels_named, place_of_class, is_live, config_of}
use Rattle.sq_machine.specs.Limits.{conn_limit, epoch_limit, last_number}
use Rattle.sq_machine.specs.Events.{is_begin, has_target}
use Rattle.sq_machine.specs.Next.{Next, gives, nothing, refuse_if, refuse_open}
use Rattle.sq_machine.specs.Marking.{marked}
use Rattle.sq_machine.specs.Marks.{Past, entries}
use Rattle.sq_machine.specs.PoolHistories.{Addressed, Tagged, pool_history, record_place}
use Rattle.sq_machine.specs.PoolReadings.{PoolHistory, grant_of, in_use, seat_count, seat_of}
use Rattle.sq_machine.specs.Processes.{home_of, lives_on, proc_count, starting}
use Rattle.sq_machine.specs.Questions.{put_count}
use Rattle.sq_machine.specs.Readings.{counted_moment, current}
use Rattle.sq_machine.specs.StepRule.{StepSays, step_says, value_over}
use Rattle.sq_machine.specs.Transcripts.{channels_of, line_is, line_told}
use Rattle.sq_machine.specs.SeatPlaces.{pool_at}
use Rattle.sq_machine.specs.TakenRecords.{allowed_of, taken_answers}
use Rattle.sq_rules.specs.Verdicts.{outcome_so_far}

-- the outcome of a check: the verdict of its epoch's configuration over what it saw and the answers
-- that it took
abbrev pub outcome_over : List Configuration → Past → ℕ → Option Asked → Outcome
outcome_over configs m n None = record { allow = false; why = why.Empty }
outcome_over configs m n (Some a) = outcome_so_far (value_over configs a (answers configs m n))

-- a step is refused where a question would get the last number
abbrev pub step_next : ℕ → StepSays → Next
step_next count s = refuse_if (is_some s.put && nat_le last_number (suc count))
    (refusal.Spent (suc count)) (gives s.answer)

-- the epoch lives, and a start of the class is open
abbrev pub has_start : History → ℕ → List ℕ → Bool
has_start h e name = is_live h e && not (starting h e name == 0)

-- an event that names a class of its epoch
abbrev pub with_place : Option ℕ → (ℕ → Next) → Next
with_place None answer = nothing
with_place (Some place) answer = answer place

-- what the machine tells of a line of a process
abbrev pub told_of_line : List Configuration → History → ℕ → List ℕ → Told
told_of_line configs h k bytes = line_told
    (line_is (channels_of (option_map_or (λ p. channels_named configs p.epoch p.class) (home_of h k)
    0) h k) bytes)

-- what the machine answers to an act: what is due, if anything is
abbrev pub act_next : Option Told → Next
act_next None = nothing
act_next (Some t) = gives t

-- the seat of a record: in its pool, or none where it is seated nowhere
abbrev pub seat_next : ℕ → Option ℕ → Next
seat_next count None = gives told.NoSeat
seat_next count (Some pool) = refuse_if (nat_le last_number (suc count)) (refusal.Spent (suc count))
    (gives (told.Seat (suc count) pool))

-- a seat is for the record that was last taken on the connection, where it allows; it had these
-- answers
abbrev pub seat_for : List Configuration → ℕ → List Answer → Option Asked → Next
seat_for configs count answers None = nothing
seat_for configs count answers (Some a) = seat_next count
    (pool_at (record_place answers a (config_of configs a.epoch)))

-- what a seat of pools of this history is granted, if it is in use there, or else what comes of the
-- rest
abbrev pub grant_next : PoolHistory → ℕ → ℕ → ℕ → Next → Next
grant_next h now n wanted rest = if in_use h n then gives
    (told.Granted (grant_of h now wanted (seat_of h n))) else rest

-- what the machine answers to a seat that is given up, if it is in use
abbrev pub leave_next : PoolHistory → ℕ → Next → Next
leave_next h n rest = if in_use h n then gives told.Fine else rest

-- what the machine answers to an event at a moment that is none of the past
unfoldable pub next_at : List Configuration → Past → ℕ → Event → Next
next_at configs m now (Open c addr port) =
    refuse_if (is_some (peer_at (entries m) c)) (refusal.ConnInUse c)
    (refuse_if (nat_le conn_limit (open_count (entries m))) (refusal.TooManyConns conn_limit)
    (gives told.Fine))
next_at configs m now (Close c) =
    refuse_if (is_none (peer_at (entries m) c)) (refusal.UnknownConn c)
    (gives told.Fine)
next_at configs m now (Ask c method target fields) =
    refuse_if (is_none (peer_at (entries m) c)) (refusal.UnknownConn c)
    (refuse_open (open_check (entries m) c)
    (refuse_if (nat_le last_number (suc (ask_count (entries m))))
    (refusal.Spent (suc (ask_count (entries m))))
    (gives (told.Check (suc (ask_count (entries m)))))))
next_at configs m now (Step n) =
    refuse_if (not (check_open (entries m) n)) (refusal.UnknownCheck n)
    (step_next (put_count m) (step_says configs m n now))
next_at configs m now (Take n) =
    refuse_if (not (check_open (entries m) n)) (refusal.UnknownCheck n)
    (refuse_if (not (is_done (entries m) n)) (refusal.NotDone n)
    (gives (told.Judged (epoch_of (ask_of (entries m) n))
    (outcome_over configs m n (ask_of (entries m) n)))))
next_at configs m now (Started e name) =
    with_place (place_of_class configs e name) (λ place.
    refuse_if (not (has_start (entries m) e name)) (refusal.NoStartOpen e place)
    (refuse_if (nat_le last_number (suc (proc_count (entries m))))
    (refusal.Spent (suc (proc_count (entries m))))
    (gives (told.Proc (suc (proc_count (entries m)))))))
next_at configs m now (StartFail e name) =
    with_place (place_of_class configs e name) (λ place.
    refuse_if (not (has_start (entries m) e name)) (refusal.NoStartOpen e place)
    (gives told.Fine))
next_at configs m now (Line k bytes) =
    refuse_if (not (lives_on (entries m) k)) (refusal.UnknownProc k)
    (gives (told_of_line configs (entries m) k bytes))
next_at configs m now (Died k) =
    refuse_if (not (lives_on (entries m) k)) (refusal.UnknownProc k)
    (gives told.Fine)
next_at configs m now Act = act_next (next_act configs m)
next_at configs m now (Reconfigure text) =
    refuse_if (nat_le last_number (suc (current (entries m))))
    (refusal.Spent (suc (current (entries m))))
    (refuse_if (nat_le epoch_limit (busy_epochs (entries m))) (refusal.TooManyEpochs epoch_limit)
    (gives (told.Epoch (suc (current (entries m))))))
next_at configs m now (Seat c) = seat_for configs (seat_count (pool_history Addressed configs m))
    (taken_answers configs m c) (allowed_of (entries m) c)
next_at configs m now (Grant n wanted) =
    grant_next (pool_history Addressed configs m) now n wanted
    (grant_next (pool_history Tagged configs m) now n wanted nothing)
next_at configs m now (Leave n) = leave_next (pool_history Addressed configs m) n
    (leave_next (pool_history Tagged configs m) n nothing)
next_at configs m now event = nothing

-- what the machine answers to an event after this history; the moment counts as the greatest so far
unfoldable pub next : List Configuration → Past → ℕ → Event → Next
next configs m moment event = next_at configs m (counted_moment (entries m) moment) event

-- a history is legal: it begins with `begin`, moments never fall, targets have their form, and each
-- answer is the next
abbrev pub Legal : List Configuration → History → Type 0
Legal configs [] = ⊥
Legal configs (e ∷ []) = (is_begin e.event ≡ true) × (e.answer ≡ told.Epoch 1)
Legal configs (e ∷ f ∷ h) =
    Legal configs (f ∷ h) × (is_begin e.event ≡ false) × (has_target e.event ≡ true)
    × (f.moment ≤ e.moment)
    × (next configs (marked configs (f ∷ h)) e.moment e.event ≡ gives e.answer)
