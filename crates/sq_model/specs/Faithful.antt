-- In the statement: docs/STATEMENT.md lists which definitions.
-- What every legal history is: what its outcomes, its questions and their sends come from.
use Rattle.std.specs.Prelude.{◌≡◌, ◌⊎◌, ℕ, ◌≤◌, List, [], ◌∷◌, true, false, length, nat_lt, Some, None}
use Rattle.std.specs.declared.option.Option.{Option}
use Rattle.sq_base.specs.Distinct.{are_distinct}
use Rattle.sq_base.specs.declared.helpers.Cause.TheVariants as cause
use Rattle.sq_machine.specs.declared.entries.Event.{Event}
use Rattle.sq_machine.specs.declared.entries.Event.TheVariants.{Act, Seat, Step}
use Rattle.sq_machine.specs.declared.entries.Told.{Told}
use Rattle.sq_machine.specs.declared.entries.Told.TheVariants as told
use Rattle.sq_machine.specs.declared.kept.CachedReply.{CachedReply}
use Rattle.sq_rules.specs.declared.outcomes.Outcome.{Outcome}
use Rattle.sq_rules.specs.declared.values.Value.TheVariants as value
use Rattle.sq_machine.specs.AnswerReadings.{answers}
use Rattle.sq_machine.specs.Channels.{channel_name, least_free}
use Rattle.sq_machine.specs.Checks.{Asked, ask_of}
use Rattle.sq_rules.specs.Classes.{Class}
use Rattle.sq_rules.specs.Configurations.{Configuration}
use Rattle.sq_machine.specs.Epochs.{class_at, config_of}
use Rattle.sq_machine.specs.Events.{Judgement, judgement}
use Rattle.sq_machine.specs.FarmReadings.{farm_with, living_of}
use Rattle.sq_machine.specs.Farms.{Sending, full}
use Rattle.sq_machine.specs.Freshness.{is_due}
use Rattle.sq_machine.specs.KeptLists.{fresh_for}
use Rattle.sq_machine.specs.KeptReadings.{kept}
use Rattle.sq_machine.specs.Limits.{key_limit}
use Rattle.sq_machine.specs.Living.{has_free}
use Rattle.sq_machine.specs.Marks.{Marked, Past, Put, entries}
use Rattle.sq_machine.specs.Processes.{runs_at}
use Rattle.sq_machine.specs.Questions.{has_ended, pending, put_is, put_of, sent_to}
use Rattle.sq_machine.specs.SeatPlaces.{pool_at, seat_place}
use Rattle.sq_machine.specs.StepRule.{value_over}
use Rattle.sq_machine.specs.TakenRecords.{allowed_of, taken_answers}
use Rattle.sq_rules.specs.Verdicts.{verdict_over}
use Rattle.sq_model.specs.Given.{EachOf, FindsNoRoom, IsSound, IsTooLong, fault_for, times_sent}
use Rattle.sq_model.specs.Waits.{IsNeeded, WaitsSo}
use Rattle.sq_model.specs.Walked.{AreWalked, FewTaken}

-- an outcome is told of the epoch that was current when its check began: it is the verdict of that
-- epoch's configuration over what the check saw then and its answers, which are those that its walk
-- asks for, one for each class and key, each with its source
pub record IsJudgedSo (configs : List Configuration) (m : Past) (j : Judgement) : Type 0 where
  pub asked : Asked
  pub config : Configuration
  pub ask_is : ask_of (entries m) j.check ≡ Some asked
  pub epoch_is : j.epoch ≡ asked.epoch
  pub config_is : config_of configs asked.epoch ≡ Some config
  pub verdict_is : verdict_over (answers configs m j.check) config asked.sight
      ≡ value.Verdict j.outcome
  pub walked : AreWalked (answers configs m j.check) config asked.sight
  pub distinct : are_distinct (answers configs m j.check) ≡ true
  pub sound : EachOf (IsSound configs m j.check) (answers configs m j.check)

-- so it is of an outcome that is taken, if one is
abbrev pub JudgedSo : List Configuration → Past → Option Judgement → Type 0
JudgedSo configs m None = Unit {0}
JudgedSo configs m (Some j) = IsJudgedSo configs m j

-- no verdict is fresh, or the refresh of the one that is fresh is due
abbrev pub IsStaleOrDue : Class → ℕ → Option CachedReply → Type 0
IsStaleOrDue class now fresh = (fresh ≡ None)
    ⊎ ((v : CachedReply) × (fresh ≡ Some v) × (is_due class v now ≡ true))

-- a question is put at a step of a check, for the class and key that the check needs: the key is
-- not too long, no verdict of it is fresh or a refresh is due, no question of it is pending, and
-- there is room for one
pub record IsPutSo (configs : List Configuration) (m : Past) (now : ℕ) (event : Event)
    (p : Put) : Type 0 where
  pub check : ℕ
  pub event_is : event ≡ Step check
  pub needed : IsNeeded configs m check
  pub put_is_it : p ≡ record { epoch = needed.asked.epoch; class = needed.place; key = needed.key }
  pub short : nat_lt key_limit (length needed.key) ≡ false
  pub stale_or_due : IsStaleOrDue needed.class now
      (fresh_for needed.class needed.key now (kept configs m needed.asked.epoch needed.place))
  pub none_pending : pending configs m needed.asked.epoch needed.place needed.key ≡ None
  pub room : full (farm_with configs m needed.asked.epoch needed.place needed.class) ≡ false

-- so it is of a question that is put, if one is
abbrev pub PutSo : List Configuration → Past → ℕ → Event → Option Put → Type 0
PutSo configs m now event None = Unit {0}
PutSo configs m now event (Some p) = IsPutSo configs m now event p

-- the pool of a seat, or none, and the connection that it is for
pub record Seating : Type 0 where
  pub conn : ℕ
  pub pool : Option ℕ

-- what an event seats
abbrev pub seating_of : Event → Told → Option Seating
seating_of (Seat c) (told.Seat n pool) = Some (record { conn = c; pool = Some pool })
seating_of (Seat c) told.NoSeat = Some (record { conn = c; pool = None })
seating_of event answer = None

-- a seat is for the outcome that was last taken on its connection, which allows: in the pool that
-- the configuration of its epoch has for what the check saw, or in none where it has none, or where
-- that pool has buckets by tags and the answers of the check have no tag
pub record IsSeatedSo (configs : List Configuration) (m : Past) (s : Seating) : Type 0 where
  pub asked : Asked
  pub config : Configuration
  pub allowed_is : allowed_of (entries m) s.conn ≡ Some asked
  pub config_is : config_of configs asked.epoch ≡ Some config
  pub pool_is : s.pool ≡ pool_at (seat_place config asked.sight (taken_answers configs m s.conn))

-- so it is of a seat that is given, if one is
abbrev pub SeatedSo : List Configuration → Past → Option Seating → Type 0
SeatedSo configs m None = Unit {0}
SeatedSo configs m (Some s) = IsSeatedSo configs m s

-- a step of a check takes the fault of a long key where the key that the check needs is too long,
-- and that of a full queue where no verdict of it is fresh, no question of it is pending and the
-- farm is full; an answer that is such a fault comes from there alone (`IsSound`)
pub record FaultsSo (configs : List Configuration) (m : Past) (x : Marked) : Type 0 where
  pub long : (n : ℕ) (d : IsNeeded configs m n) → x.entry.event ≡ Step n → IsTooLong configs m n d
      → x.took ≡ Some (fault_for configs m n d cause.KeyTooLong x.entry.moment)
  pub no_room : (n : ℕ) (d : IsNeeded configs m n) → x.entry.event ≡ Step n
      → FindsNoRoom configs m n x.entry.moment d
      → x.took ≡ Some (fault_for configs m n d cause.QueueFull x.entry.moment)

-- a step tells a check to wait for a question only of a key that the check needs and has no answer
-- of; of a check that needs no key it tells that it is done
pub record StepsSo (configs : List Configuration) (m : Past) (x : Marked) : Type 0 where
  pub waits : (n q : ℕ) → x.entry.event ≡ Step n → x.entry.answer ≡ told.Waits q
      → WaitsSo configs (x ∷ m) n q
  pub done : (n : ℕ) (a : Asked) (o : Outcome) → x.entry.event ≡ Step n
      → ask_of (entries m) n ≡ Some a → value_over configs a (answers configs m n) ≡ value.Verdict o
      → x.entry.answer ≡ told.Done

-- what an act sends
abbrev pub sending_of : Event → Told → Option Sending
sending_of Act (told.Send p q channel key) = Some
    (record { proc = p; question = q; channel = channel; text = key })
sending_of event answer = None

-- a question is sent to a running process of the class that it was put for, with the key that it
-- was put with, on that process's least free channel; it was sent nowhere and has not ended
pub record IsSentSo (configs : List Configuration) (m : Past) (s : Sending) : Type 0 where
  pub epoch : ℕ
  pub place : ℕ
  pub class : Class
  pub class_is : class_at configs epoch place ≡ Some class
  pub put_is_it : put_is epoch place s.text (put_of m s.question) ≡ true
  pub runs : runs_at (entries m) epoch class.name s.proc ≡ true
  pub free : has_free (living_of class.concurrency (entries m) s.proc) ≡ true
  pub channel_is : s.channel
      ≡ channel_name (nat_lt 0 class.concurrency)
      (least_free (living_of class.concurrency (entries m) s.proc).process.slots)
  pub unsent : sent_to m s.question ≡ None
  pub unended : has_ended configs m s.question ≡ false

-- so it is of a question that is sent, if one is
abbrev pub SentSo : List Configuration → Past → Option Sending → Type 0
SentSo configs m None = Unit {0}
SentSo configs m (Some s) = IsSentSo configs m s

-- of one epoch, class and key one question at most has not ended
abbrev pub OpenOnce : List Configuration → Past → Type 0
OpenOnce configs m =
    (e c : ℕ) (key : List ℕ) (q r : ℕ) → put_is e c key (put_of m q) ≡ true
    → put_is e c key (put_of m r) ≡ true
    → has_ended configs m q ≡ false → has_ended configs m r ≡ false → q ≡ r

-- an entry behind a history: what it tells of an outcome, and what is so of questions with it
pub record IsFaithfulEntry (configs : List Configuration) (m : Past) (x : Marked) : Type 0 where
  -- an outcome that it takes is the verdict over answers that have their sources
  pub judged : JudgedSo configs m (judgement x.entry.event x.entry.answer)
  -- a seat that it gives is in the pool of its record
  pub seated : SeatedSo configs m (seating_of x.entry.event x.entry.answer)
  -- a step takes the faults of a long key and of a full queue where they are
  pub faults : FaultsSo configs m x
  -- a step tells to wait for what is needed and has no answer, and that a check is done that needs
  -- nothing
  pub stepped : StepsSo configs m x
  -- steps of a check took no more answers than its walk asks for
  pub few : FewTaken configs (x ∷ m)
  -- a question that is put there is needed
  pub put : PutSo configs m x.entry.moment x.entry.event x.put
  -- a question that is sent there was put, and with that key
  pub sent : SentSo configs m (sending_of x.entry.event x.entry.answer)
  -- no two questions of one key are open
  pub open_once : OpenOnce configs (x ∷ m)
  -- each question was sent once at most
  pub sent_once : (q : ℕ) → times_sent (x ∷ m) q ≤ 1

-- each entry is so behind those before it
abbrev pub IsFaithful : List Configuration → Past → Type 0
IsFaithful configs [] = Unit {0}
IsFaithful configs (x ∷ m) = IsFaithfulEntry configs m x × IsFaithful configs m
