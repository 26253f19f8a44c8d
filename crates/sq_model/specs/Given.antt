-- In the statement: docs/STATEMENT.md lists which definitions.
-- What a history gave: answers by the lines of helpers, and what a check has them from.
use Rattle.std.specs.Prelude.{Bool, List, None, Some, ℕ, [], false, if◌then◌else◌, length, nat_lt, suc, true, ◌==◌, ◌∷◌, ◌≡◌, ◌⊎◌}
use Rattle.sq_base.specs.declared.helpers.Answer.{Answer}
use Rattle.sq_base.specs.declared.helpers.Cause.{Cause}
use Rattle.sq_base.specs.declared.helpers.Cause.TheVariants as cause
use Rattle.sq_base.specs.declared.helpers.What.{What}
use Rattle.sq_base.specs.declared.helpers.What.TheVariants as what
use Rattle.sq_base.specs.declared.helpers.Word.{Word}
use Rattle.sq_machine.specs.declared.entries.Event.{Event}
use Rattle.sq_machine.specs.declared.entries.Event.TheVariants.{Act, Line, Step}
use Rattle.sq_machine.specs.declared.entries.Told.{Told}
use Rattle.sq_machine.specs.declared.entries.Told.TheVariants as told
use Rattle.sq_machine.specs.declared.kept.CachedReply.{CachedReply}
use Rattle.sq_machine.specs.AnswerReadings.{waits_for}
use Rattle.sq_rules.specs.Configurations.{Configuration}
use Rattle.sq_machine.specs.Epochs.{class_at}
use Rattle.sq_machine.specs.Events.{begins_epoch}
use Rattle.sq_machine.specs.FarmReadings.{farm_with}
use Rattle.sq_machine.specs.Farms.{full}
use Rattle.sq_machine.specs.Freshness.{is_fresh}
use Rattle.sq_machine.specs.KeptLists.{fresh_for, is_fault, verdict_of}
use Rattle.sq_machine.specs.KeptReadings.{alike_place, kept}
use Rattle.sq_machine.specs.Limits.{key_limit}
use Rattle.sq_machine.specs.Marks.{Marked, Past, entries}
use Rattle.sq_machine.specs.Questions.{end_at, pending, put_is, put_of, said_by, sent_to}
use Rattle.sq_machine.specs.Readings.{current}
use Rattle.sq_model.specs.Waits.{IsNeeded}

-- something holds of each
abbrev pub EachOf : {A : Type 0} → (A → Type 0) → List A → Type 0
EachOf P [] = Unit {0}
EachOf P (x ∷ xs) = P x × EachOf P xs

-- an answer of a helper: its key, what it says, the question that it answers, and its date
pub record Gift : Type 0 where
  pub key : List ℕ
  pub what : What
  pub question : ℕ
  pub date : ℕ

-- the entry is a line by which a process answers a question that was sent to it, and that was put
-- for this epoch and class with this key
pub record Gives (configs : List Configuration) (past : Past) (newest : Marked) (epoch place : ℕ)
    (gift : Gift) : Type 0 where
  pub proc : ℕ
  pub bytes : List ℕ
  pub word : Word
  pub event_is : newest.entry.event ≡ Line proc bytes
  pub answer_is : newest.entry.answer ≡ told.Reply gift.question word
  pub date_is : newest.entry.moment ≡ gift.date
  pub says : said_by configs past proc bytes ≡ Some gift.what
  pub sent : sent_to past gift.question ≡ Some proc
  pub put : put_is epoch place gift.key (put_of past gift.question) ≡ true

-- the answer was given for the class at this place of this epoch: by a line there, or for the class
-- that is alike in the epoch before, before this epoch began
abbrev pub Given : List Configuration → Past → ℕ → ℕ → Gift → Type 0
Given configs [] epoch place gift = ⊥
Given configs (newest ∷ past) epoch place gift =
    Gives configs past newest epoch place gift
    ⊎ (((d : ℕ) × (begins_epoch newest.entry.event ≡ true) × (epoch ≡ suc (current (entries past)))
    × (alike_place configs (current (entries past)) (class_at configs epoch place) ≡ Some d)
    × Given configs past (current (entries past)) d gift)
    ⊎ Given configs past epoch place gift)

-- a cached reply with its key
abbrev pub gift_of : List ℕ × CachedReply → Gift
gift_of k = record { key = k.0; what = k.1.what; question = k.1.question; date = k.1.date }

-- the entry is a step of this check that takes a verdict of the class and key that the check needs:
-- it is kept and fresh then, and was given
pub record TakesFresh (configs : List Configuration) (past : Past) (newest : Marked) (check : ℕ)
    (answer : Answer) : Type 0 where
  pub event_is : newest.entry.event ≡ Step check
  pub took_is : newest.took ≡ Some answer
  pub needed : IsNeeded configs past check
  pub question : ℕ
  pub class_is : answer.class ≡ needed.place
  pub key_is : answer.key ≡ needed.key
  pub question_is : answer.question ≡ Some question
  pub taken_is : answer.taken ≡ newest.entry.moment
  pub kept_is : verdict_of needed.key (kept configs past needed.asked.epoch needed.place)
      ≡ Some (record { what = answer.what; question = question; date = answer.date })
  pub fresh : is_fresh needed.class
      (record { what = answer.what; question = question; date = answer.date }) answer.taken ≡ true
  pub given : Given configs past needed.asked.epoch needed.place
      (record { key = needed.key; what = answer.what; question = question; date = answer.date })

-- the key that the check needs is too long
abbrev pub IsTooLong : (configs : List Configuration) (past : Past) (check : ℕ)
    → IsNeeded configs past check → Type 0
IsTooLong configs past check needed = nat_lt key_limit (length needed.key) ≡ true

-- no verdict of the key that the check needs is fresh, no question of it is pending, and the farm
-- of its class is full
pub record FindsNoRoom (configs : List Configuration) (past : Past) (check now : ℕ)
    (needed : IsNeeded configs past check) : Type 0 where
  pub short : nat_lt key_limit (length needed.key) ≡ false
  pub none_fresh : fresh_for needed.class needed.key now
      (kept configs past needed.asked.epoch needed.place) ≡ None
  pub none_pending : pending configs past needed.asked.epoch needed.place needed.key ≡ None
  pub is_full : full (farm_with configs past needed.asked.epoch needed.place needed.class) ≡ true

-- a fault that a step takes for the class and key that the check needs
abbrev pub fault_for : (configs : List Configuration) (past : Past) (check : ℕ)
    → IsNeeded configs past check → Cause → ℕ → Answer
fault_for configs past check needed c now = record {
  class = needed.place;
  key = needed.key;
  what = what.Fault c;
  question = None;
  date = now;
  taken = now;
}

-- the entry is a step of this check that takes this fault for the class and key that the check
-- needs: the key is too long, or there is no room
pub record TakesFault (configs : List Configuration) (past : Past) (newest : Marked) (check : ℕ)
    (answer : Answer) : Type 0 where
  pub event_is : newest.entry.event ≡ Step check
  pub took_is : newest.took ≡ Some answer
  pub needed : IsNeeded configs past check
  pub class_is : answer.class ≡ needed.place
  pub key_is : answer.key ≡ needed.key
  pub question_is : answer.question ≡ None
  pub date_is : answer.date ≡ newest.entry.moment
  pub taken_is : answer.taken ≡ newest.entry.moment
  pub cause_is : ((answer.what ≡ what.Fault cause.KeyTooLong) × IsTooLong configs past check needed)
      ⊎ ((answer.what ≡ what.Fault cause.QueueFull)
      × FindsNoRoom configs past check newest.entry.moment needed)

-- the entry ends the question that this check waits for, which was put for the class and key that
-- the check needs: with a fault, or with what a line gives
pub record TakesEnd (configs : List Configuration) (past : Past) (newest : Marked) (check : ℕ)
    (answer : Answer) : Type 0 where
  pub question : ℕ
  pub waits : waits_for configs past check ≡ Some question
  pub needed : IsNeeded configs past check
  pub put : put_is needed.asked.epoch needed.place needed.key (put_of past question) ≡ true
  pub class_is : answer.class ≡ needed.place
  pub key_is : answer.key ≡ needed.key
  pub question_is : answer.question ≡ Some question
  pub date_is : answer.date ≡ newest.entry.moment
  pub taken_is : answer.taken ≡ newest.entry.moment
  pub end_is : end_at configs past question newest.entry.event newest.entry.answer
      ≡ Some answer.what
  pub given : (is_fault answer.what ≡ true)
      ⊎ Gives configs past newest needed.asked.epoch needed.place
      (record { key = needed.key; what = answer.what; question = question; date = answer.date })

-- where an answer of a check comes from: some entry gave it
abbrev pub IsSound : List Configuration → Past → ℕ → Answer → Type 0
IsSound configs [] check answer = ⊥
IsSound configs (newest ∷ past) check answer =
    (TakesFresh configs past newest check answer
    ⊎ (TakesFault configs past newest check answer ⊎ TakesEnd configs past newest check answer))
    ⊎ IsSound configs past check answer

-- the event is an act that sends the question
abbrev pub sends_question : ℕ → Event → Told → Bool
sends_question question Act (told.Send p r channel key) = question == r
sends_question question event answer = false

-- how often the question was sent
abbrev pub times_sent : Past → ℕ → ℕ
times_sent [] question = 0
times_sent (newest ∷ past) question =
    if sends_question question newest.entry.event newest.entry.answer
    then suc (times_sent past question)
    else times_sent past question
