-- In the statement: docs/STATEMENT.md lists which definitions.
-- The farm of one class: its queue, its processes, its starts, and what is due (configuration
-- reference, `external_acl_type`, "children-max", "children-startup", "queue-size").
use Rattle.std.specs.Prelude.{◌≡◌, ℕ, suc, ◌+◌, ◌-◌, ◌*◌, ◌≤◌, max, min, List, [], ◌∷◌, ◌++◌, map, length, replicate, Bool, true, false, not, ◌&&◌, ◌||◌, ◌==◌, if◌then◌else◌, nat_lt, nat_le, Some, None, is_some}
use Rattle.std.specs.declared.option.Option.{Option}
use Rattle.sq_base.specs.declared.helpers.Cause.{Cause}
use Rattle.sq_base.specs.declared.helpers.Cause.TheVariants as cause
use Rattle.sq_rules.specs.Classes.{Class}
use Rattle.sq_machine.specs.Channels.{free_count, opened}
use Rattle.sq_machine.specs.Living.{Living, is_none_living, living_number, sent, slots_in, some_free, target, times_in, with_proc, without}
use Rattle.sq_machine.specs.Losses.{Loss, lose_all, times_lost}
use Rattle.sq_machine.specs.Rising.{Rises}

-- a question that waits for a process, and its text
pub record Waiting : Type 0 where
  pub question : ℕ
  pub text : List ℕ

-- a question that is to be written to a process
pub record Sending : Type 0 where
  pub proc : ℕ
  pub question : ℕ
  pub channel : Option ℕ
  pub text : List ℕ

-- the numbers of its class that a farm needs, its queue (oldest first), its processes by number,
-- the starts of children-startup that are owed, those that are open, whether starts are held, and
-- the questions that have a fault and were not handed out
pub record Stock : Type 0 where
  pub concurrency : ℕ
  pub children_max : ℕ
  pub queue_size : ℕ
  pub queue : List Waiting
  pub procs : List Living
  pub owed : ℕ
  pub starting : ℕ
  pub held : Bool
  pub losses : List Loss

-- the question's number
abbrev pub waiting_number : Waiting → ℕ
waiting_number w = w.question

-- how often the question waits
abbrev pub times_waiting : ℕ → List Waiting → ℕ
times_waiting q [] = 0
times_waiting q (w ∷ queue) = if q == w.question then suc (times_waiting q queue)
    else times_waiting q queue

-- in how many places the question stands: queued, open on a slot, or lost and not handed out
abbrev pub places : ℕ → Stock → ℕ
places q v = times_waiting q v.queue + (times_in q v.procs + times_lost q v.losses)

-- the free slots of living processes
abbrev pub free_in : List Living → ℕ
free_in [] = 0
free_in (r ∷ rows) = free_count r.process.slots + free_in rows

-- the open questions of living processes
abbrev pub open_in : List Living → ℕ
open_in [] = 0
open_in (r ∷ rows) = length (opened r.process.slots) + open_in rows

-- a question more is refused: as many wait as the queue may hold beside the channels that are free
-- or may still come
unfoldable pub full : Stock → Bool
full v = nat_le (v.queue_size + free_in v.procs + max 1 v.concurrency
    * (v.children_max - length v.procs)) (length v.queue)

-- the question put at the end of the queue, which ends a hold
abbrev pub put_in : Waiting → Stock → Stock
put_in w v = record v { queue = v.queue ++ w ∷ []; held = false }

-- the first of the queue, sent to this process on this channel
abbrev pub send_by : List Waiting → Option (ℕ × Option ℕ) → Option Sending
send_by [] t = None
send_by (w ∷ queue) None = None
send_by (w ∷ queue) (Some t) = Some
    (record { proc = t.0; question = w.question; channel = t.1; text = w.text })

-- the send that is due: the oldest question, to the least process with a free slot, on its least
-- free channel
abbrev pub send_of : Stock → Option Sending
send_of v = send_by v.queue (target v.procs)

-- after that send
abbrev pub after_send_by : Stock → List Waiting → Bool → Stock
after_send_by v [] free = v
after_send_by v (w ∷ queue) true = record v { queue = queue; procs = sent w.question v.procs }
after_send_by v (w ∷ queue) false = v

abbrev pub after_send : Stock → Stock
after_send v = after_send_by v v.queue (some_free v.procs)

-- a start is due: there may be a process more, no hold stands, and a start is owed or more
-- questions wait than the processes that are starting will take
unfoldable pub start_due : Stock → Bool
start_due v = nat_lt (length v.procs + v.starting) v.children_max
    && (not v.held && (nat_lt 0 v.owed
    || nat_lt (v.starting * max 1 v.concurrency) (length v.queue)))

-- after that start
abbrev pub after_start : Stock → Stock
after_start v = if start_due v then record v { owed = v.owed - 1; starting = suc v.starting } else v

-- after the next act: a send where one is due, else a start
abbrev pub after_act : Stock → Stock
after_act v = if is_some (send_of v) then after_send v else after_start v

-- process k ended, and its open questions are lost
abbrev pub ended : Cause → ℕ → Stock → Stock
ended c k v = record v {
  procs = without k v.procs;
  held = false;
  losses = lose_all c (opened (slots_in k v.procs)) v.losses;
}

-- its queued questions lost, or not
abbrev pub emptied : Bool → Stock → Stock
emptied true v = record v
    { queue = []; losses = lose_all cause.NoHelper (map waiting_number v.queue) v.losses }
emptied false v = v

-- no process lives, and this start is the last that is open
abbrev pub is_last_start : Stock → Bool
is_last_start v = is_none_living v.procs && (v.starting == 1)

-- a start failed: where no process lives or starts then, every queued question is lost
abbrev pub failed : Stock → Stock
failed v = let e = emptied (is_last_start v) v in
    record e { starting = v.starting - 1; held = true }

-- a process without questions
abbrev pub fresh : ℕ → ℕ → Living
fresh n k = record {
  number = k;
  process = record { numbered = nat_lt 0 n; slots = replicate (max 1 n) None };
}

-- process k was started
abbrev pub started_in : ℕ → Stock → Stock
started_in k v = record v
    { procs = with_proc (fresh v.concurrency k) v.procs; starting = v.starting - 1 }

-- the farm of a class at its epoch's beginning
abbrev pub stock_of : Class → Stock
stock_of c = record {
  concurrency = c.concurrency;
  children_max = c.children_max;
  queue_size = c.queue_size;
  queue = [];
  procs = [];
  owed = min c.startup c.children_max;
  starting = 0;
  held = false;
  losses = [];
}

-- each process has the slots of its class
abbrev pub AreOfClass : ℕ → List Living → Type 0
AreOfClass n [] = Unit {0}
AreOfClass n (r ∷ rows) = (length r.process.slots ≡ max 1 n) × (r.process.numbered ≡ nat_lt 0 n)
    × AreOfClass n rows

-- a farm: no more processes than may be, and each question in one place
pub record IsStock (v : Stock) : Type 0 where
  pub concurrency_is : v.concurrency ≤ 1024
  pub children_are : v.children_max ≤ 1024
  pub queue_size_is : v.queue_size ≤ 1000000
  pub owed_is : v.owed ≤ 1024
  pub few_procs : length v.procs + v.starting ≤ v.children_max
  pub rising : Rises (map living_number v.procs)
  pub of_class : AreOfClass v.concurrency v.procs
  pub few_questions : length v.queue + open_in v.procs ≤ v.queue_size + max 1 v.concurrency
      * v.children_max
  pub once : (q : ℕ) → places q v ≤ 1
