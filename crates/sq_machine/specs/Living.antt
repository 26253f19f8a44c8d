-- In the statement: docs/STATEMENT.md lists which definitions.
-- The living processes of a class, by number (configuration reference, `external_acl_type`,
-- "children-max", "concurrency").
use Rattle.std.specs.Prelude.{ℕ, ◌+◌, List, [], ◌∷◌, map, Bool, true, false, if◌then◌else◌, nat_lt, ◌==◌, Some, None, is_some}
use Rattle.std.specs.declared.option.Option.{Option}
use Rattle.sq_machine.specs.Channels.{Channels, asked, channel_name, free_count, least_free, settled, times_open}

-- a living process
pub record Living : Type 0 where
  pub number : ℕ
  pub process : Channels

abbrev pub living_number : Living → ℕ
living_number r = r.number

-- the process has a free channel
abbrev pub has_free : Living → Bool
has_free r = nat_lt 0 (free_count r.process.slots)

-- some process has a free channel
abbrev pub some_free : List Living → Bool
some_free [] = false
some_free (r ∷ rows) = if has_free r then true else some_free rows

-- the processes with a free channel
abbrev pub free_numbers : List Living → List ℕ
free_numbers [] = []
free_numbers (r ∷ rows) = if has_free r then r.number ∷ free_numbers rows else free_numbers rows

-- where the next question goes: the process of least number with a free channel, and its least free
-- channel
abbrev pub target : List Living → Option (ℕ × Option ℕ)
target [] = None
target (r ∷ rows) = if has_free r then Some
    (r.number, channel_name r.process.numbered (least_free r.process.slots)) else target rows

-- the next question goes to this process
abbrev pub is_target : ℕ → Option (ℕ × Option ℕ) → Bool
is_target k None = false
is_target k (Some t) = k == t.0

-- the process with this question on its least free channel
abbrev pub asked_row : ℕ → Living → Living
asked_row q r = record r { process = record r.process { slots = asked q r.process.slots } }

-- the processes after that
abbrev pub sent : ℕ → List Living → List Living
sent q [] = []
sent q (r ∷ rows) = if has_free r then asked_row q r ∷ rows else r ∷ sent q rows

-- process k with the channel of question q free
abbrev pub settled_row : ℕ → ℕ → Living → Living
settled_row k q r = if k
    == r.number then record r { process = record r.process { slots = settled q r.process.slots } }
    else r

-- the processes after a reply to question q of process k
abbrev pub settled_in : ℕ → ℕ → List Living → List Living
settled_in k q rows = map (settled_row k q) rows

-- the process with this number
abbrev pub find_proc : ℕ → List Living → Option Channels
find_proc k [] = None
find_proc k (r ∷ rows) = if k == r.number then Some r.process else find_proc k rows

-- a process with this number lives
abbrev pub lives : ℕ → List Living → Bool
lives k rows = is_some (find_proc k rows)

abbrev pub slots_by : Option Channels → List (Option ℕ)
slots_by None = []
slots_by (Some p) = p.slots

-- the channels of the process with this number
abbrev pub slots_in : ℕ → List Living → List (Option ℕ)
slots_in k rows = slots_by (find_proc k rows)

-- the processes without that one
abbrev pub without : ℕ → List Living → List Living
without k [] = []
without k (r ∷ rows) = if k == r.number then without k rows else r ∷ without k rows

-- the processes with one more
abbrev pub with_proc : Living → List Living → List Living
with_proc p [] = p ∷ []
with_proc p (r ∷ rows) = if nat_lt r.number p.number then r ∷ with_proc p rows else p ∷ r ∷ rows

-- on how many channels the question is open
abbrev pub times_in : ℕ → List Living → ℕ
times_in q [] = 0
times_in q (r ∷ rows) = times_open q r.process.slots + times_in q rows

-- no process lives
abbrev pub is_none_living : List Living → Bool
is_none_living [] = true
is_none_living (r ∷ rows) = false
