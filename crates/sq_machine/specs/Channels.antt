-- In the statement: docs/STATEMENT.md lists which definitions.
-- The channels of a helper process and the questions that are open on them (helper protocol page,
-- "concurrency").
use Rattle.std.specs.Prelude.{ℕ, suc, ◌≤◌, ◌<◌, List, [], ◌∷◌, map, length, Bool, true, false, ◌==◌, if◌then◌else◌, Some, None, slice_get}
use Rattle.std.specs.Option.{unwrap_or}
use Rattle.std.specs.declared.option.Option.{Option}

-- a process: whether its lines have channel numbers, and the question that is open on each channel,
-- from 0
pub record Channels : Type 0 where
  pub numbered : Bool
  pub slots : List (Option ℕ)

-- on how many channels the question is open
abbrev pub times_open : ℕ → List (Option ℕ) → ℕ
times_open q [] = 0
times_open q (None ∷ slots) = times_open q slots
times_open q (Some p ∷ slots) = if q == p then suc (times_open q slots) else times_open q slots

-- the question is open on some channel
abbrev pub is_open : ℕ → List (Option ℕ) → Bool
is_open q [] = false
is_open q (None ∷ slots) = is_open q slots
is_open q (Some p ∷ slots) = if q == p then true else is_open q slots

-- how many channels have no question
abbrev pub free_count : List (Option ℕ) → ℕ
free_count [] = 0
free_count (None ∷ slots) = suc (free_count slots)
free_count (Some q ∷ slots) = free_count slots

-- the open questions, by channel
abbrev pub opened : List (Option ℕ) → List ℕ
opened [] = []
opened (None ∷ slots) = opened slots
opened (Some q ∷ slots) = q ∷ opened slots

-- the least channel that has no question
abbrev pub least_free : List (Option ℕ) → ℕ
least_free [] = 0
least_free (None ∷ slots) = 0
least_free (Some q ∷ slots) = suc (least_free slots)

-- the question put on that channel
abbrev pub asked : ℕ → List (Option ℕ) → List (Option ℕ)
asked q [] = []
asked q (None ∷ slots) = Some q ∷ slots
asked q (Some p ∷ slots) = Some p ∷ asked q slots

-- a channel without this question
abbrev pub freed : ℕ → Option ℕ → Option ℕ
freed q None = None
freed q (Some p) = if q == p then None else Some p

-- the channels without this question
abbrev pub settled : ℕ → List (Option ℕ) → List (Option ℕ)
settled q slots = map (freed q) slots

-- the open question of the least channel
abbrev pub first_open : List (Option ℕ) → Option ℕ
first_open [] = None
first_open (None ∷ slots) = first_open slots
first_open (Some q ∷ slots) = Some q

-- the channels without that question
abbrev pub drained : List (Option ℕ) → List (Option ℕ)
drained [] = []
drained (None ∷ slots) = None ∷ drained slots
drained (Some q ∷ slots) = None ∷ slots

-- the number of a channel as lines and acts have it
abbrev pub channel_name : Bool → ℕ → Option ℕ
channel_name false n = None
channel_name true n = Some n

-- the question open on the n-th channel
abbrev pub slot_at : List (Option ℕ) → ℕ → Option ℕ
slot_at slots n = unwrap_or (slice_get slots n) None

-- the question open on a channel as a line names it
abbrev pub slot_of : List (Option ℕ) → Option ℕ → Option ℕ
slot_of slots None = slot_at slots 0
slot_of slots (Some n) = slot_at slots n

-- a process has a channel, and a question is open on one channel
pub record IsProcess (p : Channels) : Type 0 where
  pub some_slot : 1 ≤ length p.slots
  pub few_slots : length p.slots < 4294967296
  pub once : (q : ℕ) → times_open q p.slots ≤ 1
