-- What legal histories carry along, and the laws of readings ask for.
use Rattle.std.specs.Prelude.{◌≡◌, ℕ, ◌≤◌, ◌<◌, max, List, true, false, nat_lt, bytes_eq, is_some, Some}
use Rattle.sq_machine.specs.AnswerReadings.{last_wait}
use Rattle.sq_machine.specs.Channels.{channel_name}
use Rattle.sq_rules.specs.Classes.{Class}
use Rattle.sq_rules.specs.Configurations.{Configuration}
use Rattle.sq_machine.specs.Entries.{History}
use Rattle.sq_machine.specs.Epochs.{class_at, name_of_class}
use Rattle.sq_machine.specs.FarmReadings.{is_held, is_put_for}
use Rattle.sq_machine.specs.Marks.{Past, entries}
use Rattle.sq_machine.specs.Processes.{Home, home_of, is_at_home, proc_count, runs_at, settled_starts, start_count}
use Rattle.sq_machine.specs.Questions.{put_of, sent_to}
use Rattle.sq_machine.specs.Readings.{current}
use Rattle.sq_machine.specs.Transcripts.{holder}
use Rattle.sq_model.specs.Agreement.{SlotsAgree}

-- nothing was done in the epoch: no question was put, no process and no start is of it, and no
-- start failed
pub record IsUnused (m : Past) (e : ℕ) : Type 0 where
  pub none_put : (c q : ℕ) → is_put_for e c (put_of m q) ≡ false
  pub none_home : (name : List ℕ) (k : ℕ) → is_at_home (entries m) e name k ≡ false
  pub none_started : (name : List ℕ) → start_count (entries m) e name ≡ 0
  pub none_held : (c : ℕ) (name : List ℕ) → is_held m e c name ≡ false

-- no two channels of a process of a class with so many channels hold one question
abbrev pub HoldsOnce : ℕ → History → ℕ → ℕ → Type 0
HoldsOnce concurrency history proc question =
    (n j : ℕ) → n < max 1 concurrency → j < max 1 concurrency
    → holder (nat_lt 0 concurrency) history proc (channel_name (nat_lt 0 concurrency) n)
    ≡ Some question
    → holder (nat_lt 0 concurrency) history proc (channel_name (nat_lt 0 concurrency) j)
    ≡ Some question → n ≡ j

-- no two classes of an epoch have one name
abbrev pub NamesOnce : List Configuration → Type 0
NamesOnce configs = (e c d : ℕ) (class other : Class) → class_at configs e c ≡ Some class
    → class_at configs e d ≡ Some other → bytes_eq class.name other.name ≡ true → c ≡ d

-- a class of this name stands in the epoch's configuration
pub record HasClass (configs : List Configuration) (e : ℕ) (name : List ℕ) : Type 0 where
  pub place : ℕ
  pub class : Class
  pub at : class_at configs e place ≡ Some class
  pub named : bytes_eq class.name name ≡ true

-- what a legal history carries
pub record Carried (configs : List Configuration) (m : Past) : Type 0 where
  -- what a check was told to wait for was put
  pub waits_put : (n q : ℕ) → last_wait m n ≡ Some q → is_some (put_of m q) ≡ true
  -- a question was sent to a process that was started
  pub sent_given : (q k : ℕ) → sent_to m q ≡ Some k → k ≤ proc_count (entries m)
  -- and that is of the class that the question was put for
  pub sent_home : (q k e c : ℕ) → sent_to m q ≡ Some k → is_put_for e c (put_of m q) ≡ true
      → is_at_home (entries m) e (name_of_class configs e c) k ≡ true
  -- a process is of a class of its epoch's configuration
  pub home_class : (k : ℕ) (p : Home) → home_of (entries m) k ≡ Some p
      → HasClass configs p.epoch p.class
  -- no more starts were settled than told
  pub starts_few : (e : ℕ) (name : List ℕ)
      → settled_starts (entries m) e name ≤ start_count (entries m) e name
  -- nothing was done in an epoch that has not begun
  pub later_unused : (e : ℕ) → current (entries m) < e → IsUnused m e
  -- the channels of the processes of a class hold what was sent to them and has not ended
  pub slots_agree : (e c : ℕ) (class : Class) → class_at configs e c ≡ Some class
      → SlotsAgree configs m e class
  -- and each question once
  pub holds_once : (e c : ℕ) (class : Class) → class_at configs e c ≡ Some class → (k q : ℕ)
      → runs_at (entries m) e class.name k ≡ true → HoldsOnce class.concurrency (entries m) k q
