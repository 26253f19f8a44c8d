-- In the statement: docs/STATEMENT.md lists which definitions.
-- What is so of the history of a run: of every list of requests, steps, lines of helpers, deaths,
-- reconfigurations, moments and grants.
use Rattle.std.specs.Prelude.{◌≡◌, ◌⊎◌, ℕ, suc, List, [], ◌∷◌, ◌++◌, length, Some}
use Rattle.sq_outside.specs.SourceLines.{SourceLine}
use Rattle.sq_machine.specs.declared.entries.Event.{Event}
use Rattle.sq_machine.specs.declared.entries.Event.TheVariants.{Reconfigure}
use Rattle.sq_rules.specs.Configurations.{Configuration}
use Rattle.sq_rules.specs.ConfText.{conf_gives}
use Rattle.sq_machine.specs.Entries.{History}
use Rattle.sq_machine.specs.Machine.{Legal}
use Rattle.sq_machine.specs.BucketLevels.{IsBalanced, Tally}
use Rattle.sq_machine.specs.Epochs.{config_of}
use Rattle.sq_machine.specs.Events.{Judgement, judgement}
use Rattle.sq_machine.specs.Marking.{marked}
use Rattle.sq_machine.specs.Marks.{Marked, Past}
use Rattle.sq_machine.specs.PoolHistories.{PoolKind, pool_history}
use Rattle.sq_machine.specs.PoolReadings.{BucketSpot, PoolEntry, PoolHistory, tally_of}
use Rattle.sq_machine.specs.Readings.{current}
use Rattle.sq_model.specs.Faithful.{IsFaithful, IsJudgedSo}
use Rattle.sq_pools.specs.Flows.{GrantsWithin, Lives}
use Rattle.sq_model.specs.Sources.{AreSourced}
use Rattle.sq_replay.specs.RunText.{Shelf, named_from}

-- the text of a reconfiguration gives the configuration of the epoch that it begins
abbrev pub IsAccepted : List Configuration → History → Event → Type 0
IsAccepted configs h (Reconfigure text) = (config : Configuration) × conf_gives text config
    × (config_of configs (suc (current h)) ≡ Some config)
IsAccepted configs h event = Unit {0}

-- the configuration of each epoch but the first is the one that the text gives by which it began
abbrev pub AreAccepted : List Configuration → History → Type 0
AreAccepted configs [] = Unit {0}
AreAccepted configs (e ∷ h) = IsAccepted configs h e.event × AreAccepted configs h

-- between any two places from the one to the other of which a bucket lives, it grants at most its
-- level at the first and what was restored
abbrev pub AreWithinLevels : PoolHistory → Type 0
AreWithinLevels h =
    (after later : List PoolEntry) (before : PoolHistory) (e : ℕ) (s : BucketSpot)
    → after ++ (later ++ before) ≡ h → Lives later before e s → GrantsWithin later before e s

-- at each place the books of each bucket balance: what it opened with and what was restored is what
-- it holds, granted and spilled
abbrev pub AreBalanced : PoolHistory → Type 0
AreBalanced h = (after : List PoolEntry) (before : PoolHistory) (e : ℕ) (s : BucketSpot) (b : Tally)
    → after ++ before ≡ h → tally_of before e s ≡ Some b → IsBalanced b

-- what is so of the history of every run
pub record IsTrue (configs : List Configuration) (h : History) : Type 0 where
  -- each answer is the machine's next
  pub legal : Legal configs h
  -- each reconfiguration holds the source of the configuration of its epoch
  pub sourced : AreSourced configs h
  -- which is the one that this text gives
  pub accepted : AreAccepted configs h
  -- each outcome is the verdict of the configuration current when its check began, over what it saw
  -- and answers that have their sources
  pub judged : (later : Past) (x : Marked) (m : Past) (j : Judgement)
      → later ++ (x ∷ m) ≡ marked configs h → judgement x.entry.event x.entry.answer ≡ Some j
      → IsJudgedSo configs m j
  -- and so it is of steps, of questions and their sends, and of seats
  pub faithful : IsFaithful configs (marked configs h)
  -- of pools of either kind, between any two places between which it lives without a break no
  -- bucket grants more than its level and what was restored
  pub granted : (kind : PoolKind) → AreWithinLevels (pool_history kind configs (marked configs h))
  -- and at each place the books balance
  pub balanced : (kind : PoolKind) → AreBalanced (pool_history kind configs (marked configs h))

-- or nothing was run
abbrev pub IsTrueOrNone : List Configuration → History → Type 0
IsTrueOrNone configs h = (h ≡ []) ⊎ IsTrue configs h

-- behind the configurations of the epochs that have begun stand those that these lines name
pub record IsAhead (files : Shelf) (configs : List Configuration) (h : History)
    (ls : List SourceLine) : Type 0 where
  pub begun : List Configuration
  pub count_is : length begun ≡ current h
  pub configs_are : configs ≡ begun ++ named_from files ls (current h)
