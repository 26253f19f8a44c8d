-- What holds of every engine: its parts agree. No history is in it.
use Rattle.std.specs.Prelude.{◌≡◌, ℕ, suc, ◌<◌, List, [], ◌∷◌, length, true, false, ◌==◌, if◌then◌else◌, Some, None, is_some}
use Rattle.std.specs.Option.{option_map}
use Rattle.std.specs.declared.option.Option.{Option}
use Rattle.sq_machine.specs.Limits.{last_number}
use Rattle.sq_machine.specs.OpenLookups.{LookupRow, all_below, is_open_lookup, key_of, question_of}
use Rattle.sq_model.specs.CheckRows.{Held, held_on}
use Rattle.sq_class.specs.Parts.{PartState}
use Rattle.sq_checks.specs.Conns.{check_in}
use Rattle.sq_checks.specs.OpenChecks.{AreAlone, CheckParts, all_before, of_epoch, rows_of}
use Rattle.sq_checks.specs.Stages.{need_in}
use Rattle.sq_checks.specs.Tables.{value_at}
use Rattle.sq_checks.specs.declared.stages.Need.{Need}
use Rattle.sq_epochs.specs.EpochStates.{EpochState, epoch_at, part_at}
use Rattle.sq_model.specs.States.{lives_with}
use Rattle.sq_engine.specs.EngineViews.{EngineView, config_at, config_in}

abbrev pub held_number : Held → ℕ
held_number h = h.number

-- the open checks are those of the connections, one of each at most, under numbers that were given
pub record AreAsked (check : ℕ → Option ℕ) (checks : List Held) (asks : ℕ) : Type 0 where
  pub on_conns : (c : ℕ) → check c ≡ option_map held_number (held_on c checks)
  pub alone : AreAlone checks
  pub given : all_before (suc asks) checks ≡ true
  pub few : asks < last_number

-- an epoch lives where it is current or has an open check, counts its open checks, and has a part
-- for each class
pub record AreCounted (current : ℕ) (epoch : ℕ → Option EpochState)
    (checks : List Held) : Type 0 where
  pub live : (e : ℕ) → is_some (epoch e) ≡ lives_with current checks e
  pub counts : (e : ℕ) (x : EpochState) → epoch e ≡ Some x → x.checks ≡ of_epoch e checks
  pub parts : (e : ℕ) (x : EpochState) → epoch e ≡ Some x → length x.parts ≡ length x.config.classes

-- each open check has the configuration of its epoch
abbrev pub AreConfigured : (ℕ → Option EpochState) → (ℕ → Option CheckParts) → Type 0
AreConfigured epoch check = (n : ℕ) (k : CheckParts) → check n ≡ Some k
    → config_in (epoch k.epoch) ≡ Some k.config

-- the question of what is needed, where it is of the class at this place
abbrev pub asked_of : ℕ → Option Need → Option ℕ
asked_of c None = None
asked_of c (Some n) = if c == n.class then Some n.question else None

-- the question that a check waits for in the class at place c of epoch e
abbrev pub waits_at : ℕ → ℕ → Option CheckParts → Option ℕ
waits_at e c None = None
waits_at e c (Some k) = if e == k.epoch then asked_of c (need_in k.stage) else None

-- each class has the checks listed that wait in it, and no others; a check waits in a class that is
-- there
pub record AreWaiting (part : ℕ → ℕ → Option PartState)
    (check : ℕ → Option CheckParts) : Type 0 where
  pub waits : (e c : ℕ) (p : PartState) → part e c ≡ Some p → (n : ℕ)
      → question_of n p.waiting ≡ waits_at e c (check n)
  pub there : (n : ℕ) (k : CheckParts) (x : Need) → check n ≡ Some k → need_in k.stage ≡ Some x
      → is_some (part k.epoch x.class) ≡ true

-- open questions were put, each for one class; what is waited for is open; and no lost question is
-- left over
pub record AreFed (part : ℕ → ℕ → Option PartState) (puts : ℕ) : Type 0 where
  pub below : (e c : ℕ) (p : PartState) → part e c ≡ Some p
      → all_below (suc puts) p.row.lookups ≡ true
  pub apart : (q e c f d : ℕ) (p r : PartState) → part e c ≡ Some p → part f d ≡ Some r
      → is_open_lookup q p.row.lookups ≡ true
      → is_open_lookup q r.row.lookups ≡ true → (e ≡ f) × (c ≡ d)
  pub waits_open : (e c n q : ℕ) (p : PartState) → part e c ≡ Some p
      → question_of n p.waiting ≡ Some q → is_open_lookup q p.row.lookups ≡ true
  pub none_lost : (e c : ℕ) (p : PartState) → part e c ≡ Some p → p.row.stock.losses ≡ []
  pub few : puts < last_number

-- no question is open twice
abbrev pub AreOnce : List LookupRow → Type 0
AreOnce [] = Unit {0}
AreOnce (l ∷ rows) = (is_open_lookup l.question rows ≡ false) × AreOnce rows

-- each question is open once, and a check waits with the key with which its question was put
pub record AreKeyed (part : ℕ → ℕ → Option PartState) (check : ℕ → Option CheckParts) : Type 0 where
  pub once : (e c : ℕ) (p : PartState) → part e c ≡ Some p → AreOnce p.row.lookups
  pub keys : (n : ℕ) (k : CheckParts) (x : Need) (p : PartState) → check n ≡ Some k
      → need_in k.stage ≡ Some x → part k.epoch x.class ≡ Some p
      → key_of x.question p.row.lookups ≡ Some x.key

-- the parts of an engine agree
pub record IsEngine (v : EngineView) : Type 0 where
  pub asked : AreAsked (check_in v.conns) (rows_of v.checks) v.asks
  pub counted : AreCounted v.epochs.current (epoch_at v.epochs) (rows_of v.checks)
  pub configured : AreConfigured (epoch_at v.epochs) (value_at v.checks)
  pub waiting : AreWaiting (part_at v.epochs) (value_at v.checks)
  pub fed : AreFed (part_at v.epochs) v.puts
  pub keyed : AreKeyed (part_at v.epochs) (value_at v.checks)
  pub setup_is : config_at v.epochs v.epochs.current ≡ Some v.setup
