-- The engine that begins.
use Rattle.std.proofs.Common.{◌≡◌, ◌∙◌, ◌==◌, ◌<◌, ℕ, ℤ, zero, suc, List, [], ◌∷◌, Bool, true, false, ◌||◌, if◌then◌else◌, map, length, Option, None, Some, is_some, refl, ap, sym, subst, arith}
use Rattle.std.proofs.lemmas.Option.{same_Some}
use Rattle.std.specs.List.{slice_get}
use Rattle.std.specs.Option.{option_and_then, option_map}
use Rattle.sq_base.specs.Addresses.{Address}
use Rattle.sq_rules.specs.Classes.{Class}
use Rattle.sq_rules.specs.Configurations.{Configuration}
use Rattle.sq_machine.specs.Limits.{last_number}
use Rattle.sq_machine.specs.OpenLookups.{all_below, is_open_lookup, question_of}
use Rattle.sq_model.specs.CheckRows.{held_on}
use Rattle.sq_model.specs.ClassRows.{new_row}
use Rattle.sq_class.specs.Parts.{PartState}
use Rattle.sq_checks.specs.Counts.{tally}
use Rattle.sq_checks.specs.OpenChecks.{AreAlone, all_before, of_epoch, rows_of}
use Rattle.sq_checks.specs.Tables.{value_at}
use Rattle.sq_epochs.specs.EpochStates.{EpochState, EpochsState, epoch_at, home_at, new_epoch, new_part, part_at, part_of, row_at}
use Rattle.sq_model.specs.Changes.{first_state}
use Rattle.sq_model.specs.States.{IsSame, lives_with}
use Rattle.sq_engine.specs.Engines.{AreOnce, IsEngine, held_number, waits_at}
use Rattle.sq_engine.specs.EngineViews.{EngineView, config_at, config_in, state_of, stop_at}

-- the epochs that begin
abbrev pub first_epochs : Configuration → EpochsState
first_epochs config = record { current = 1; epochs = new_epoch 1 config ∷ []; procs = 0; homes = []; stops = [] }

-- nothing happened in the engine yet
pub record Fresh (v : EngineView) (config : Configuration) (offset : ℤ) (now : ℕ) : Type 0 where
  pub links_are : v.conns.links ≡ []
  pub counts_are : (a : Address) → tally v.conns.counts a ≡ 0
  pub checks_are : v.checks ≡ []
  pub asks_are : v.asks ≡ 0
  pub puts_are : v.puts ≡ 0
  pub epochs_are : v.epochs ≡ first_epochs config
  pub setup_is : v.setup ≡ config
  pub offset_is : v.offset ≡ offset
  pub latest_is : v.latest ≡ now

one_lives : (b : Bool) (x : EpochState) → is_some (if b then Some x else None) ≡ (b || false)
one_lives true x = refl
one_lives false x = refl

one_is : (b : Bool) (x y : EpochState) → (if b then Some x else None) ≡ Some y → x ≡ y
one_is true x y e = same_Some _ _ e
one_is false x y e = absurd (cc)

len_map : (classes : List Class) → length (map new_part classes) ≡ length classes
len_map [] = refl
len_map (c ∷ classes) = ap suc (len_map classes)

new_at : (classes : List Class) (c : ℕ) (p : PartState) → slice_get (map new_part classes) c ≡ Some p
    → (class : Class) × (new_part class ≡ p)
new_at [] c p e = absurd (cc)
new_at (k ∷ classes) zero p e = (k, same_Some _ _ e)
new_at (k ∷ classes) (suc c) p e = new_at classes c p e

new_of : (b : Bool) (config : Configuration) (c : ℕ) (p : PartState)
    → part_of c (if b then Some (new_epoch 1 config) else None) ≡ Some p → (class : Class) × (new_part class ≡ p)
new_of true config c p e = new_at config.classes c p e
new_of false config c p e = absurd (cc)

-- each part is new
first_part : (v : EngineView) (config : Configuration) (offset : ℤ) (now : ℕ) → Fresh v config offset now
    → (e c : ℕ) (p : PartState) → part_at v.epochs e c ≡ Some p → (class : Class) × (new_part class ≡ p)
first_part v config offset now f e c p is = new_of (e == 1) config c p (sym (ap (λ z. part_at z e c) f.epochs_are) ∙ is)

first_epoch : (v : EngineView) (config : Configuration) (offset : ℤ) (now : ℕ) → Fresh v config offset now
    → (e : ℕ) (x : EpochState) → epoch_at v.epochs e ≡ Some x → new_epoch 1 config ≡ x
first_epoch v config offset now f e x is = one_is (e == 1) (new_epoch 1 config) x
    (sym (ap (λ z. epoch_at z e) f.epochs_are) ∙ is)

no_check : (v : EngineView) (config : Configuration) (offset : ℤ) (now : ℕ) → Fresh v config offset now → (n : ℕ)
    → value_at v.checks n ≡ None
no_check v config offset now f n = ap (λ z. value_at z n) f.checks_are

none_of : {A : Type 0} (o : Option A) (x : A) → o ≡ None → o ≡ Some x → ⊥
none_of o x a b = cc

few_zero : 0 < last_number
few_zero = omega arith

pub fresh_engine : (v : EngineView) (config : Configuration) (offset : ℤ) (now : ℕ) → Fresh v config offset now
    → IsEngine v
fresh_engine v config offset now f =
    let part = first_part v config offset now f in
    let none = no_check v config offset now f in
    record {
      asked = record {
        on_conns = λ c. ap (λ z. option_and_then (λ l. l.check) (value_at z c)) f.links_are
            ∙ sym (ap (λ z. option_map held_number (held_on c (rows_of z))) f.checks_are);
        alone = subst (λ z. AreAlone (rows_of z)) (sym f.checks_are) tt;
        given = ap (λ z. all_before (suc v.asks) (rows_of z)) f.checks_are;
        few = subst (λ n. n < last_number) (sym f.asks_are) few_zero;
      };
      counted = record {
        live = λ e. ap (λ z. is_some (epoch_at z e)) f.epochs_are ∙ one_lives (e == 1) (new_epoch 1 config)
            ∙ sym (ap (λ z. lives_with z.current (rows_of v.checks) e) f.epochs_are
            ∙ ap (λ z. lives_with 1 (rows_of z) e) f.checks_are);
        counts = λ e x is. ap (λ z. z.checks) (sym (first_epoch v config offset now f e x is))
            ∙ sym (ap (λ z. of_epoch e (rows_of z)) f.checks_are);
        parts = λ e x is. subst (λ y. length y.parts ≡ length y.config.classes)
            (first_epoch v config offset now f e x is) (len_map config.classes);
      };
      configured = λ n k is. absurd (none_of _ k (none n) is);
      waiting = record {
        waits = λ e c p is n. ap (λ z. question_of n z.waiting) (sym (part e c p is).1)
            ∙ sym (ap (waits_at e c) (none n));
        there = λ n k x is needs. absurd (none_of _ k (none n) is);
      };
      fed = record {
        below = λ e c p is. ap (λ z. all_below (suc v.puts) z.row.lookups) (sym (part e c p is).1);
        apart = λ q e c g d p r is other here there. let h = ap (λ z. is_open_lookup q z.row.lookups) (part e c p is).1
            ∙ here in absurd (cc);
        waits_open = λ e c n q p is waits. let h = ap (λ z. question_of n z.waiting) (part e c p is).1 ∙ waits in
            absurd (cc);
        none_lost = λ e c p is. ap (λ z. z.row.stock.losses) (sym (part e c p is).1);
        few = subst (λ n. n < last_number) (sym f.puts_are) few_zero;
      };
      keyed = record {
        once = λ e c p is. subst (λ z. AreOnce z.row.lookups) (part e c p is).1 tt;
        keys = λ n k x p is. absurd (none_of _ k (none n) is);
      };
      setup_is = ap (λ z. config_at z z.current) f.epochs_are ∙ ap Some (sym f.setup_is);
    }

one_config : (b : Bool) (config : Configuration)
    → config_in (if b then Some (new_epoch 1 config) else None) ≡ (if b then Some config else None)
one_config true config = refl
one_config false config = refl

new_rows : (classes : List Class) (c : ℕ)
    → option_map (λ p. p.row) (slice_get (map new_part classes) c) ≡ option_map (new_row []) (slice_get classes c)
new_rows [] c = refl
new_rows (k ∷ classes) zero = refl
new_rows (k ∷ classes) (suc c) = new_rows classes c

one_row : (b : Bool) (config : Configuration) (c : ℕ)
    → option_map (λ p. p.row) (part_of c (if b then Some (new_epoch 1 config) else None))
    ≡ (if b then option_map (new_row []) (slice_get config.classes c) else None)
one_row true config c = new_rows config.classes c
one_row false config c = refl

pub fresh_same : (v : EngineView) (config : Configuration) (offset : ℤ) (now : ℕ) → Fresh v config offset now
    → IsSame (state_of v) (first_state config offset now)
fresh_same v config offset now f = record {
  clients_are = λ c. ap (λ z. option_map (λ l. l.peer) (value_at z c)) f.links_are;
  conns_are = ap length f.links_are;
  from_are = f.counts_are;
  checks_are = ap rows_of f.checks_are;
  asks_are = f.asks_are;
  puts_are = f.puts_are;
  current_is = ap (λ z. z.current) f.epochs_are;
  configs_are = λ e. ap (λ z. config_at z e) f.epochs_are ∙ one_config (e == 1) config;
  rows_are = λ e c. ap (λ z. row_at z e c) f.epochs_are ∙ one_row (e == 1) config c;
  procs_are = ap (λ z. z.procs) f.epochs_are;
  homes_are = λ k. ap (λ z. home_at z k) f.epochs_are;
  stops_are = λ k. ap (λ z. stop_at z k) f.epochs_are;
  latest_is = f.latest_is;
  offset_is = f.offset_is;
}
