-- What every legal history with its marks has that the laws ask for,
-- and what a state that stands for it says of epochs and checks.
use Rattle.std.proofs.Common.{◌≡◌, ℕ, List, [], ◌∷◌, Bool, true, false, ◌||◌, ◌==◌, cond, if◌then◌else◌, slice_get, Option, Some, None, refl, sym, ap, ap₂, ◌∙◌}
use Rattle.std.specs.List.{find, list_any}
use Rattle.std.specs.Option.{option_and_then, option_map_or}
use Rattle.sq_rules.specs.declared.outcomes.Why.TheVariants as why
use Rattle.sq_rules.specs.declared.values.Value.TheVariants as value
use Rattle.sq_machine.specs.Checks.{check_open}
use Rattle.sq_rules.specs.Configurations.{Configuration, IsConfiguration}
use Rattle.sq_machine.specs.Entries.{History}
use Rattle.sq_machine.specs.Epochs.{class_at, is_live, config_of}
use Rattle.sq_machine.specs.Machine.{Legal}
use Rattle.sq_machine.specs.Marking.{marked}
use Rattle.sq_machine.specs.Marks.{Past, entries}
use Rattle.sq_machine.specs.Readings.{current}
use Rattle.sq_machine.specs.StepRule.{value_over}
use Rattle.sq_rules.specs.Verdicts.{verdict_over}
use Rattle.sq_model.specs.CheckRows.{Held, held_at, held_checks, held_of}
use Rattle.sq_model.specs.ClassRows.{class_part}
use Rattle.sq_model.specs.Carried.{Carried, NamesOnce}
use Rattle.sq_model.specs.Given.{EachOf}
use Rattle.sq_model.proofs.AloneLaws.{IsAlone, legal_alone}
use Rattle.sq_model.proofs.CheckLaws.{held_found}
use Rattle.sq_model.proofs.ClassParts.{itself}
use Rattle.sq_model.proofs.ConfigurationLaws.{names_once}
use Rattle.sq_model.proofs.EpochLaws.{live_by_rows}
use Rattle.sq_model.proofs.LegalLaws.{legal_carried}
use Rattle.sq_model.proofs.PendingLaws.{OneOpen, one_open}
use Rattle.sq_model.proofs.PutLaws.{PutsStand, puts_stand}
use Rattle.sq_model.proofs.StopLaws.{NotStopped, legal_stops}
use Rattle.sq_model.proofs.WaitLaws.{WaitsNeeded, waits_needed}
use Rattle.sq_model.specs.Says.{class_in, value_in}
use Rattle.sq_model.specs.States.{IsSame, Stands, State, live, lives_with}

-- what every legal history with its marks has
pub record Lawful (configs : List Configuration) (m : Past) : Type 0 where
  pub once : NamesOnce configs
  pub carried : Carried configs m
  pub alone : IsAlone (entries m)
  pub stops : NotStopped (entries m)
  pub one_open : OneOpen configs m
  pub good : EachOf IsConfiguration configs
  pub needs : WaitsNeeded configs m
  pub puts : PutsStand configs m

-- so it is, where each configuration is one
pub lawful : (configs : List Configuration) (h : History) → EachOf IsConfiguration configs → Legal configs h
    → Lawful configs (marked configs h)
lawful configs h good legal =
    let once : NamesOnce configs = names_once configs good in
    record {
      once = once;
      carried = legal_carried configs h once legal;
      alone = legal_alone configs h once legal;
      stops = legal_stops configs h once legal;
      one_open = one_open configs h;
      good = good;
      needs = waits_needed configs h once legal;
      puts = puts_stand configs h;
    }

-- whether an epoch lives, by the state
pub lives_is : (configs : List Configuration) (m : Past) (s : State) (e : ℕ) → Stands configs m s
    → live s e ≡ is_live (entries m) e
lives_is configs m s e st = ap₂ (λ (k : ℕ) (checks : List Held). lives_with k checks e) st.current_is st.checks_are
    ∙ sym (live_by_rows configs m e)

-- an open check, by the state
pub held_is : (configs : List Configuration) (m : Past) (s : State) (n : ℕ) → Stands configs m s
    → held_at n s.checks ≡ (if check_open (entries m) n then Some (held_of configs m n) else None)
held_is configs m s n st = ap (held_at n) st.checks_are ∙ held_found configs m n

-- what is so where it holds
if_true : {A : Type 0} (b : Bool) (x y : A) → b ≡ true → (if b then x else y) ≡ x
if_true true x y e = refl
if_true false x y e = absurd (cc)

-- the configuration of a live epoch
pub config_live : (configs : List Configuration) (m : Past) (s : State) (e : ℕ) → Stands configs m s
    → is_live (entries m) e ≡ true → s.config e ≡ config_of configs e
config_live configs m s e st lives = st.configs_are e ∙ if_true (is_live (entries m) e) (config_of configs e) None lives

-- a class of a live epoch
pub class_live : (configs : List Configuration) (m : Past) (s : State) (e c : ℕ) → Stands configs m s
    → is_live (entries m) e ≡ true → class_in s e c ≡ class_at configs e c
class_live configs m s e c st lives = ap (λ (o : Option Configuration). option_and_then
    (λ config. slice_get config.classes c) o) (config_live configs m s e st lives)

-- its row
pub row_live : (configs : List Configuration) (m : Past) (s : State) (e c : ℕ) → Stands configs m s
    → is_live (entries m) e ≡ true → s.row e c ≡ class_part configs m e c
row_live configs m s e c st lives = st.rows_are e c
    ∙ if_true (is_live (entries m) e) (class_part configs m e c) None lives

-- a search finds what passes another test
found_any : (test other : Held → Bool) (checks : List Held) (h : Held) → find test checks ≡ Some h → other h ≡ true
    → list_any other checks ≡ true
found_any test other [] h is t = absurd (cc)
found_any test other (k ∷ checks) h is t = by (test k) (found_any test other checks h) is
  where
    or_true : (b : Bool) → (b || true) ≡ true
    or_true true = refl
    or_true false = refl

    by : (b : Bool) → (find test checks ≡ Some h → other h ≡ true → list_any other checks ≡ true)
        → cond b (Some k) (find test checks) ≡ Some h → (other k || list_any other checks) ≡ true
    by true more e = let same : k ≡ h = cc in ap (λ (b : Bool). b || list_any other checks) (ap other same ∙ t)
    by false more e = ap (λ (b : Bool). other k || b) (more e t) ∙ or_true (other k)

-- the epoch of an open check lives
pub held_live : (configs : List Configuration) (m : Past) (n : ℕ) → check_open (entries m) n ≡ true
    → is_live (entries m) (held_of configs m n).asked.epoch ≡ true
held_live configs m n opened =
    live_by_rows configs m e
    ∙ ap (λ (b : Bool). e == current (entries m) || b)
    (found_any (λ (h : Held). n == h.number) (λ (h : Held). h.asked.epoch == e) (held_checks configs m)
    (held_of configs m n)
    (held_found configs m n ∙ if_true (check_open (entries m) n) (Some (held_of configs m n)) None opened) (itself e))
    ∙ or_true (e == current (entries m))
  where
    e : ℕ
    e = (held_of configs m n).asked.epoch

    or_true : (b : Bool) → (b || true) ≡ true
    or_true true = refl
    or_true false = refl

-- what an open check comes to over its answers, by the state
pub value_held : (configs : List Configuration) (m : Past) (s : State) (n : ℕ) → Stands configs m s
    → check_open (entries m) n ≡ true
    → value_in s (held_of configs m n) ≡ value_over configs (held_of configs m n).asked (held_of configs m n).answers
value_held configs m s n st opened =
    ap (λ (o : Option Configuration). option_map_or (λ config. verdict_over h.answers config h.asked.sight) o
    (value.Verdict (record { allow = false; why = why.Empty })))
    (config_live configs m s h.asked.epoch st (held_live configs m n opened))
  where
    h : Held
    h = held_of configs m n

-- a state that is the same stands too
pub stands_same : (configs : List Configuration) (m : Past) (s t : State) → IsSame t s → Stands configs m s
    → Stands configs m t
stands_same configs m s t is st = record {
  clients_are = λ c. is.clients_are c ∙ st.clients_are c;
  conns_are = is.conns_are ∙ st.conns_are;
  from_are = λ a. is.from_are a ∙ st.from_are a;
  checks_are = is.checks_are ∙ st.checks_are;
  asks_are = is.asks_are ∙ st.asks_are;
  puts_are = is.puts_are ∙ st.puts_are;
  current_is = is.current_is ∙ st.current_is;
  configs_are = λ e. is.configs_are e ∙ st.configs_are e;
  rows_are = λ e c. is.rows_are e c ∙ st.rows_are e c;
  procs_are = is.procs_are ∙ st.procs_are;
  homes_are = λ k. is.homes_are k ∙ st.homes_are k;
  stops_are = λ k. is.stops_are k ∙ st.stops_are k;
  latest_is = is.latest_is ∙ st.latest_is;
  offset_is = is.offset_is ∙ st.offset_is;
}
