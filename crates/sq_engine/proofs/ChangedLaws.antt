-- An engine of which one check was changed is an engine still.
use Rattle.std.proofs.Common.{◌≡◌, ◌∙◌, ◌==◌, ℕ, List, Bool, true, false, if◌then◌else◌, Option, None, Some, IfSome, OnOk, OnErr, Ok, Err, is_some, refl, ap, sym, subst}
use Rattle.std.proofs.lemmas.Option.{none-some, same_Some}
use Rattle.std.specs.declared.result.Result.{Result}
use Rattle.sq_checks.specs.Conns.{check_in}
use Rattle.sq_checks.specs.OpenChecks.{CheckParts, change_at, finished, looked, rows_of, settled, settled_by, waited}
use Rattle.sq_checks.specs.Stages.{came_in, need_in}
use Rattle.sq_checks.specs.Tables.{value_at}
use Rattle.sq_checks.specs.declared.stages.CheckStage.{CheckStage}
use Rattle.sq_checks.specs.declared.stages.CheckStage.TheVariants as stage
use Rattle.sq_rules.specs.declared.outcomes.Outcome.{Outcome}
use Rattle.sq_epochs.specs.EpochStates.{EpochState, epoch_at, part_at}
use Rattle.sq_class.specs.Parts.{PartState}
use Rattle.sq_engine.proofs.KeyLaws.{keyed_from}
use Rattle.sq_engine.specs.Engines.{AreKeyed, AreAsked, AreConfigured, AreCounted, AreWaiting, IsEngine, asked_of, waits_at}
use Rattle.sq_engine.specs.EngineViews.{EngineView, config_in}
use Rattle.sq_engine.proofs.TableLaws.{changed_at, mapped_if, number_is}

-- a check that is of the same epoch and waits for the same
pub record Keeps (k j : CheckParts) : Type 0 where
  pub epoch_is : j.epoch ≡ k.epoch
  pub config_is : j.config ≡ k.config
  pub need_is : need_in j.stage ≡ need_in k.stage

keeps_self : (k : CheckParts) → Keeps k k
keeps_self k = record { epoch_is = refl; config_is = refl; need_is = refl }

-- a check that is of the same epoch
pub record KeepsEpoch (k j : CheckParts) : Type 0 where
  pub epoch_is : j.epoch ≡ k.epoch
  pub config_is : j.config ≡ k.config

-- a check that is found was there, or is what a check became that was
pub record WasCheck (P : CheckParts → CheckParts → Type 0) (o : Option CheckParts) (k : CheckParts) : Type 0 where
  pub check : CheckParts
  pub was : o ≡ Some check
  pub keeps : P check k

pub was_check : (P : CheckParts → CheckParts → Type 0) (b : Bool) (f : CheckParts → CheckParts) (o : Option CheckParts)
    (k : CheckParts) → ((j : CheckParts) → P j j)
    → (b ≡ true → (j : CheckParts) → o ≡ Some j → P j (f j)) → mapped_if b f o ≡ Some k → WasCheck P o k
was_check P false f o k self keeps is = record { check = k; was = is; keeps = self k }
was_check P true f None k self keeps is = absurd (none-some k is)
was_check P true f (Some j) k self keeps is = record {
  check = j;
  was = refl;
  keeps = subst (P j) (same_Some _ _ is) (keeps refl j refl);
}

same_wait : (e c : ℕ) (b : Bool) (f : CheckParts → CheckParts) (o : Option CheckParts)
    → (b ≡ true → (j : CheckParts) → o ≡ Some j → Keeps j (f j)) → waits_at e c (mapped_if b f o) ≡ waits_at e c o
same_wait e c false f o keeps = refl
same_wait e c true f None keeps = refl
same_wait e c true f (Some j) keeps =
    let k = keeps refl j refl in
    ap (λ z. if e == z then asked_of c (need_in (f j).stage) else None) k.epoch_is
    ∙ ap (λ z. if e == j.epoch then asked_of c z else None) k.need_is

-- each check is of the configuration of its epoch still
pub configured_changed : (epoch : ℕ → Option EpochState) (es : List (ℕ × CheckParts)) (n : ℕ)
    (f : CheckParts → CheckParts)
    → ((m : ℕ) → (n == m) ≡ true → (j : CheckParts) → value_at es m ≡ Some j → KeepsEpoch j (f j))
    → AreConfigured epoch (value_at es) → AreConfigured epoch (value_at (change_at n f es))
configured_changed epoch es n f keeps a = λ m k is.
    let w = was_check KeepsEpoch (n == m) f (value_at es m) k (λ j. record { epoch_is = refl; config_is = refl })
    (keeps m) (sym (changed_at n m f es) ∙ is) in
    ap (λ z. config_in (epoch z)) w.keeps.epoch_is ∙ a m w.check w.was ∙ ap Some (sym w.keeps.config_is)

-- and waits where it waited
pub waiting_changed : (part : ℕ → ℕ → Option PartState) (es : List (ℕ × CheckParts)) (n : ℕ)
    (f : CheckParts → CheckParts)
    → ((m : ℕ) → (n == m) ≡ true → (j : CheckParts) → value_at es m ≡ Some j → Keeps j (f j))
    → AreWaiting part (value_at es) → AreWaiting part (value_at (change_at n f es))
waiting_changed part es n f keeps a = record {
  waits = λ e c p is m. a.waits e c p is m
      ∙ sym (ap (waits_at e c) (changed_at n m f es) ∙ same_wait e c (n == m) f (value_at es m) (keeps m));
  there = λ m k x is needs.
      let w = was_check Keeps (n == m) f (value_at es m) k keeps_self (keeps m) (sym (changed_at n m f es) ∙ is) in
      ap (λ z. is_some (part z x.class)) w.keeps.epoch_is ∙ a.there m w.check x w.was (sym w.keeps.need_is ∙ needs);
}

-- and waits with the key with which it waited
pub keyed_changed : (part : ℕ → ℕ → Option PartState) (es : List (ℕ × CheckParts)) (n : ℕ) (f : CheckParts → CheckParts)
    → ((m : ℕ) → (n == m) ≡ true → (j : CheckParts) → value_at es m ≡ Some j → Keeps j (f j))
    → AreKeyed part (value_at es) → AreKeyed part (value_at (change_at n f es))
keyed_changed part es n f keeps a =
    keyed_from part part (value_at es) (value_at (change_at n f es)) a
    (λ e c p is. record { part = p; was = is; lookups_are = refl })
    (λ m k x is needs.
    let w = was_check Keeps (n == m) f (value_at es m) k keeps_self (keeps m) (sym (changed_at n m f es) ∙ is) in
    record { check = w.check; was = w.was; epoch_is = sym w.keeps.epoch_is; need_is = sym w.keeps.need_is ∙ needs })

-- the engine after such a change of a check, where its row is one of the same check
pub changed_engine : (v : EngineView) (cs : List (ℕ × CheckParts)) (t n : ℕ) (f : CheckParts → CheckParts) → IsEngine v
    → cs ≡ change_at n f v.checks
    → AreAsked (check_in v.conns) (rows_of cs) v.asks → AreCounted v.epochs.current (epoch_at v.epochs) (rows_of cs)
    → ((m : ℕ) → (n == m) ≡ true → (j : CheckParts) → value_at v.checks m ≡ Some j → Keeps j (f j))
    → IsEngine (record v { checks = cs; latest = t })
changed_engine v cs t n f i list asked counted keeps = record {
  asked = asked;
  counted = counted;
  configured = subst (λ es. AreConfigured (epoch_at v.epochs) (value_at es)) (sym list)
      (configured_changed (epoch_at v.epochs) v.checks n f
      (λ m same j is. let k = keeps m same j is in record { epoch_is = k.epoch_is; config_is = k.config_is })
      i.configured);
  waiting = subst (λ es. AreWaiting (part_at v.epochs) (value_at es)) (sym list)
      (waiting_changed (part_at v.epochs) v.checks n f keeps i.waiting);
  fed = i.fed;
  keyed = subst (λ es. AreKeyed (part_at v.epochs) (value_at es)) (sym list)
      (keyed_changed (part_at v.epochs) v.checks n f keeps i.keyed);
  setup_is = i.setup_is;
}

pub some_has : (P : CheckParts → Type 0) (o : Option CheckParts) (j : CheckParts) → IfSome o P → o ≡ Some j → P j
some_has P None j h e = absurd (none-some j e)
some_has P (Some k) j h e = subst P (same_Some _ _ e) h

-- what holds of check n holds of what is found at its number
pub at_number : (P : CheckParts → Type 0) (es : List (ℕ × CheckParts)) (n m : ℕ) → (n == m) ≡ true → (j : CheckParts)
    → value_at es m ≡ Some j → IfSome (value_at es n) P → P j
at_number P es n m same j is h = some_has P (value_at es n) j h (ap (value_at es) (number_is n m same) ∙ is)

settled_need : (s : CheckStage) (k : CheckParts) → k.stage ≡ s → Keeps k (settled_by k (came_in s))
settled_need stage.Ready k e = keeps_self k
settled_need (stage.Came a) k e = record { epoch_is = refl; config_is = refl; need_is = ap need_in (sym e) }
settled_need (stage.Waits n) k e = keeps_self k
settled_need (stage.Done o) k e = keeps_self k

-- an answer that came, put among the others
pub settled_keeps : (k : CheckParts) → Keeps k (settled k)
settled_keeps k = settled_need k.stage k refl

-- a verdict, of a check that waits for nothing
pub finished_keeps : (o : Outcome) (k : CheckParts) → need_in k.stage ≡ None → Keeps k (finished o k)
finished_keeps o k e = record { epoch_is = refl; config_is = refl; need_is = sym e }

-- a step of a check that waits on
pub waited_keeps : (k : CheckParts) → Keeps k (waited k)
waited_keeps k = record { epoch_is = refl; config_is = refl; need_is = refl }

-- the engine after such an answer was put among the others of a check, or was not
pub settled_engine : {A E : Type 0} (v : EngineView) (cs : List (ℕ × CheckParts)) (n : ℕ) (r : Result A E) → IsEngine v
    → OnOk r (cs ≡ change_at n settled v.checks)
    → OnOk r (rows_of cs ≡ rows_of v.checks) → OnErr r (cs ≡ v.checks) → IsEngine (record v { checks = cs })
settled_engine v cs n (Ok a) i list rows same =
    changed_engine v cs v.latest n settled i list (subst (λ r. AreAsked (check_in v.conns) r v.asks) (sym rows) i.asked)
    (subst (λ r. AreCounted v.epochs.current (epoch_at v.epochs) r) (sym rows) i.counted)
    (λ m here j is. settled_keeps j)
settled_engine v cs n (Err e) i list rows same = subst (λ es. IsEngine (record v { checks = es })) (sym same) i

-- the engine after more looks of a check
pub looked_engine : (v : EngineView) (cs : List (ℕ × CheckParts)) (n looks : ℕ) → IsEngine v
    → cs ≡ change_at n (looked looks) v.checks → rows_of cs ≡ rows_of v.checks
    → IsEngine (record v { checks = cs })
looked_engine v cs n looks i list rows =
    changed_engine v cs v.latest n (looked looks) i list
    (subst (λ r. AreAsked (check_in v.conns) r v.asks) (sym rows) i.asked)
    (subst (λ r. AreCounted v.epochs.current (epoch_at v.epochs) r) (sym rows) i.counted)
    (λ m here j is. record { epoch_is = refl; config_is = refl; need_is = refl })
