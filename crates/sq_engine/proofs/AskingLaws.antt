-- The class and the check of a step that asks a class.
use Rattle.std.proofs.Common.{◌≡◌, ◌∙◌, ◌==◌, ℕ, zero, suc, List, [], ◌∷◌, Bool, true, false, if◌then◌else◌, length, Option, None, Some, IfSome, is_some, refl, ap, sym, subst, arith}
use Rattle.std.specs.List.{slice_get}
use Rattle.sq_rules.specs.Classes.{Class}
use Rattle.sq_machine.specs.Farms.{full}
use Rattle.sq_machine.specs.OpenLookups.{pending_in, question_of}
use Rattle.sq_model.specs.declared.stepping.StepEffect.{StepEffect}
use Rattle.sq_class.specs.Parts.{PartState}
use Rattle.sq_checks.proofs.StepLaws.{need_noted}
use Rattle.sq_checks.specs.OpenChecks.{IsNoted}
use Rattle.sq_checks.specs.Stages.{need_in}
use Rattle.sq_checks.specs.Tables.{value_at}
use Rattle.sq_epochs.specs.EpochChanges.{IsResolved}
use Rattle.sq_epochs.specs.EpochStates.{EpochState, EpochsState, IsChanged, class_at, class_of, epoch_at, part_at, part_of}
use Rattle.sq_engine.specs.Engines.{IsEngine, asked_of, waits_at}
use Rattle.sq_engine.specs.EngineViews.{EngineView}
use Rattle.sq_engine.proofs.ChangedLaws.{some_has}
use Rattle.sq_engine.proofs.ResolvedLaws.{IsAsking}

-- what is there
pub some_of : {A : Type 0} (o : Option A) → is_some o ≡ true → (x : A) × (o ≡ Some x)
some_of None e = absurd (cc)
some_of (Some x) e = (x, refl)

less : (a b : ℕ) → suc a ≡ suc b → a ≡ b
less a b e = omega (arith, e)

same_place : {A B : Type 0} (xs : List A) (ys : List B) (c : ℕ) → length xs ≡ length ys
    → is_some (slice_get xs c) ≡ true → is_some (slice_get ys c) ≡ true
same_place [] ys c e is = absurd (cc)
same_place (x ∷ xs) [] c e is = absurd (none e)
  where
    none : suc (length xs) ≡ 0 → ⊥
    none e = omega (arith, e)
same_place (x ∷ xs) (y ∷ ys) zero e is = refl
same_place (x ∷ xs) (y ∷ ys) (suc c) e is = same_place xs ys c (less (length xs) (length ys) e) is

-- a class stands where a part stands
pub class_there : (v : EngineView) (e c : ℕ) → IsEngine v → is_some (part_at v.epochs e c) ≡ true
    → (class : Class) × (class_at v.epochs e c ≡ Some class)
class_there v e c i there = by (epoch_at v.epochs e) refl there
  where
    by : (o : Option EpochState) → epoch_at v.epochs e ≡ o → is_some (part_of c o) ≡ true
        → (class : Class) × (class_at v.epochs e c ≡ Some class)
    by None at is = absurd (cc)
    by (Some x) at is =
        let k = some_of (slice_get x.config.classes c)
        (same_place x.parts x.config.classes c (i.counted.parts e x at) is) in
        (k.0, ap (class_of c) at ∙ k.1)

-- and a part where a class stands
pub part_of_class : (v : EngineView) (e c : ℕ) → IsEngine v → is_some (class_at v.epochs e c) ≡ true
    → is_some (part_at v.epochs e c) ≡ true
part_of_class v e c i there = by (epoch_at v.epochs e) refl there
  where
    by : (o : Option EpochState) → epoch_at v.epochs e ≡ o → is_some (class_of c o) ≡ true
        → is_some (part_at v.epochs e c) ≡ true
    by None at is = absurd (cc)
    by (Some x) at is = ap (λ o. is_some (part_of c o)) at
        ∙ same_place x.config.classes x.parts c (sym (i.counted.parts e x at)) is

pub asking : (v : EngineView) (e n : ℕ) → is_some (value_at v.checks n) ≡ true
    → IfSome (value_at v.checks n) (λ k. k.epoch ≡ e) → IfSome (value_at v.checks n) (λ k. need_in k.stage ≡ None)
    → IsAsking v e n
asking v e n there epoch none =
    let k = some_of (value_at v.checks n) there in
    record {
      check = k.0;
      found = k.1;
      epoch_is = some_has (λ z. z.epoch ≡ e) (value_at v.checks n) k.0 epoch k.1;
      need_none = some_has (λ z. need_in z.stage ≡ None) (value_at v.checks n) k.0 none k.1;
    }

none_either : (b : Bool) (o : Option ℕ) → o ≡ None → (if b then o else None) ≡ None
none_either true o e = e
none_either false o e = refl

-- a check that waits for nothing is listed in no class
pub free_asking : (v : EngineView) (e c n : ℕ) (p : PartState) → IsEngine v → IsAsking v e n
    → part_at v.epochs e c ≡ Some p → question_of n p.waiting ≡ None
free_asking v e c n p i a is = i.waiting.waits e c p is n ∙ ap (waits_at e c) a.found
    ∙ none_either (e == a.check.epoch) (asked_of c (need_in a.check.stage)) (ap (asked_of c) a.need_none)

-- what a step says that asked a class can be noted
pub said_noted : (e c n t count : ℕ) (key : List ℕ) (class : Class) (said : StepEffect) (old new : EpochsState)
    → IsChanged e c (IsResolved class c key (record { now = t; check = n; count = count }) said) old new
    → IsNoted c key said
said_noted e c n t count key class said old new ch =
    subst (IsNoted c key) (sym (ch.change e).said_is)
    (need_noted class (record { epoch = e; class = c; key = key }) t ch.before.row.kept
    (pending_in key ch.before.row.lookups) (full ch.before.row.stock) count c)
