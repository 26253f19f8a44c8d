-- Live epochs from whose lists a check was taken away.
use Rattle.std.proofs.Common.{◌≡◌, ◌∙◌, ◌==◌, ◌&&◌, ◌⊎◌, inl, inr, ℕ, List, Bool, true, false, if◌then◌else◌, Option, None, Some, is_some, refl, ap, sym, subst, arith}
use Rattle.std.specs.Option.{option_map}
use Rattle.sq_machine.specs.OpenLookups.{question_of}
use Rattle.sq_model.specs.CheckRows.{Held}
use Rattle.sq_class.specs.Parts.{PartState}
use Rattle.sq_checks.specs.OpenChecks.{CheckParts}
use Rattle.sq_checks.specs.Stages.{need_in}
use Rattle.sq_checks.specs.Tables.{value_at}
use Rattle.sq_checks.specs.declared.stages.Need.{Need}
use Rattle.sq_epochs.specs.EpochChanges.{HasLeft}
use Rattle.sq_epochs.specs.EpochStates.{EpochsState, IsChanged, epoch_at, home_at, part_at, row_at}
use Rattle.sq_engine.specs.Engines.{AreCounted, IsEngine, asked_of, waits_at}
use Rattle.sq_engine.specs.EngineViews.{EngineView, config_in, stop_at}
use Rattle.sq_engine.proofs.PartLaws.{IsHere, IsOther, part_found, part_there}
use Rattle.sq_engine.proofs.PlaceLaws.{PartChanged, configs_kept, counted_part, part_changed}
use Rattle.sq_engine.proofs.TableLaws.{number_is, number_sym}

-- a part that is found was there with this row, and check n waits in it no more
pub record WasPart (n : ℕ) (old : Option PartState) (p : PartState) : Type 0 where
  pub part : PartState
  pub was : old ≡ Some part
  pub row_is : p.row ≡ part.row
  pub waiting_are : (m : ℕ) → question_of m p.waiting ≡ (if m == n then None else question_of m part.waiting)

-- check n waits in no class, and nothing else changed
pub record LeftBy (n : ℕ) (old new : EpochsState) : Type 0 where
  pub current_is : new.current ≡ old.current
  pub procs_are : new.procs ≡ old.procs
  pub homes_are : (k : ℕ) → home_at new k ≡ home_at old k
  pub stops_are : (k : ℕ) → stop_at new k ≡ stop_at old k
  pub configs_are : (f : ℕ) → config_in (epoch_at new f) ≡ config_in (epoch_at old f)
  pub rows_are : (f d : ℕ) → row_at new f d ≡ row_at old f d
  pub counted : (checks : List Held) → AreCounted old.current (epoch_at old) checks
      → AreCounted new.current (epoch_at new) checks
  pub parts_are : (f d : ℕ) (p : PartState) → part_at new f d ≡ Some p → WasPart n (part_at old f d) p
  pub there : (f d : ℕ) → is_some (part_at old f d) ≡ true → is_some (part_at new f d) ≡ true

none_either : (b : Bool) (o : Option ℕ) → o ≡ None → (if b then o else None) ≡ None
none_either true o e = e
none_either false o e = refl

if_same : (b : Bool) (o : Option ℕ) → (b ≡ true → o ≡ None) → o ≡ (if b then None else o)
if_same true o e = e refl
if_same false o e = refl

-- a check that waits for nothing waits in none
pub left_none : (v : EngineView) (n : ℕ) (k : CheckParts) → IsEngine v → value_at v.checks n ≡ Some k
    → need_in k.stage ≡ None → LeftBy n v.epochs v.epochs
left_none v n k i found none = record {
  current_is = refl;
  procs_are = refl;
  homes_are = λ j. refl;
  stops_are = λ j. refl;
  configs_are = λ f. refl;
  rows_are = λ f d. refl;
  counted = λ checks a. a;
  parts_are = λ f d p is. record {
    part = p;
    was = is;
    row_is = refl;
    waiting_are = λ m. if_same (m == n) (question_of m p.waiting)
        (λ x. i.waiting.waits f d p is m ∙ ap (λ z. waits_at f d (value_at v.checks z)) (number_is m n x)
        ∙ ap (waits_at f d) found
        ∙ none_either (f == k.epoch) (asked_of d (need_in k.stage)) (ap (asked_of d) none));
  };
  there = λ f d is. is;
}

both : (a b : Bool) → (a && b) ≡ true → (a ≡ true) × (b ≡ true)
both true b h = (refl, h)
both false b h = absurd (cc)

-- rows of which one was changed to itself
pub rows_kept : (e c : ℕ) (before after : PartState) (old new : EpochsState) → PartChanged e c before after old new
    → after.row ≡ before.row → (f d : ℕ) → row_at new f d ≡ row_at old f d
rows_kept e c before after old new k row f d = by (e == f && c == d) refl
  where
    by : (b : Bool) → (e == f && c == d) ≡ b → row_at new f d ≡ row_at old f d
    by true x =
        let two = both (e == f) (c == d) x in
        let here : row_at new e c ≡ row_at old e c = ap (option_map (λ p. p.row)) k.here ∙ ap Some row
        ∙ sym (ap (option_map (λ p. p.row)) k.was) in
        subst (λ g. row_at new g d ≡ row_at old g d) (number_is e f two.0)
        (subst (λ j. row_at new e j ≡ row_at old e j) (number_is c d two.1) here)
    by false x = ap (option_map (λ p. p.row)) (k.other f d x)

same_number : (a b : ℕ) → a ≡ b → (a == b) ≡ true
same_number a b e = grind (arith, e)

elsewhere : (e c f d q : ℕ) (b : Bool) → (f == e) ≡ b → (e == f && c == d) ≡ false
    → (if b then (if d == c then Some q else None) else None) ≡ None
elsewhere e c f d q false x apart = refl
elsewhere e c f d q true x apart =
    let ef : (e == f) ≡ true = number_sym e f ∙ x in
    let cd : (d == c) ≡ false = number_sym d c ∙ other (e == f) (c == d) apart ef in
    ap (λ z. if z then Some q else None) cd
  where
    other : (a b : Bool) → (a && b) ≡ false → a ≡ true → b ≡ false
    other true b x y = x
    other false b x y = absurd (cc)

-- a check that waits in this class waits in none after it left that
pub left_part : (v : EngineView) (n : ℕ) (k : CheckParts) (x : Need) (new : EpochsState) → IsEngine v
    → value_at v.checks n ≡ Some k → need_in k.stage ≡ Some x
    → IsChanged k.epoch x.class (HasLeft n) v.epochs new → LeftBy n v.epochs new
left_part v n k x new i found needs ch = record {
  current_is = p.current_is;
  procs_are = p.procs_are;
  homes_are = p.homes_are;
  stops_are = p.stops_are;
  configs_are = λ f. configs_kept k.epoch x.class ch.before ch.after v.epochs new p f;
  rows_are = λ f d. rows_kept k.epoch x.class ch.before ch.after v.epochs new p ch.change.row_is f d;
  counted = λ checks a. counted_part k.epoch x.class ch.before ch.after v.epochs new checks p a;
  parts_are = λ f d q is. by f d q (part_found k.epoch x.class ch.before ch.after v.epochs new p f d q is);
  there = λ f d is. part_there k.epoch x.class ch.before ch.after v.epochs new p f d is;
}
  where
    p : PartChanged k.epoch x.class ch.before ch.after v.epochs new
    p = part_changed k.epoch x.class (HasLeft n) v.epochs new ch

    by : (f d : ℕ) (q : PartState)
        → IsHere k.epoch x.class f d ch.after q ⊎ IsOther k.epoch x.class f d (part_at v.epochs f d) q
        → WasPart n (part_at v.epochs f d) q
    by f d q (inl h) = record {
      part = ch.before;
      was = ap (λ z. part_at v.epochs z d) (sym h.epoch_is) ∙ ap (part_at v.epochs k.epoch) (sym h.class_is) ∙ ch.was;
      row_is = ap (λ z. z.row) (sym h.part_is) ∙ ch.change.row_is;
      waiting_are = λ m. ap (λ z. question_of m z.waiting) (sym h.part_is) ∙ ch.change.waiting_are m;
    }
    by f d q (inr o) = record {
      part = q;
      was = o.was;
      row_is = refl;
      waiting_are = λ m. if_same (m == n) (question_of m q.waiting)
          (λ y. i.waiting.waits f d q o.was m ∙ ap (λ z. waits_at f d (value_at v.checks z)) (number_is m n y)
          ∙ ap (waits_at f d) found
          ∙ ap (λ z. if f == k.epoch then asked_of d z else None) needs
          ∙ elsewhere k.epoch x.class f d x.question (f == k.epoch) refl o.apart);
    }
