-- What holds of the parts of an engine of which one was changed.
use Rattle.std.proofs.Common.{◌≡◌, ◌∙◌, ◌==◌, ◌&&◌, ◌⊎◌, inl, inr, ◌<◌, ℕ, suc, [], Bool, true, false, Option, Some, is_some, refl, ap, sym}
use Rattle.std.proofs.lemmas.Option.{same_Some}
use Rattle.sq_machine.specs.Limits.{last_number}
use Rattle.sq_machine.specs.OpenLookups.{all_below, is_open_lookup, question_of}
use Rattle.sq_checks.specs.OpenChecks.{CheckParts}
use Rattle.sq_checks.specs.Stages.{need_in}
use Rattle.sq_checks.specs.declared.stages.Need.{Need}
use Rattle.sq_epochs.specs.EpochStates.{EpochsState, part_at}
use Rattle.sq_class.specs.Parts.{PartState}
use Rattle.sq_engine.specs.Engines.{AreFed, AreWaiting, waits_at}
use Rattle.sq_engine.proofs.PlaceLaws.{PartChanged}
use Rattle.sq_engine.proofs.TableLaws.{number_is}

-- a part that is found is the one that was changed
pub record IsHere (e c f d : ℕ) (after p : PartState) : Type 0 where
  pub epoch_is : e ≡ f
  pub class_is : c ≡ d
  pub part_is : after ≡ p

-- or another, as it was
pub record IsOther (e c f d : ℕ) (old : Option PartState) (p : PartState) : Type 0 where
  pub apart : (e == f && c == d) ≡ false
  pub was : old ≡ Some p

both : (a b : Bool) → (a && b) ≡ true → (a ≡ true) × (b ≡ true)
both true b h = (refl, h)
both false b h = absurd (cc)

pub part_found : (e c : ℕ) (before after : PartState) (old new : EpochsState) → PartChanged e c before after old new
    → (f d : ℕ) (p : PartState) → part_at new f d ≡ Some p
    → IsHere e c f d after p ⊎ IsOther e c f d (part_at old f d) p
part_found e c before after old new k f d p is = by (e == f && c == d) refl
  where
    by : (b : Bool) → (e == f && c == d) ≡ b → IsHere e c f d after p ⊎ IsOther e c f d (part_at old f d) p
    by true t =
        let s = both (e == f) (c == d) t in
        let ee : e ≡ f = number_is e f s.0 in
        let cd : c ≡ d = number_is c d s.1 in
        inl (record {
          epoch_is = ee;
          class_is = cd;
          part_is = same_Some _ _ (sym k.here ∙ ap (part_at new e) cd ∙ ap (λ z. part_at new z d) ee ∙ is);
        })
    by false t = inr (record { apart = t; was = sym (k.other f d t) ∙ is })

-- a class is there that was there
pub part_there : (e c : ℕ) (before after : PartState) (old new : EpochsState) → PartChanged e c before after old new
    → (f d : ℕ) → is_some (part_at old f d) ≡ true → is_some (part_at new f d) ≡ true
part_there e c before after old new k f d there = by (e == f && c == d) refl
  where
    by : (b : Bool) → (e == f && c == d) ≡ b → is_some (part_at new f d) ≡ true
    by true t =
        let s = both (e == f) (c == d) t in
        ap is_some (ap (λ z. part_at new z d) (sym (number_is e f s.0)) ∙ ap (part_at new e) (sym (number_is c d s.1))
        ∙ k.here)
    by false t = ap is_some (k.other f d t) ∙ there

-- what holds of a part after a change: its lost questions were handed out, what is waited for is open,
-- and questions that were not open are new
pub record PartFed (puts : ℕ) (before after : PartState) : Type 0 where
  pub below : all_below (suc puts) after.row.lookups ≡ true
  pub none_lost : after.row.stock.losses ≡ []
  pub waits_open : (n q : ℕ) → question_of n after.waiting ≡ Some q → is_open_lookup q after.row.lookups ≡ true

-- a question that is open after it was open, or is open in no other class
abbrev pub IsOwn : (ℕ → ℕ → Option PartState) → ℕ → ℕ → PartState → PartState → Type 0
IsOwn part e c before after =
    (q : ℕ) → is_open_lookup q after.row.lookups ≡ true
    → (is_open_lookup q before.row.lookups ≡ true)
    ⊎ ((f d : ℕ) (p : PartState) → part f d ≡ Some p → is_open_lookup q p.row.lookups ≡ true → (e ≡ f) × (c ≡ d))

pub two_ways : {A B C : Type 0} → A ⊎ B → (A → C) → (B → C) → C
two_ways (inl a) f g = f a
two_ways (inr b) f g = g b

-- the open questions of an engine of which one part was changed
pub fed_changed : (e c : ℕ) (before after : PartState) (old new : EpochsState) (puts more : ℕ)
    → PartChanged e c before after old new → AreFed (part_at old) puts → PartFed more before after
    → IsOwn (part_at old) e c before after
    → ((rows : PartState) → all_below (suc puts) rows.row.lookups ≡ true → all_below (suc more) rows.row.lookups ≡ true)
    → more < last_number → AreFed (part_at new) more
fed_changed e c before after old new puts more k a fed own higher few = record {
  below = λ f d p is. two_ways (part_found e c before after old new k f d p is)
      (λ h. ap (λ z. all_below (suc more) z.row.lookups) (sym h.part_is) ∙ fed.below)
      (λ o. higher p (a.below f d p o.was));
  apart = λ q f d g i p r is other here there.
      two_ways (part_found e c before after old new k f d p is)
      (λ h. two_ways (part_found e c before after old new k g i r other)
      (λ j. (sym h.epoch_is ∙ j.epoch_is, sym h.class_is ∙ j.class_is))
      (λ o. let w = at_other q g i r o.was (ap (λ z. is_open_lookup q z.row.lookups) h.part_is ∙ here) there in
      (sym h.epoch_is ∙ w.0, sym h.class_is ∙ w.1)))
      (λ o. two_ways (part_found e c before after old new k g i r other)
      (λ j. let w = at_other q f d p o.was (ap (λ z. is_open_lookup q z.row.lookups) j.part_is ∙ there) here in
      (sym w.0 ∙ j.epoch_is, sym w.1 ∙ j.class_is))
      (λ u. a.apart q f d g i p r o.was u.was here there));
  waits_open = λ f d n q p is waits. two_ways (part_found e c before after old new k f d p is)
      (λ h. ap (λ z. is_open_lookup q z.row.lookups) (sym h.part_is)
      ∙ fed.waits_open n q (ap (λ z. question_of n z.waiting) h.part_is ∙ waits))
      (λ o. a.waits_open f d n q p o.was waits);
  none_lost = λ f d p is. two_ways (part_found e c before after old new k f d p is)
      (λ h. ap (λ z. z.row.stock.losses) (sym h.part_is) ∙ fed.none_lost)
      (λ o. a.none_lost f d p o.was);
  few = few;
}
  where
    at_other : (q f d : ℕ) (p : PartState) → part_at old f d ≡ Some p → is_open_lookup q after.row.lookups ≡ true
        → is_open_lookup q p.row.lookups ≡ true → (e ≡ f) × (c ≡ d)
    at_other q f d p was here there = two_ways (own q here) (λ h. a.apart q e c f d before p k.was was h there)
        (λ g. g f d p was there)

-- who waits where, after one part was changed, and checks that wait elsewhere were not
pub waiting_part : (e c : ℕ) (before after : PartState) (old new : EpochsState) (check was : ℕ → Option CheckParts)
    → PartChanged e c before after old new → AreWaiting (part_at old) was
    → ((n : ℕ) → question_of n after.waiting ≡ waits_at e c (check n))
    → ((f d n : ℕ) → (e == f && c == d) ≡ false → is_some (part_at old f d) ≡ true
    → waits_at f d (check n) ≡ waits_at f d (was n))
    → ((n : ℕ) (k : CheckParts) (x : Need) → check n ≡ Some k → need_in k.stage ≡ Some x
    → is_some (part_at old k.epoch x.class) ≡ true) → AreWaiting (part_at new) check
waiting_part e c before after old new check was k a here other there = record {
  waits = λ f d p is n. two_ways (part_found e c before after old new k f d p is)
      (λ h. ap (λ z. question_of n z.waiting) (sym h.part_is) ∙ here n ∙ ap (λ z. waits_at z c (check n)) h.epoch_is
      ∙ ap (λ z. waits_at f z (check n)) h.class_is)
      (λ o. a.waits f d p o.was n ∙ sym (other f d n o.apart (ap is_some o.was)));
  there = λ n j x is needs. part_there e c before after old new k j.epoch x.class (there n j x is needs);
}
