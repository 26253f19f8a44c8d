-- What is found by number in live epochs of which one, or one part of one, was changed.
use Rattle.std.proofs.Common.{◌≡◌, ◌∙◌, ◌==◌, ◌&&◌, ℕ, zero, suc, List, [], ◌∷◌, Bool, true, false, length, Option, None, Some, is_some, refl, ap, sym, subst, arith}
use Rattle.std.proofs.lemmas.Option.{same_Some}
use Rattle.std.specs.List.{slice_get}
use Rattle.std.specs.Prelude.{slice_set}
use Rattle.sq_class.specs.Parts.{PartState}
use Rattle.sq_model.specs.CheckRows.{Held}
use Rattle.sq_checks.specs.OpenChecks.{CheckParts}
use Rattle.sq_epochs.specs.EpochStates.{EpochState, EpochsState, IsChanged, change_epoch, epoch_at, epoch_in, home_at, part_at, part_of, with_part}
use Rattle.sq_engine.specs.Engines.{AreConfigured, AreCounted}
use Rattle.sq_engine.specs.EngineViews.{config_in, stop_at}
use Rattle.sq_engine.proofs.TableLaws.{mapped_if, number_self}

together : (a b c : ℕ) → (a == c) ≡ true → (b == c) ≡ true → (a == b) ≡ true
together a b c x y = grind (arith, x, y)

apart : (a b c : ℕ) → (a == c) ≡ true → (b == c) ≡ false → (a == b) ≡ false
apart a b c x y = grind (arith, x, y)

apart_left : (a b c : ℕ) → (a == c) ≡ false → (b == c) ≡ true → (a == b) ≡ false
apart_left a b c x y = grind (arith, x, y)

mapped_none : {A : Type 0} (b : Bool) (f : A → A) → mapped_if b f None ≡ None
mapped_none true f = refl
mapped_none false f = refl

-- the epoch with a number, where one was changed that keeps its number
pub epoch_changed : (e f : ℕ) (g : EpochState → EpochState) (xs : List EpochState)
    → ((x : EpochState) → (g x).epoch ≡ x.epoch)
    → epoch_in f (change_epoch e g xs) ≡ mapped_if (e == f) g (epoch_in f xs)
epoch_changed e f g [] keeps = sym (mapped_none (e == f) g)
epoch_changed e f g (x ∷ xs) keeps = by (e == x.epoch) (f == x.epoch) refl refl (epoch_changed e f g xs keeps)
  where
    by : (s t : Bool) → (e == x.epoch) ≡ s → (f == x.epoch) ≡ t
        → epoch_in f (change_epoch e g xs) ≡ mapped_if (e == f) g (epoch_in f xs)
        → epoch_in f (change_epoch e g (x ∷ xs)) ≡ mapped_if (e == f) g (epoch_in f (x ∷ xs))
    by true true s t more = let head : (f == (g x).epoch) ≡ true = ap (λ z. f == z) (keeps x) ∙ t in
        rw (s, head, t, together e f x.epoch s t) refl
    by true false s t more = let head : (f == (g x).epoch) ≡ false = ap (λ z. f == z) (keeps x) ∙ t in
        rw (s, head, t, apart e f x.epoch s t) refl
    by false true s t more = rw (s, t, apart_left e f x.epoch s t) refl
    by false false s t more = rw (s, t) more

-- the part at a place that was set
set_here : (xs : List PartState) (c : ℕ) (a b : PartState) → slice_get xs c ≡ Some b
    → slice_get (slice_set xs c a) c ≡ Some a
set_here [] c a b e = absurd (cc)
set_here (x ∷ xs) zero a b e = refl
set_here (x ∷ xs) (suc c) a b e = set_here xs c a b e

set_else : (xs : List PartState) (c d : ℕ) (a : PartState) → (c == d) ≡ false
    → slice_get (slice_set xs c a) d ≡ slice_get xs d
set_else [] c d a e = refl
set_else (x ∷ xs) zero zero a e = absurd (cc)
set_else (x ∷ xs) zero (suc d) a e = refl
set_else (x ∷ xs) (suc c) zero a e = refl
set_else (x ∷ xs) (suc c) (suc d) a e = set_else xs c d a (down c d e)
  where
    down : (c d : ℕ) → (suc c == suc d) ≡ false → (c == d) ≡ false
    down c d e = grind (arith, e)

set_length : (xs : List PartState) (c : ℕ) (a : PartState) → length (slice_set xs c a) ≡ length xs
set_length [] c a = refl
set_length (x ∷ xs) zero a = refl
set_length (x ∷ xs) (suc c) a = ap suc (set_length xs c a)

-- one part was changed, as it is found by number
pub record PartChanged (e c : ℕ) (before after : PartState) (old new : EpochsState) : Type 0 where
  pub current_is : new.current ≡ old.current
  pub procs_are : new.procs ≡ old.procs
  pub homes_are : (k : ℕ) → home_at new k ≡ home_at old k
  pub stops_are : (k : ℕ) → stop_at new k ≡ stop_at old k
  pub epochs_are : (f : ℕ) → epoch_at new f ≡ mapped_if (e == f) (with_part c after) (epoch_at old f)
  pub was : part_at old e c ≡ Some before
  pub here : part_at new e c ≡ Some after
  pub other : (f d : ℕ) → (e == f && c == d) ≡ false → part_at new f d ≡ part_at old f d

here_set : (c : ℕ) (a b : PartState) (o : Option EpochState) → part_of c o ≡ Some b
    → part_of c (mapped_if true (with_part c a) o) ≡ Some a
here_set c a b None e = absurd (cc)
here_set c a b (Some x) e = set_here x.parts c a b e

other_set : (b : Bool) (c d : ℕ) (a : PartState) (o : Option EpochState) → (b && c == d) ≡ false
    → part_of d (mapped_if b (with_part c a) o) ≡ part_of d o
other_set false c d a o e = refl
other_set true c d a None e = refl
other_set true c d a (Some x) e = set_else x.parts c d a e

pub part_changed : (e c : ℕ) (Change : PartState → PartState → Type 0) (old new : EpochsState)
    (i : IsChanged e c Change old new) → PartChanged e c i.before i.after old new
part_changed e c Change old new i =
    let at = λ (f : ℕ). ap (λ z. epoch_at z f) i.new_is
    ∙ epoch_changed e f (with_part c i.after) old.epochs (λ x. refl) in
    record {
      current_is = ap (λ z. z.current) i.new_is;
      procs_are = ap (λ z. z.procs) i.new_is;
      homes_are = λ k. ap (λ z. home_at z k) i.new_is;
      stops_are = λ k. ap (λ z. stop_at z k) i.new_is;
      epochs_are = at;
      was = i.was;
      here = ap (part_of c) (at e)
          ∙ ap (λ b. part_of c (mapped_if b (with_part c i.after) (epoch_at old e))) (number_self e)
          ∙ here_set c i.after i.before (epoch_at old e) i.was;
      other = λ f d apart. ap (part_of d) (at f) ∙ other_set (e == f) c d i.after (epoch_at old f) apart;
    }

same_config : (b : Bool) (c : ℕ) (a : PartState) (o : Option EpochState)
    → config_in (mapped_if b (with_part c a) o) ≡ config_in o
same_config false c a o = refl
same_config true c a None = refl
same_config true c a (Some x) = refl

same_there : (b : Bool) (g : EpochState → EpochState) (o : Option EpochState) → is_some (mapped_if b g o) ≡ is_some o
same_there false g o = refl
same_there true g None = refl
same_there true g (Some x) = refl

-- an epoch that is found was there, with as many checks, the same configuration, and as many parts
pub record WasEpoch (o : Option EpochState) (x : EpochState) : Type 0 where
  pub epoch : EpochState
  pub was : o ≡ Some epoch
  pub checks_are : x.checks ≡ epoch.checks
  pub config_is : x.config ≡ epoch.config
  pub length_is : length x.parts ≡ length epoch.parts

was_epoch : (b : Bool) (c : ℕ) (a : PartState) (o : Option EpochState) (x : EpochState)
    → mapped_if b (with_part c a) o ≡ Some x → WasEpoch o x
was_epoch false c a o x e = record { epoch = x; was = e; checks_are = refl; config_is = refl; length_is = refl }
was_epoch true c a None x e = absurd (cc)
was_epoch true c a (Some y) x e =
    let same : with_part c a y ≡ x = same_Some _ _ e in
    record {
      epoch = y;
      was = refl;
      checks_are = ap (λ z. z.checks) (sym same);
      config_is = ap (λ z. z.config) (sym same);
      length_is = ap (λ z. length z.parts) (sym same) ∙ set_length y.parts c a;
    }

-- the configurations are as they were
pub configs_kept : (e c : ℕ) (before after : PartState) (old new : EpochsState) → PartChanged e c before after old new
    → (f : ℕ) → config_in (epoch_at new f) ≡ config_in (epoch_at old f)
configs_kept e c before after old new p f = ap config_in (p.epochs_are f)
    ∙ same_config (e == f) c after (epoch_at old f)

pub configured_part : (e c : ℕ) (before after : PartState) (old new : EpochsState) (check : ℕ → Option CheckParts)
    → PartChanged e c before after old new
    → AreConfigured (epoch_at old) check → AreConfigured (epoch_at new) check
configured_part e c before after old new check p a = λ n k is. configs_kept e c before after old new p k.epoch
    ∙ a n k is

pub counted_part : (e c : ℕ) (before after : PartState) (old new : EpochsState) (checks : List Held)
    → PartChanged e c before after old new
    → AreCounted old.current (epoch_at old) checks → AreCounted new.current (epoch_at new) checks
counted_part e c before after old new checks p a =
    subst (λ k. AreCounted k (epoch_at new) checks) (sym p.current_is) record {
      live = λ f. ap is_some (p.epochs_are f) ∙ same_there (e == f) (with_part c after) (epoch_at old f) ∙ a.live f;
      counts = λ f x is. let w = was_epoch (e == f) c after (epoch_at old f) x (sym (p.epochs_are f) ∙ is) in
          w.checks_are ∙ a.counts f w.epoch w.was;
      parts = λ f x is. let w = was_epoch (e == f) c after (epoch_at old f) x (sym (p.epochs_are f) ∙ is) in
          w.length_is ∙ a.parts f w.epoch w.was ∙ ap (λ z. length z.classes) (sym w.config_is);
    }
