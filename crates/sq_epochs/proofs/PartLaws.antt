-- Laws of a change of one part, in its epoch and in all.
use Rattle.std.proofs.Common.{◌≡◌, ℕ, suc, ◌<◌, List, [], ◌∷◌, map, length, set, true, refl, sym, arith, ap, ◌∙◌, Some, is_some, get_or, subst, IfOk, OnErr, Ok, Err}
use Rattle.std.specs.declared.result.Result.{Result}
use Rattle.std.specs.List.{slice_get}
use Rattle.std.proofs.lemmas.Option.{same_Some, slice_get_read, slice_get_within}
use Rattle.std.proofs.Math.Seq.{map-set_same}
use Rattle.sq_rules.specs.Classes.{Class}
use Rattle.sq_machine.specs.Rising.{place_among}
use Rattle.sq_model.specs.StepRows.{says_of_row}
use Rattle.sq_model.specs.declared.stepping.StepEffect.{StepEffect}
use Rattle.sq_class.specs.Parts.{IsAsBefore, PartState}
use Rattle.sq_class.specs.Steps.{IsSpent}
use Rattle.sq_class.specs.declared.faults.ResolveFault.{ResolveFault}
use Rattle.sq_epochs.specs.EpochChanges.{IsResolved}
use Rattle.sq_epochs.specs.EpochStates.{EpochState, EpochsState, IsChanged, IsEpochChanged, class_at, class_cache, class_of, epoch_at, epoch_number, new_part, part_at, part_limit, part_of, with_part}
use Rattle.sq_epochs.specs.LiveEpochs.{AreEpochs}
use Rattle.sq_epochs.proofs.EpochLaws.{IsPlaced, IsThere, changed, is_there, placed}

pub len_map : {A B : Type 0} (f : A → B) (xs : List A) → length (map f xs) ≡ length xs
len_map f [] = refl
len_map f (x ∷ xs) = ap suc (len_map f xs)

-- the class stands at the place of a part
pub class_there : (classes cs : List Class) (parts : List PartState) (c : ℕ) (k : Class)
    → map part_limit parts ≡ map class_cache classes → c < length parts
    → cs ≡ classes → k ≡ get_or cs c k → slice_get classes c ≡ Some k
class_there classes cs parts c k are w same is =
    let a = len_map part_limit parts in
    let b = len_map class_cache classes in
    let e = ap length are in
    let w' : c < length classes = omega arith in
    slice_get_read classes (length classes) c k refl w' (is ∙ ap (λ z. get_or z c k) same)

-- new parts have the limits of their classes
pub limits_new : (classes : List Class) (parts : List PartState) → parts ≡ map new_part classes
    → map part_limit parts ≡ map class_cache classes
limits_new classes parts are = ap (map part_limit) are ∙ here classes
  where
    here : (classes : List Class) → map part_limit (map new_part classes) ≡ map class_cache classes
    here [] = refl
    here (k ∷ ks) = ap (λ z. k.cache ∷ z) (here ks)

-- the limits are as before, where one part was changed
pub limits_kept : (parts : List PartState) (limits : List ℕ) (c : ℕ) (p q : PartState) → map part_limit parts ≡ limits
    → p ≡ get_or parts c p → q.limit ≡ p.limit → map part_limit (set parts c q) ≡ limits
limits_kept parts limits c p q are is same = map-set_same part_limit parts c q p (same ∙ ap part_limit is) ∙ are

-- a step keeps the limit
pub limit_kept : (r : Result StepEffect ResolveFault) (class : Class) (place : ℕ) (key : List ℕ) (now check count : ℕ)
    (old new : PartState)
    → IfOk r (λ s. IsResolved class place key (record { now = now; check = check; count = count }) s old new)
    → OnErr r (IsAsBefore old new) → new.limit ≡ old.limit
limit_kept (Ok s) class place key now check count old new ok err = (ok 0).limit_is
limit_kept (Err e) class place key now check count old new ok err = err.limit_is

-- a change of a part is one of its epoch
pub epoch_changed : (old v new : EpochState) (c : ℕ) (p q : PartState) (Change : PartState → PartState → Type 0)
    → old ≡ v → c < length v.parts → p ≡ get_or old.parts c p
    → Change p q → new ≡ with_part c q old → IsEpochChanged c Change v new
epoch_changed old v new c p q Change same within is change n =
    subst (λ z. IsEpochChanged c Change z new) same (record {
      before = p;
      after = q;
      was = slice_get_read old.parts (length old.parts) c p refl (subst (λ z. c < length z.parts) (sym same) within) is;
      change = change;
      new_is = n;
    })

-- a step of a part is one of its epoch
pub resolved : (r : Result StepEffect ResolveFault) (class : Class) (place : ℕ) (key : List ℕ) (now check count : ℕ)
    (old v new : EpochState) (p q : PartState)
    → old ≡ v → place < length v.parts → p ≡ get_or old.parts place p → new ≡ with_part place q old
    → slice_get old.config.classes place ≡ Some class
    → IfOk r (λ s. IsResolved class place key (record { now = now; check = check; count = count }) s p q)
    → IfOk r (λ s. (k : Class) → slice_get v.config.classes place ≡ Some k
    → IsEpochChanged place (IsResolved k place key (record { now = now; check = check; count = count }) s) v new)
resolved (Ok s) class place key now check count old v new p q same within is n here ok = λ k at.
    subst
    (λ z. IsEpochChanged place (IsResolved z place key (record { now = now; check = check; count = count }) s) v new)
    (same_Some class k (sym here ∙ ap (λ z. slice_get z.config.classes place) same ∙ at))
    (epoch_changed old v new place p q
    (IsResolved class place key (record { now = now; check = check; count = count }) s) same within is ok n)
resolved (Err e) class place key now check count old v new p q same within is n here ok = tt

-- a refusal that leaves the part as before leaves its epoch so
pub refused : (r : Result StepEffect ResolveFault) (place : ℕ) (old v new : EpochState) (p q : PartState) → old ≡ v
    → place < length v.parts → p ≡ get_or old.parts place p
    → new ≡ with_part place q old → OnErr r (IsAsBefore p q) → OnErr r (IsEpochChanged place IsAsBefore v new)
refused (Ok s) place old v new p q same within is n err = tt
refused (Err e) place old v new p q same within is n err = epoch_changed old v new place p q IsAsBefore same within is
    err n

-- no number was left, said of the part and the class that stand there
pub spends : (place count : ℕ) (key : List ℕ) (now e : ℕ) (class : Class) (old v : EpochState) (part : PartState)
    → old ≡ v → place < length v.parts
    → part ≡ get_or old.parts place part → slice_get old.config.classes place ≡ Some class
    → IsSpent count (says_of_row class e place key now count part.row)
    → (p : PartState) (k : Class) → slice_get v.parts place ≡ Some p → slice_get v.config.classes place ≡ Some k
    → IsSpent count (says_of_row k e place key now count p.row)
spends place count key now e class old v part same within is here spent p k at_p at_k =
    let there : slice_get old.parts place ≡ Some part =
    slice_get_read old.parts (length old.parts) place part refl (subst (λ z. place < length z.parts) (sym same) within)
    is in
    let p_is : part ≡ p = same_Some part p (sym there ∙ ap (λ z. slice_get z.parts place) same ∙ at_p) in
    let k_is : class ≡ k = same_Some class k (sym here ∙ ap (λ z. slice_get z.config.classes place) same ∙ at_k) in
    subst (λ z. IsSpent count (says_of_row z e place key now count p.row)) k_is
    (subst (λ y. IsSpent count (says_of_row class e place key now count y.row)) p_is spent)

-- the epoch and the part stand at this place of the list
pub record IsFound (v : EpochsState) (e c i : ℕ) : Type 0 where
  pub epoch : EpochState
  pub part : PartState
  pub within : i < length v.epochs
  pub at : (d : EpochState) → get_or v.epochs i d ≡ epoch
  pub epoch_is : epoch_at v e ≡ Some epoch
  pub part_is : slice_get epoch.parts c ≡ Some part
  pub placed : IsPlaced e v.epochs epoch
  pub place : i ≡ place_among e (map epoch_number v.epochs)

pub find_at : (v w : EpochsState) (e c i : ℕ) → v ≡ w → AreEpochs v → is_some (part_at w e c) ≡ true
    → i ≡ place_among e (map epoch_number v.epochs) → IsFound v e c i
find_at v w e c i same live is p =
    let there : IsThere v e c = is_there v e c (ap (λ z. is_some (part_at z e c)) same ∙ is) in
    let at = placed e v.epochs there.epoch live.rise there.epoch_is in
    record {
      epoch = there.epoch;
      part = there.part;
      within = let w = at.within in omega (arith, p);
      at = λ d. ap (λ j. get_or v.epochs j d) p ∙ at.at d;
      epoch_is = there.epoch_is;
      part_is = there.part_is;
      placed = at;
      place = p;
    }

pub within_at : (v : EpochsState) (e c i : ℕ) (f : IsFound v e c i) (x : EpochState) → x ≡ get_or v.epochs i x
    → c < length x.parts
within_at v e c i f x is = subst (λ z. c < length z.parts) (sym (is ∙ f.at x))
    (slice_get_within f.epoch.parts c f.part f.part_is)

-- the part and the class of the epoch at the place are those of the whole
pub part_here : (v w : EpochsState) (e c i : ℕ) (f : IsFound v e c i) (x : EpochState) → v ≡ w → x ≡ get_or v.epochs i x
    → part_at w e c ≡ slice_get x.parts c
part_here v w e c i f x same is = sym (ap (λ z. part_at z e c) same) ∙ ap (part_of c) f.epoch_is
    ∙ sym (ap (λ z. slice_get z.parts c) (is ∙ f.at x))

pub class_here : (v w : EpochsState) (e c i : ℕ) (f : IsFound v e c i) (x : EpochState) → v ≡ w
    → x ≡ get_or v.epochs i x → class_at w e c ≡ slice_get x.config.classes c
class_here v w e c i f x same is = sym (ap (λ z. class_at z e c) same) ∙ ap (class_of c) f.epoch_is
    ∙ sym (ap (λ z. slice_get z.config.classes c) (is ∙ f.at x))

-- a change of the epoch at the place is one of the whole
pub lifted : (v w new : EpochsState) (e c i : ℕ) (f : IsFound v e c i) (x y : EpochState)
    (Change : PartState → PartState → Type 0) → v ≡ w → x ≡ get_or v.epochs i x
    → new ≡ record v { epochs = set v.epochs i y } → IsEpochChanged c Change x y → IsChanged e c Change w new
lifted v w new e c i f x y Change same is n change =
    subst (λ z. IsChanged e c Change z new) same
    (changed v new e c f.epoch y Change f.epoch_is f.placed
    (subst (λ z. IsEpochChanged c Change z y) (is ∙ f.at x) change)
    (n ∙ ap (λ j. record v { epochs = set v.epochs j y }) f.place))

pub all_resolved : (r : Result StepEffect ResolveFault) (key : List ℕ) (now check count : ℕ) (v w new : EpochsState)
    (e c i : ℕ) (f : IsFound v e c i) (x y : EpochState) → v ≡ w → x ≡ get_or v.epochs i x
    → new ≡ record v { epochs = set v.epochs i y }
    → IfOk r (λ s. (k : Class) → slice_get x.config.classes c ≡ Some k
    → IsEpochChanged c (IsResolved k c key (record { now = now; check = check; count = count }) s) x y)
    → IfOk r (λ s. (k : Class) → class_at w e c ≡ Some k
    → IsChanged e c (IsResolved k c key (record { now = now; check = check; count = count }) s) w new)
all_resolved (Ok s) key now check count v w new e c i f x y same is n ok = λ k at.
    lifted v w new e c i f x y (IsResolved k c key (record { now = now; check = check; count = count }) s) same is n
    (ok k (sym (class_here v w e c i f x same is) ∙ at))
all_resolved (Err z) key now check count v w new e c i f x y same is n ok = tt

pub all_refused : (r : Result StepEffect ResolveFault) (v w new : EpochsState) (e c i : ℕ) (f : IsFound v e c i)
    (x y : EpochState) → v ≡ w → x ≡ get_or v.epochs i x
    → new ≡ record v { epochs = set v.epochs i y } → OnErr r (IsEpochChanged c IsAsBefore x y)
    → OnErr r (IsChanged e c IsAsBefore w new)
all_refused (Ok s) v w new e c i f x y same is n err = tt
all_refused (Err z) v w new e c i f x y same is n err = lifted v w new e c i f x y IsAsBefore same is n err
