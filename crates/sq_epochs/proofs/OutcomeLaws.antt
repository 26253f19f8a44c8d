-- Laws of a reply, of a failed start and of lost questions, in an epoch and in all.
use Rattle.std.proofs.Common.{◌≡◌, ℕ, ◌<◌, List, map, length, set, sym, ap, ◌∙◌, Some, None, get_or, subst, IfOk, OnOk, OnErr, Ok, Err, if◌then◌else◌}
use Rattle.std.specs.Prelude.{IfNone, IfSome}
use Rattle.std.specs.Option.{option_map}
use Rattle.std.specs.declared.option.Option.{Option}
use Rattle.std.specs.declared.result.Result.{Result}
use Rattle.std.specs.List.{slice_get}
use Rattle.std.proofs.lemmas.Option.{same_Some, slice_get-map}
use Rattle.sq_base.specs.declared.helpers.What.{What}
use Rattle.sq_lookup.specs.Waits.{has_check}
use Rattle.sq_rules.specs.Classes.{Class}
use Rattle.sq_machine.specs.OpenLookups.{question_of, waits_in}
use Rattle.sq_model.specs.ClassRows.{after_reply}
use Rattle.sq_machine.specs.Farms.{failed}
use Rattle.sq_class.specs.Losing.{IsHandedOut}
use Rattle.sq_class.specs.declared.lost.Lost.{Lost}
use Rattle.sq_channel.specs.declared.replies.Got.{Got}
use Rattle.sq_farm.specs.Replies.{got_of}
use Rattle.sq_class.specs.Parts.{IsAsBefore, PartState}
use Rattle.sq_epochs.specs.EpochChanges.{HasReplied}
use Rattle.sq_epochs.specs.EpochStates.{EpochState, EpochsState, IsChanged, IsEpochChanged, class_at, class_cache, part_limit, with_part}
use Rattle.sq_epochs.proofs.PartLaws.{IsFound, class_here, epoch_changed, lifted}

-- the part at a place keeps as many verdicts as its class
pub limit_there : (classes : List Class) (parts : List PartState) (c : ℕ) (k : Class) (p : PartState)
    → map part_limit parts ≡ map class_cache classes
    → slice_get classes c ≡ Some k → slice_get parts c ≡ Some p → p.limit ≡ k.cache
limit_there classes parts c k p are at_k at_p =
    same_Some p.limit k.cache
    (sym (slice_get-map part_limit parts c ∙ ap (option_map part_limit) at_p) ∙ ap (λ z. slice_get z c) are
    ∙ slice_get-map class_cache classes c ∙ ap (option_map class_cache) at_k)

-- a part that is the same is as before
pub as_before : (old new : PartState) → new ≡ old → IsAsBefore old new
as_before old new e = record {
  row_is = ap (λ z. z.row) e;
  waiting_are = λ n. ap (λ z. question_of n z.waiting) e;
  limit_is = ap (λ z. z.limit) e;
}

-- what each outcome says of a part, said of its epoch
pub ok_epoch : {A B : Type 0} (r : Result A B) (old v new : EpochState) (place : ℕ) (p q : PartState)
    (Change : PartState → PartState → Type 0) → old ≡ v → place < length v.parts
    → p ≡ get_or old.parts place p → new ≡ with_part place q old → OnOk r (Change p q)
    → OnOk r (IsEpochChanged place Change v new)
ok_epoch (Ok s) old v new place p q Change same within is n ok =
    epoch_changed old v new place p q Change same within is ok n
ok_epoch (Err e) old v new place p q Change same within is n ok = tt

pub err_epoch : {A B : Type 0} (r : Result A B) (old v new : EpochState) (place : ℕ) (p q : PartState)
    (Change : PartState → PartState → Type 0) → old ≡ v → place < length v.parts
    → p ≡ get_or old.parts place p → new ≡ with_part place q old → OnErr r (Change p q)
    → OnErr r (IsEpochChanged place Change v new)
err_epoch (Ok s) old v new place p q Change same within is n err = tt
err_epoch (Err e) old v new place p q Change same within is n err =
    epoch_changed old v new place p q Change same within is err n

pub some_epoch : {A : Type 0} (o : Option A) (old v new : EpochState) (place : ℕ) (p q : PartState)
    (Change : A → PartState → PartState → Type 0) → old ≡ v → place < length v.parts
    → p ≡ get_or old.parts place p → new ≡ with_part place q old → IfSome o (λ l. Change l p q)
    → IfSome o (λ l. IsEpochChanged place (Change l) v new)
some_epoch (Some l) old v new place p q Change same within is n some =
    epoch_changed old v new place p q (Change l) same within is some n
some_epoch None old v new place p q Change same within is n some = tt

pub none_epoch : {A : Type 0} (o : Option A) (old v new : EpochState) (place : ℕ) (p q : PartState)
    (Change : PartState → PartState → Type 0) → old ≡ v → place < length v.parts
    → p ≡ get_or old.parts place p → new ≡ with_part place q old → IfNone o (Change p q)
    → IfNone o (IsEpochChanged place Change v new)
none_epoch (Some l) old v new place p q Change same within is n none = tt
none_epoch None old v new place p q Change same within is n none =
    epoch_changed old v new place p q Change same within is none n

-- two facts of one outcome
pub both_ok : {A B : Type 0} (r : Result A B) (P Q R : Type 0) → OnOk r P → OnOk r Q → (P → Q → R) → OnOk r R
both_ok (Ok s) P Q R p q f = f p q
both_ok (Err e) P Q R p q f = tt

pub three_ok : {A B : Type 0} (r : Result A B) (P Q S R : Type 0) → OnOk r P → OnOk r Q → OnOk r S → (P → Q → S → R)
    → OnOk r R
three_ok (Ok s) P Q S R p q t f = f p q t
three_ok (Err e) P Q S R p q t f = tt

pub both_err : {A B : Type 0} (r : Result A B) (P Q R : Type 0) → OnErr r P → OnErr r Q → (P → Q → R) → OnErr r R
both_err (Ok s) P Q R p q f = tt
both_err (Err e) P Q R p q f = f p q

pub more_some : {A : Type 0} (o : Option A) (P Q : A → Type 0) → IfSome o P → ((l : A) → P l → Q l) → IfSome o Q
more_some (Some l) P Q p f = f l p
more_some None P Q p f = tt

pub three_none : {A : Type 0} (o : Option A) (P Q S R : Type 0) → IfNone o P → IfNone o Q → IfNone o S → (P → Q → S → R)
    → IfNone o R
three_none (Some l) P Q S R p q s f = tt
three_none None P Q S R p q s f = f p q s

-- the limit stays
pub lost_limit : (o : Option Lost) (p q : PartState) → IfSome o (λ l. IsHandedOut l p q) → IfNone o (q ≡ p)
    → q.limit ≡ p.limit
lost_limit (Some l) p q some none = some.limit_is
lost_limit None p q some none = ap part_limit none

pub fail_limit : {A B : Type 0} (r : Result A B) (p q : PartState)
    → OnOk r (q ≡ record p { row = record p.row { stock = failed p.row.stock } }) → OnErr r (q ≡ p) → q.limit ≡ p.limit
fail_limit (Ok s) p q ok err = ap part_limit ok
fail_limit (Err e) p q ok err = ap part_limit err

-- a reply, said of its epoch
pub replied : {B : Type 0} (r : Result (List ℕ) B) (class : Class) (place k q : ℕ) (key : List ℕ) (what : What)
    (date : ℕ) (old v new : EpochState) (p p' : PartState)
    → old ≡ v → place < length v.parts → p ≡ get_or old.parts place p → new ≡ with_part place p' old
    → slice_get old.config.classes place ≡ Some class
    → IfOk r (λ c. (n : ℕ) → has_check n c ≡ waits_in p.waiting q n)
    → OnOk r (p'.row ≡ after_reply class k q key what date p.row)
    → OnOk r ((n : ℕ) → question_of n p'.waiting ≡ (if waits_in p.waiting q n then None else question_of n p.waiting))
    → p'.limit ≡ p.limit
    → IfOk r (λ checks. (c : Class) → slice_get v.config.classes place ≡ Some c
    → IsEpochChanged place (HasReplied c k q key (record { what = what; date = date }) checks) v new)
replied (Ok checks) class place k q key what date old v new p p' same within is n here are row waiting limit = λ c at.
    subst (λ z. IsEpochChanged place (HasReplied z k q key (record { what = what; date = date }) checks) v new)
    (same_Some class c (sym here ∙ ap (λ z. slice_get z.config.classes place) same ∙ at))
    (epoch_changed old v new place p p' (HasReplied class k q key (record { what = what; date = date }) checks)
    same within is
    (record { checks_are = are; row_is = row; waiting_are = waiting; limit_is = limit }) n)
replied (Err e) class place k q key what date old v new p p' same within is n here are row waiting limit = tt

-- what each outcome says of an epoch, said of all
pub ok_lifted : {A B : Type 0} (r : Result A B) (v w new : EpochsState) (e c i : ℕ) (f : IsFound v e c i)
    (x y : EpochState) (Change : PartState → PartState → Type 0) → v ≡ w → x ≡ get_or v.epochs i x
    → new ≡ record v { epochs = set v.epochs i y } → OnOk r (IsEpochChanged c Change x y)
    → OnOk r (IsChanged e c Change w new)
ok_lifted (Ok s) v w new e c i f x y Change same is n ok = lifted v w new e c i f x y Change same is n ok
ok_lifted (Err z) v w new e c i f x y Change same is n ok = tt

pub err_lifted : {A B : Type 0} (r : Result A B) (v w new : EpochsState) (e c i : ℕ) (f : IsFound v e c i)
    (x y : EpochState) (Change : PartState → PartState → Type 0) → v ≡ w → x ≡ get_or v.epochs i x
    → new ≡ record v { epochs = set v.epochs i y } → OnErr r (IsEpochChanged c Change x y)
    → OnErr r (IsChanged e c Change w new)
err_lifted (Ok s) v w new e c i f x y Change same is n err = tt
err_lifted (Err z) v w new e c i f x y Change same is n err = lifted v w new e c i f x y Change same is n err

pub some_lifted : {A : Type 0} (o : Option A) (v w new : EpochsState) (e c i : ℕ) (f : IsFound v e c i)
    (x y : EpochState) (Change : A → PartState → PartState → Type 0) → v ≡ w → x ≡ get_or v.epochs i x
    → new ≡ record v { epochs = set v.epochs i y } → IfSome o (λ l. IsEpochChanged c (Change l) x y)
    → IfSome o (λ l. IsChanged e c (Change l) w new)
some_lifted (Some l) v w new e c i f x y Change same is n some = lifted v w new e c i f x y (Change l) same is n some
some_lifted None v w new e c i f x y Change same is n some = tt

pub none_lifted : {A : Type 0} (o : Option A) (v w new : EpochsState) (e c i : ℕ) (f : IsFound v e c i)
    (x y : EpochState) (Change : PartState → PartState → Type 0) → v ≡ w → x ≡ get_or v.epochs i x
    → new ≡ record v { epochs = set v.epochs i y } → IfNone o (IsEpochChanged c Change x y)
    → IfNone o (IsChanged e c Change w new)
none_lifted (Some l) v w new e c i f x y Change same is n none = tt
none_lifted None v w new e c i f x y Change same is n none = lifted v w new e c i f x y Change same is n none

pub all_replied : {B : Type 0} (r : Result (List ℕ) B) (k q : ℕ) (key : List ℕ) (what : What) (date : ℕ)
    (v w new : EpochsState) (e c i : ℕ) (f : IsFound v e c i) (x y : EpochState) → v ≡ w → x ≡ get_or v.epochs i x
    → new ≡ record v { epochs = set v.epochs i y }
    → IfOk r (λ checks. (z : Class) → slice_get x.config.classes c ≡ Some z
    → IsEpochChanged c (HasReplied z k q key (record { what = what; date = date }) checks) x y)
    → IfOk r (λ checks. (z : Class) → class_at w e c ≡ Some z
    → IsChanged e c (HasReplied z k q key (record { what = what; date = date }) checks) w new)
all_replied (Ok checks) k q key what date v w new e c i f x y same is n ok = λ z at.
    lifted v w new e c i f x y (HasReplied z k q key (record { what = what; date = date }) checks) same is n
    (ok z (sym (class_here v w e c i f x same is) ∙ at))
all_replied (Err z) k q key what date v w new e c i f x y same is n ok = tt

-- what a line comes to, said of the part that is found in all
pub looked : {B : Type 0} (r : Result Got B) (k : ℕ) (line : List ℕ) (o o' : Option PartState) → o ≡ o'
    → IfOk r (λ g. (p : PartState) → o' ≡ Some p → got_of k p.row.stock line ≡ Some g)
    → IfOk r (λ g. (p : PartState) → o ≡ Some p → got_of k p.row.stock line ≡ Some g)
looked (Ok g) k line o o' same ok = λ p at. ok p (sym same ∙ at)
looked (Err e) k line o o' same ok = tt
