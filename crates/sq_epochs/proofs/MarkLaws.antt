-- Laws of what is due of the classes of an epoch.
use Rattle.std.proofs.Common.{◌≡◌, ℕ, zero, suc, ◌<◌, ◌≤◌, List, [], ◌∷◌, map, set, length, get_or, Bool, true, false, if◌then◌else◌, refl, sym, arith, ap, ◌∙◌, subst, Some, None, is_some}
use Rattle.std.specs.Prelude.{IfNone, IfSome}
use Rattle.std.specs.List.{slice_get}
use Rattle.std.specs.Option.{option_map, option_map_or}
use Rattle.std.specs.declared.option.Option.{Option}
use Rattle.std.proofs.lemmas.List.{length-set}
use Rattle.std.proofs.lemmas.Option.{slice_get_within}
use Rattle.std.proofs.Math.Seq.{map-set_same}
use Rattle.sq_epochs.specs.Sets.{IsLeast, IsSetOf, is_in}
use Rattle.sq_epochs.proofs.SetLaws.{set_marked, set_same}
use Rattle.sq_rules.specs.Classes.{Class}
use Rattle.sq_machine.specs.Farms.{send_of, start_due}
use Rattle.sq_machine.specs.KeptLists.{CachedReplies}
use Rattle.sq_rules.specs.Limits.{most_classes}
use Rattle.sq_class.specs.Parts.{PartState}
use Rattle.sq_epochs.specs.DueSets.{DueState, IsDueOf, IsEpoch, IsMarked}
use Rattle.sq_epochs.specs.DueStates.{first_place, owes_send, owes_start}
use Rattle.sq_epochs.specs.EpochStates.{EpochState, class_cache, new_part, part_limit}
use Rattle.sq_epochs.specs.Reconfigured.{begun_part}
use Rattle.sq_epochs.proofs.DueLaws.{first_is}
use Rattle.sq_epochs.proofs.InheritLaws.{limits_begun}
use Rattle.sq_epochs.proofs.PartLaws.{len_map, limits_kept, limits_new}

-- the least place of a set of places is the first of its list
pub first_marked : {A : Type 0} (test : A → Bool) (xs : List A) (s : ℕ) (r : Option ℕ) → IsSetOf test xs s
    → IfSome r (IsLeast s) → IfNone r ((p : ℕ) → is_in p s ≡ false)
    → r ≡ first_place test xs
first_marked {A = A} test xs s r is some none = by_case r some none
  where
    at_least : (ys : List A) (c : ℕ) → option_map_or test (slice_get ys c) false ≡ true
        → ((q : ℕ) → q < c → option_map_or test (slice_get ys q) false ≡ false) → first_place test ys ≡ Some c
    at_least [] c hit miss = absurd cc
    at_least (y ∷ ys) zero hit miss = ap (λ b. if b then Some 0 else option_map suc (first_place test ys)) hit
    at_least (y ∷ ys) (suc c) hit miss =
        ap (λ b. if b then Some 0 else option_map suc (first_place test ys)) (miss 0 (omega arith))
        ∙ ap (option_map suc) (at_least ys c hit (λ q l. miss (suc q) (omega (arith, l))))

    nowhere : (ys : List A) → ((q : ℕ) → option_map_or test (slice_get ys q) false ≡ false) → first_place test ys ≡ None
    nowhere [] miss = refl
    nowhere (y ∷ ys) miss = ap (λ b. if b then Some 0 else option_map suc (first_place test ys)) (miss 0)
        ∙ ap (option_map suc) (nowhere ys (λ q. miss (suc q)))

    by_case : (o : Option ℕ) → IfSome o (IsLeast s) → IfNone o ((p : ℕ) → is_in p s ≡ false) → o ≡ first_place test xs
    by_case (Some c) least none = sym (at_least xs c (sym (is c) ∙ least.within) (λ q l. sym (is q) ∙ least.least q l))
    by_case None some none = sym (nowhere xs (λ q. sym (is q) ∙ none q))

-- the first of the classes that owe an act is one of them
pub first_within : (test : PartState → Bool) (classes : List Class) (parts : List PartState) (due : DueState)
    (r : Option ℕ) → IsEpoch classes parts due → r ≡ first_place test parts
    → IfSome r (λ c. c < length classes)
first_within test classes parts due None is first = tt
first_within test classes parts due (Some c) is first =
    let f = first_is test parts c (sym first) in
    let l = slice_get_within parts c f.it f.at in
    let a = len_map part_limit parts in
    let b = len_map class_cache classes in
    let e = ap length is.parts_are in
    omega (arith, l, a, b, e)

-- a place within the parts as they are seen is one within them
pub inside : (old v : EpochState) (c : ℕ) → old ≡ v → c < length v.parts → c < length old.parts
inside old v c same within = subst (λ z. c < length z.parts) (sym same) within

-- there are few classes
pub is_few : (classes : List Class) (parts : List PartState) (due : DueState) (c : ℕ) → IsEpoch classes parts due
    → c < length parts → c < most_classes
is_few classes parts due c is within = let few = is.few in omega (arith, few, within)

-- one part was changed, and what its class owes was noted
pub marked : (classes : List Class) (parts : List PartState) (old new : DueState) (c : ℕ) (p q : PartState)
    → IsEpoch classes parts old → c < length parts → p ≡ get_or parts c p → q.limit ≡ p.limit
    → IsMarked c q old new → IsEpoch classes (set parts c q) new
marked classes parts old new c p q is within at limit noted = record {
  parts_are = limits_kept parts (map class_cache classes) c p q is.parts_are at limit;
  few = subst (λ n. n ≤ most_classes) (sym (length-set parts c q)) is.few;
  due_are = record {
    sends_are = set_marked owes_send parts old.sends new.sends c q within is.due_are.sends_are noted.sends_are;
    starts_are = set_marked owes_start parts old.starts new.starts c q within is.due_are.starts_are noted.starts_are;
  };
}

-- one part was changed, but not its farm
pub unmarked : (classes : List Class) (parts : List PartState) (due : DueState) (c : ℕ) (p q : PartState)
    → IsEpoch classes parts due → p ≡ get_or parts c p → q.limit ≡ p.limit
    → q.row.stock ≡ p.row.stock → IsEpoch classes (set parts c q) due
unmarked classes parts due c p q is at limit farm = record {
  parts_are = limits_kept parts (map class_cache classes) c p q is.parts_are at limit;
  few = subst (λ n. n ≤ most_classes) (sym (length-set parts c q)) is.few;
  due_are = record {
    sends_are = set_same owes_send owes_send parts (set parts c q) due.sends
        (sym (map-set_same owes_send parts c q p (ap (λ v. is_some (send_of v)) farm ∙ ap owes_send at)))
        is.due_are.sends_are;
    starts_are = set_same owes_start owes_start parts (set parts c q) due.starts
        (sym (map-set_same owes_start parts c q p (ap start_due farm ∙ ap owes_start at))) is.due_are.starts_are;
  };
}

-- an epoch that begins
pub new_marked : (classes : List Class) (parts : List PartState) (due : DueState) → parts ≡ map new_part classes
    → length classes ≤ most_classes → IsDueOf parts due → IsEpoch classes parts due
new_marked classes parts due are few noted = record {
  parts_are = limits_new classes parts are;
  few = subst (λ n. n ≤ most_classes) (sym (ap length are ∙ len_map new_part classes)) few;
  due_are = noted;
}

-- an epoch that begins with what was kept of the one before
pub begun_marked : (before : Class → CachedReplies) (classes : List Class) (parts begun : List PartState)
    (due : DueState) → IsEpoch classes parts due → parts ≡ map new_part classes
    → begun ≡ map (begun_part before) classes → IsEpoch classes begun due
begun_marked before classes parts begun due is are new = record {
  parts_are = limits_begun before classes classes begun new refl;
  few = subst (λ n. n ≤ most_classes)
      (ap length are ∙ len_map new_part classes ∙ sym (len_map (begun_part before) classes) ∙ sym (ap length new))
      is.few;
  due_are = record {
    sends_are = set_same owes_send owes_send parts begun due.sends
        (ap (map owes_send) are ∙ sends classes ∙ sym (ap (map owes_send) new)) is.due_are.sends_are;
    starts_are = set_same owes_start owes_start parts begun due.starts
        (ap (map owes_start) are ∙ starts classes ∙ sym (ap (map owes_start) new)) is.due_are.starts_are;
  };
}
  where
    sends : (ks : List Class) → map owes_send (map new_part ks) ≡ map owes_send (map (begun_part before) ks)
    sends [] = refl
    sends (k ∷ ks) = ap (λ z. owes_send (new_part k) ∷ z) (sends ks)

    starts : (ks : List Class) → map owes_start (map new_part ks) ≡ map owes_start (map (begun_part before) ks)
    starts [] = refl
    starts (k ∷ ks) = ap (λ z. owes_start (new_part k) ∷ z) (starts ks)
