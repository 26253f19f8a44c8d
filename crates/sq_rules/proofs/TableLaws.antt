-- What the tables know of the acls, where one of them changes.
use Rattle.std.proofs.Common.{◌≡◌, ℕ, ◌+◌, ◌≤◌, ◌<◌, suc, zero, List, [], ◌∷◌, ◌++◌, length, take, drop, set, get_or, Bool, true, false, ◌&&◌, ◌||◌, not, refl, sym, ap, subst, ◌∙◌, arith, Option, Some, None, slice_get, if◌then◌else◌, Result, Ok, Err, OnOk, OnErr, nat_le}
use Rattle.std.proofs.lemmas.Bool.Decides.{nat_tests}
use Rattle.std.proofs.lemmas.List.{drop_more}
use Rattle.std.proofs.lemmas.Option.{slice_get_within}
use Rattle.std.specs.Prelude.{slice_index_or}
use Rattle.std.specs.List.{list_all}
use Rattle.std.specs.Str.{bytes_eq}
use Rattle.sq_rules.proofs.AclLaws.{allowed_is}
use Rattle.sq_rules.proofs.ListLaws.{last_fails}
use Rattle.sq_rules.proofs.LookupLaws.{unmade_set}
use Rattle.sq_rules.proofs.MemberLaws.{member_depth, member_none, member_slow}
use Rattle.sq_rules.proofs.ScanLaws.{scan, scan_at, scan_fails, scan_length, scan_same, scan_set}
use Rattle.sq_rules.specs.Changes.{AreDepths, AreSlowOnes, is_group, or_before, with_member_at}
use Rattle.sq_rules.specs.Configurations.{are_shallow, have_own_names, is_named, is_slow, nesting_of, nestings, nestings_on, place_from, slow_on, slow_ones}
use Rattle.sq_rules.specs.Drafts.{change_body, with_member}
use Rattle.sq_rules.specs.Limits.{nesting_limit}
use Rattle.sq_rules.specs.Tables.{KnowsAcls, allowed}
use Rattle.sq_rules.specs.declared.configs.Acl.{Acl}
use Rattle.sq_rules.specs.declared.configs.Body.{Body}
use Rattle.sq_rules.specs.declared.configs.Term.{Term}

abbrev depth_step : List ℕ → Acl → ℕ
depth_step before a = nesting_of before a.body

abbrev slow_step : List Bool → Acl → Bool
slow_step before a = is_slow before a.body

nestings_scan : (before : List ℕ) (acls : List Acl) → nestings_on before acls ≡ scan depth_step before acls
nestings_scan before [] = refl
nestings_scan before (a ∷ acls) = nestings_scan (before ++ nesting_of before a.body ∷ []) acls

slow_scan : (before : List Bool) (acls : List Acl) → slow_on before acls ≡ scan slow_step before acls
slow_scan before [] = refl
slow_scan before (a ∷ acls) = slow_scan (before ++ is_slow before a.body ∷ []) acls

-- an acl changed where it stands
pub changed_at : (acls : List Acl) (p : ℕ) (x : Acl) (f : Body → Body) → slice_get acls p ≡ Some x
    → change_body p f acls ≡ set acls p (record x { body = f x.body })
changed_at acls p x f is = rw is refl

-- the other names keep their places
pub place_set : {A : Type 0} (f : A → List ℕ) (n : ℕ) (xs : List A) (p : ℕ) (x y : A) (q : List ℕ)
    → slice_get xs p ≡ Some x → f y ≡ f x → place_from f n (set xs p y) q ≡ place_from f n xs q
place_set f n [] p x y q is same = refl
place_set f n (z ∷ xs) zero x y q is same =
    let named : f y ≡ f z = cc in ap (λ k. if bytes_eq k q then Some n else place_from f (suc n) xs q) named
place_set f n (z ∷ xs) (suc p) x y q is same = ap (λ o. if bytes_eq (f z) q then Some n else o)
    (place_set f (suc n) xs p x y q is same)

-- whether a name is there does not change where an element is replaced by one of its name
pub named_set : {A : Type 0} (f : A → List ℕ) (xs : List A) (p : ℕ) (x y : A) (q : List ℕ) → slice_get xs p ≡ Some x
    → f y ≡ f x → is_named f (set xs p y) q ≡ is_named f xs q
named_set f [] p x y q is same = refl
named_set f (z ∷ xs) zero x y q is same = let named : f y ≡ f z = cc in ap (λ k. bytes_eq k q || is_named f xs q) named
named_set f (z ∷ xs) (suc p) x y q is same = ap (λ b. bytes_eq (f z) q || b) (named_set f xs p x y q is same)

-- whether all names differ does not change where an element is replaced by one of its name
pub own_set : {A : Type 0} (f : A → List ℕ) (xs : List A) (p : ℕ) (x y : A) → slice_get xs p ≡ Some x → f y ≡ f x
    → have_own_names f (set xs p y) ≡ have_own_names f xs
own_set f [] p x y is same = refl
own_set f (z ∷ xs) zero x y is same = let named : f y ≡ f z = cc in
    ap (λ k. not (is_named f xs k) && have_own_names f xs) named
own_set f (z ∷ xs) (suc p) x y is same =
    ap (λ b. not b && have_own_names f (set xs p y)) (named_set f xs p x y (f z) is same)
    ∙ ap (λ b. not (is_named f xs (f z)) && b) (own_set f xs p x y is same)

-- each acl has a nesting, for a place in the list of nestings
pub nestings_length : (acls : List Acl) → length (nestings acls) ≡ length acls
nestings_length acls = rw (nestings_scan [] acls) (omega (arith, scan_length depth_step [] acls))

-- each acl is slow or not, for a place in the list of slow acls
pub slow_length : (acls : List Acl) → length (slow_ones acls) ≡ length acls
slow_length acls = rw (slow_scan [] acls) (omega (arith, scan_length slow_step [] acls))

-- the nestings and the slow acls, where one acl is put in
pub nestings_set : (acls : List Acl) (p : ℕ) (y : Acl) → p < length acls →
    nestings (set acls p y) ≡ nestings_on (take p (nestings acls) ++ nesting_of (take p (nestings acls)) y.body ∷ [])
    (drop (suc p) acls)
nestings_set acls p y within =
    rw (
      nestings_scan [] (set acls p y),
      nestings_scan [] acls,
      nestings_scan (take p (scan depth_step [] acls) ++ nesting_of (take p (scan depth_step [] acls)) y.body ∷ [])
          (drop (suc p) acls),
    )
    (scan_set depth_step acls p y within)

-- the slow acls, where one acl is put in
pub slow_set : (acls : List Acl) (p : ℕ) (y : Acl) → p < length acls →
    slow_ones (set acls p y)
    ≡ slow_on (take p (slow_ones acls) ++ is_slow (take p (slow_ones acls)) y.body ∷ []) (drop (suc p) acls)
slow_set acls p y within =
    rw (
      slow_scan [] (set acls p y),
      slow_scan [] acls,
      slow_scan (take p (scan slow_step [] acls) ++ is_slow (take p (scan slow_step [] acls)) y.body ∷ [])
          (drop (suc p) acls),
    )
    (scan_set slow_step acls p y within)

-- the nestings stay where an acl is replaced by one that nests as deep
pub nestings_same : (acls : List Acl) (p : ℕ) (x y : Acl) → slice_get acls p ≡ Some x →
    nesting_of (take p (nestings acls)) y.body ≡ nesting_of (take p (nestings acls)) x.body
    → nestings (set acls p y) ≡ nestings acls
nestings_same acls p x y is same =
    nestings_scan [] (set acls p y)
    ∙ scan_same depth_step acls p x y is
    (subst (λ l. nesting_of (take p l) y.body ≡ nesting_of (take p l) x.body) (nestings_scan [] acls) same)
    ∙ sym (nestings_scan [] acls)

-- the slow acls stay where an acl is replaced by one that is as slow
pub slow_same : (acls : List Acl) (p : ℕ) (x y : Acl) → slice_get acls p ≡ Some x →
    is_slow (take p (slow_ones acls)) y.body ≡ is_slow (take p (slow_ones acls)) x.body
    → slow_ones (set acls p y) ≡ slow_ones acls
slow_same acls p x y is same =
    slow_scan [] (set acls p y)
    ∙ scan_same slow_step acls p x y is
    (subst (λ l. is_slow (take p l) y.body ≡ is_slow (take p l) x.body) (slow_scan [] acls) same)
    ∙ sym (slow_scan [] acls)

-- what is known of the acl at a place
pub nesting_at : (acls : List Acl) (p : ℕ) (x : Acl) → slice_get acls p ≡ Some x
    → slice_index_or (nestings acls) p 0 ≡ nesting_of (take p (nestings acls)) x.body
nesting_at acls p x is = rw (nestings_scan [] acls) (scan_at depth_step acls p x 0 is)

-- whether the acl at a place is slow
pub slow_at : (acls : List Acl) (p : ℕ) (x : Acl) → slice_get acls p ≡ Some x
    → slice_index_or (slow_ones acls) p false ≡ is_slow (take p (slow_ones acls)) x.body
slow_at acls p x is = rw (slow_scan [] acls) (scan_at slow_step acls p x false is)

-- an acl that nests too deep stays
pub too_deep : (before : List ℕ) (acls : List Acl) → list_all (λ n. nat_le n nesting_limit) before ≡ false
    → list_all (λ n. nat_le n nesting_limit) (nestings_on before acls) ≡ false
too_deep before acls bad = rw (nestings_scan before acls)
    (scan_fails depth_step (λ n. nat_le n nesting_limit) before acls bad)

-- an acl of the same name, the same nesting and no other answer
pub KnowsAcls_set : (acls : List Acl) (places : List (List ℕ × ℕ)) (depths : List ℕ) (slow : List Bool) (count p : ℕ)
    (x y : Acl) → KnowsAcls acls places depths slow count →
    slice_get acls p ≡ Some x → y.name ≡ x.name
    → ((before : List ℕ) → nesting_of before y.body ≡ nesting_of before x.body) →
    ((before : List Bool) → is_slow before y.body ≡ is_slow before x.body)
    → KnowsAcls (set acls p y) places depths slow count
KnowsAcls_set acls places depths slow count p x y knows is named deep asks =
    let nest : nestings (set acls p y) ≡ nestings acls = nestings_same acls p x y is (deep (take p (nestings acls))) in
    record {
      places_are = λ q. knows.places_are q ∙ sym (place_set (λ (a : Acl). a.name) 0 acls p x y q is named);
      depths_are = knows.depths_are ∙ sym nest;
      slow_are = knows.slow_are ∙ sym (slow_same acls p x y is (asks (take p (slow_ones acls))));
      count_is = knows.count_is ∙ sym (unmade_set (λ (a : Acl). a.name) acls p x y is named);
      unique = own_set (λ (a : Acl). a.name) acls p x y is named ∙ knows.unique;
      shallow = ap (list_all (λ n. nat_le n nesting_limit)) nest ∙ knows.shallow;
    }

-- what a change that may fail leaves of an acl's body
pub kept_by : {V E X : Type 0} (r : Result V E) (x y : Acl) (b : Body) (f : Body → X)
    → OnOk r (y ≡ record x { body = b }) → OnErr r (y ≡ x) → f b ≡ f x.body → f y.body ≡ f x.body
kept_by (Ok v) x y b f ok err same = ap (λ a. f a.body) ok ∙ same
kept_by (Err e) x y b f ok err same = ap (λ a. f a.body) err

-- a change that may fail, at a place
pub changed_by : {V E : Type 0} (r : Result V E) (acls : List Acl) (p : ℕ) (x y : Acl) (f : Body → Body)
    → slice_get acls p ≡ Some x → OnOk r (y ≡ record x { body = f x.body }) →
    OnOk r (set acls p y ≡ change_body p f acls)
changed_by (Ok v) acls p x y f is ok = ap (set acls p) ok ∙ sym (changed_at acls p x f is)
changed_by (Err e) acls p x y f is ok = tt

or_same : (a b : Bool) → (b ≡ true → a ≡ true) → (a || b) ≡ a
or_same true b h = refl
or_same false true h = sym (h refl)
or_same false false h = refl

-- no acl comes to be slow
pub slow_kept : (acls : List Acl) (p : ℕ) (t : Term) (x : Acl) → slice_get acls p ≡ Some x →
    (is_group x.body ≡ true → slice_index_or (take p (slow_ones acls)) t.acl false ≡ true
    → slice_index_or (slow_ones acls) p false ≡ true) →
    slow_ones acls ≡ slow_ones (with_member_at p t acls)
slow_kept acls p t x is kept = sym
    (ap slow_ones (changed_at acls p x (with_member t) is)
    ∙ slow_same acls p x (record x { body = with_member t x.body }) is (by_kind (is_group x.body) refl))
  where
    by_kind : (g : Bool) → is_group x.body ≡ g
        → is_slow (take p (slow_ones acls)) (with_member t x.body) ≡ is_slow (take p (slow_ones acls)) x.body
    by_kind true group =
        member_slow (take p (slow_ones acls)) t x.body group
        ∙ or_same (is_slow (take p (slow_ones acls)) x.body) (slice_index_or (take p (slow_ones acls)) t.acl false)
        (λ asks. sym (slow_at acls p x is) ∙ kept group asks)
    by_kind false none = ap (is_slow (take p (slow_ones acls))) (member_none t x.body none)

or_true : (a b : Bool) → b ≡ true → (a || b) ≡ true
or_true a b e = grind (arith, e)

-- the group comes to be slow, or stays so
pub slow_turns : (acls : List Acl) (p : ℕ) (t : Term) (x : Acl) → slice_get acls p ≡ Some x → is_group x.body ≡ true
    → slice_index_or (take p (slow_ones acls)) t.acl false ≡ true →
    slow_on (take p (slow_ones acls) ++ true ∷ []) (drop (suc p) acls) ≡ slow_ones (with_member_at p t acls)
slow_turns acls p t x is group asks =
    let turned : is_slow (take p (slow_ones acls)) (with_member t x.body) ≡ true =
    member_slow (take p (slow_ones acls)) t x.body group
    ∙ or_true (is_slow (take p (slow_ones acls)) x.body) (slice_index_or (take p (slow_ones acls)) t.acl false) asks in
    sym (
    ap slow_ones (changed_at acls p x (with_member t) is)
    ∙ slow_set acls p (record x { body = with_member t x.body }) (slice_get_within acls p x is)
    ∙ ap (λ b. slow_on (take p (slow_ones acls) ++ b ∷ []) (drop (suc p) acls)) turned
    )

-- no acl comes to nest deeper
pub depth_kept : (acls : List Acl) (p : ℕ) (t : Term) (x : Acl) → slice_get acls p ≡ Some x →
    (is_group x.body ≡ true → suc (slice_index_or (take p (nestings acls)) t.acl 0)
    ≤ slice_index_or (nestings acls) p 0) → nestings acls ≡ nestings (with_member_at p t acls)
depth_kept acls p t x is kept = sym
    (ap nestings (changed_at acls p x (with_member t) is)
    ∙ nestings_same acls p x (record x { body = with_member t x.body }) is (by_kind (is_group x.body) refl))
  where
    by_kind : (g : Bool) → is_group x.body ≡ g
        → nesting_of (take p (nestings acls)) (with_member t x.body) ≡ nesting_of (take p (nestings acls)) x.body
    by_kind true group = omega
        (arith, member_depth (take p (nestings acls)) t x.body group, nesting_at acls p x is, kept group)
    by_kind false none = ap (nesting_of (take p (nestings acls))) (member_none t x.body none)

-- the group comes to nest so deep, or deeper
pub depth_rises : (acls : List Acl) (p : ℕ) (t : Term) (x : Acl) (n : ℕ) → slice_get acls p ≡ Some x
    → is_group x.body ≡ true → n ≡ suc (slice_index_or (take p (nestings acls)) t.acl 0) →
    slice_index_or (nestings acls) p 0 ≤ n
    → nestings_on (take p (nestings acls) ++ n ∷ []) (drop (suc p) acls) ≡ nestings (with_member_at p t acls)
depth_rises acls p t x n is group up more =
    let risen : nesting_of (take p (nestings acls)) (with_member t x.body) ≡ n =
    omega (arith, member_depth (take p (nestings acls)) t x.body group, nesting_at acls p x is, up, more) in
    sym (
    ap nestings (changed_at acls p x (with_member t) is)
    ∙ nestings_set acls p (record x { body = with_member t x.body }) (slice_get_within acls p x is)
    ∙ ap (λ m. nestings_on (take p (nestings acls) ++ m ∷ []) (drop (suc p) acls)) risen
    )

-- no group may stand over one that nests so deep
pub too_deep_over : (acls : List Acl) (p : ℕ) (t : Term) (x : Acl) → slice_get acls p ≡ Some x → is_group x.body ≡ true
    → allowed (suc (slice_index_or (take p (nestings acls)) t.acl 0)) ≡ None →
    are_shallow (with_member_at p t acls) ≡ false
too_deep_over acls p t x is group none =
    let m = nesting_of (take p (nestings acls)) (with_member t x.body) in
    let bad : nat_le m nesting_limit ≡ false =
    grind (arith, nat_tests, none, member_depth (take p (nestings acls)) t x.body group) in
    ap are_shallow (changed_at acls p x (with_member t) is)
    ∙ ap (list_all (λ n. nat_le n nesting_limit))
    (nestings_set acls p (record x { body = with_member t x.body }) (slice_get_within acls p x is))
    ∙ too_deep (take p (nestings acls) ++ m ∷ []) (drop (suc p) acls)
    (last_fails (λ n. nat_le n nesting_limit) (take p (nestings acls)) m bad)

-- the acls from one on, which nests too deep
pub too_deep_at : (before : List ℕ) (acls : List Acl) (i : ℕ) (x : Acl) (whole : List ℕ)
    → nestings_on before (drop i acls) ≡ whole → i < length acls → x ≡ get_or acls i x →
    allowed (nesting_of before x.body) ≡ None → list_all (λ n. nat_le n nesting_limit) whole ≡ false
too_deep_at before acls i x whole rest within is none =
    let here : drop i acls ≡ x ∷ drop (i + 1) acls = drop_more acls i x within
    ∙ ap (λ a. a ∷ drop (i + 1) acls) (sym is) in
    let bad : nat_le (nesting_of before x.body) nesting_limit ≡ false = grind (arith, nat_tests, none) in
    let all : nestings_on before (x ∷ drop (i + 1) acls) ≡ whole = sym (ap (nestings_on before) here) ∙ rest in
    sym (ap (list_all (λ n. nat_le n nesting_limit)) all)
    ∙ too_deep (before ++ nesting_of before x.body ∷ []) (drop (i + 1) acls)
    (last_fails (λ n. nat_le n nesting_limit) before (nesting_of before x.body) bad)

-- one member more, with what was computed of it
pub KnowsAcls_member : (acls : List Acl) (places : List (List ℕ × ℕ)) (depths : List ℕ) (slow : List Bool) (count p : ℕ)
    (t : Term) (x y : Acl) (deeper : Option (List ℕ)) (slower : Option (List Bool)) →
    KnowsAcls acls places depths slow count → slice_get acls p ≡ Some x → y ≡ record x { body = with_member t x.body }
    → AreDepths deeper acls (with_member_at p t acls) →
    AreSlowOnes slower acls (with_member_at p t acls) → are_shallow (with_member_at p t acls) ≡ true
    → KnowsAcls (set acls p y) places (or_before depths deeper) (or_before slow slower) count
KnowsAcls_member acls places depths slow count p t x y deeper slower knows is changed deep asks shallow =
    let now : with_member_at p t acls ≡ set acls p y = changed_at acls p x (with_member t) is
    ∙ sym (ap (set acls p) changed) in
    let named : y.name ≡ x.name = ap (λ a. a.name) changed in
    record {
      places_are = λ q. knows.places_are q ∙ sym (place_set (λ (a : Acl). a.name) 0 acls p x y q is named);
      depths_are = ap (λ l. or_before l deeper) knows.depths_are ∙ deep ∙ ap nestings now;
      slow_are = ap (λ l. or_before l slower) knows.slow_are ∙ asks ∙ ap slow_ones now;
      count_is = knows.count_is ∙ sym (unmade_set (λ (a : Acl). a.name) acls p x y is named);
      unique = own_set (λ (a : Acl). a.name) acls p x y is named ∙ knows.unique;
      shallow = subst (λ l. are_shallow l ≡ true) now shallow;
    }

-- the same, of the depth that is allowed over a member's
pub depths_risen : (acls : List Acl) (depths : List ℕ) (p : ℕ) (t : Term) (x : Acl) (below n : ℕ)
    → depths ≡ nestings acls → slice_get acls p ≡ Some x → is_group x.body ≡ true →
    below ≡ slice_index_or (take p depths) t.acl 0 → allowed (suc below) ≡ Some n → slice_index_or depths p 0 ≤ below →
    nestings_on (take p depths ++ n ∷ []) (drop (suc p) acls) ≡ nestings (with_member_at p t acls)
depths_risen acls depths p t x below n known is group member allows over =
    let up : n ≡ suc below = (allowed_is (suc below) n allows).0 in
    let here : below ≡ slice_index_or (take p (nestings acls)) t.acl 0 = rw (← known) member in
    let least : slice_index_or (nestings acls) p 0 ≤ below = rw (← known) over in
    rw known (depth_rises acls p t x n is group (omega (arith, up, here)) (omega (arith, up, least)))
