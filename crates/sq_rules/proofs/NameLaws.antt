-- Names and places in a list that has one element more at the end.
use Rattle.std.proofs.Common.{◌≡◌, ℕ, ◌+◌, ◌<◌, suc, List, [], ◌∷◌, ◌++◌, length, Bool, true, false, ◌&&◌, ◌||◌, not, cond, refl, ap, sym, ◌∙◌, arith, Option, Some, None, is_some, if◌then◌else◌, IfSome}
use Rattle.std.proofs.lemmas.List.Folds.{list_any-append}
use Rattle.std.proofs.lemmas.Slice.Eq.{bytes_eq-Decides}
use Rattle.std.specs.Option.{option_or}
use Rattle.std.specs.Str.{bytes_eq}
use Rattle.sq_base.proofs.CommonLaws.{bytes_turned}
use Rattle.sq_rules.specs.Configurations.{have_own_names, is_named, place_from}
use Rattle.sq_rules.specs.Names.{KnowsPlaces, place_at}

tells : (b c : Bool) (o : Option ℕ) (n : ℕ) → is_some o ≡ c → is_some (if b then Some n else o) ≡ (b || c)
tells true c o n e = refl
tells false c o n e = e

-- a name has a place where it is among the names
pub place_tells : {A : Type 0} (f : A → List ℕ) (n : ℕ) (xs : List A) (name : List ℕ)
    → is_some (place_from f n xs name) ≡ is_named f xs name
place_tells f n [] name = refl
place_tells f n (x ∷ xs) name = tells (bytes_eq (f x) name) (is_named f xs name) (place_from f (suc n) xs name) n
    (place_tells f (suc n) xs name)

within : (b : Bool) (o : Option ℕ) (n m k : ℕ) → n < k → IfSome o (λ i. i < k)
    → IfSome (if b then Some n else o) (λ i. i < k)
within true o n m k l h = l
within false o n m k l h = h

-- a place lies within its list
pub place_within : {A : Type 0} (f : A → List ℕ) (n k : ℕ) (xs : List A) (name : List ℕ) → n + length xs ≡ k
    → IfSome (place_from f n xs name) (λ i. i < k)
place_within f n k [] name e = tt
place_within f n k (x ∷ xs) name e = within (bytes_eq (f x) name) (place_from f (suc n) xs name) n n k (omega arith)
    (place_within f (suc n) k xs name (omega arith))

first : (b : Bool) (n : ℕ) (o p : Option ℕ)
    → (if b then Some n else option_or o p) ≡ option_or (if b then Some n else o) p
first true n o p = refl
first false n o p = refl

-- the place in a list with one element more
pub place_push : {A : Type 0} (f : A → List ℕ) (n k : ℕ) (xs : List A) (x : A) (name : List ℕ) → n + length xs ≡ k →
    place_from f n (xs ++ x ∷ []) name
    ≡ option_or (place_from f n xs name) (if bytes_eq (f x) name then Some k else None)
place_push f n k [] x name e = let same : n ≡ k = omega arith in rw same refl
place_push f n k (y ∷ xs) x name e =
    ap (λ o. if bytes_eq (f y) name then Some n else o) (place_push f (suc n) k xs x name (omega arith))
    ∙ first (bytes_eq (f y) name) n (place_from f (suc n) xs name) (if bytes_eq (f x) name then Some k else None)

kept_or : (b : Bool) (k : ℕ) (o : Option ℕ) → (b ≡ true → o ≡ None)
    → cond b (Some k) o ≡ option_or o (if b then Some k else None)
kept_or true k o none = rw (none refl) refl
kept_or false k None none = refl
kept_or false k (Some i) none = refl

-- equal names have the same place
pub same_place : {A : Type 0} (f : A → List ℕ) (n : ℕ) (xs : List A) (a b : List ℕ) → bytes_eq a b ≡ true
    → place_from f n xs a ≡ None → place_from f n xs b ≡ None
same_place f n xs a b e none = let same : a ≡ b = grind (arith, e, bytes_eq-Decides a b) in rw (← same) none

-- the places are kept, where a new name is noted with the next place
pub known_push : {A : Type 0} (f : A → List ℕ) (kept more : List (List ℕ × ℕ)) (xs ys : List A) (x : A) (k : List ℕ)
    (place : ℕ) → KnowsPlaces f kept xs →
    ((q : List ℕ) → place_at more q ≡ cond (bytes_eq k q) (Some place) (place_at kept q)) →
    place_from f 0 xs (f x) ≡ None → k ≡ f x → place ≡ length xs → ys ≡ xs ++ x ∷ [] → KnowsPlaces f more ys
known_push f kept more xs ys x k place knows noted none named last longer name =
    let e : place_at more name ≡ cond (bytes_eq (f x) name) (Some (length xs)) (place_from f 0 xs name) =
    rw (noted name, knows name, named, last) refl in
    rw longer (e ∙ kept_or (bytes_eq (f x) name) (length xs) (place_from f 0 xs name)
    (λ same. same_place f 0 xs (f x) name same none)
    ∙ sym (place_push f 0 (length xs) xs x name (omega arith)))

no_more : (a b : Bool) → a ≡ false → b ≡ false → (a || (b || false)) ≡ false
no_more a b p q = grind (arith, p, q)

both_of : (x d y z e : Bool) → (not x && d) ≡ true → (y || z) ≡ false → (d ≡ true → z ≡ false → e ≡ true)
    → (not (x || (y || false)) && e) ≡ true
both_of true d y z e p q k = cc
both_of false d true z e p q k = cc
both_of false d false z e p q k = k p q

-- a new name leaves names of their own
pub names_push : {A : Type 0} (f : A → List ℕ) (xs : List A) (x : A) → have_own_names f xs ≡ true
    → is_named f xs (f x) ≡ false → have_own_names f (xs ++ x ∷ []) ≡ true
names_push f [] x own new = refl
names_push f (y ∷ xs) x own new =
    rw (list_any-append (λ a. bytes_eq (f a) (f y)) xs (x ∷ []), bytes_turned (f x) (f y))
    (both_of (is_named f xs (f y)) (have_own_names f xs) (bytes_eq (f y) (f x)) (is_named f xs (f x))
    (have_own_names f (xs ++ x ∷ [])) own new (names_push f xs x))

-- the same, where the name has no place
pub own_push : {A : Type 0} (f : A → List ℕ) (xs ys : List A) (x : A) → have_own_names f xs ≡ true
    → place_from f 0 xs (f x) ≡ None → ys ≡ xs ++ x ∷ [] → have_own_names f ys ≡ true
own_push f xs ys x own none longer =
    let new : is_named f xs (f x) ≡ false = sym (place_tells f 0 xs (f x)) ∙ ap is_some none in
    rw longer (names_push f xs x own new)

none_or : (a b c : Bool) → (a || (b || c)) ≡ false → b ≡ false
none_or a b c e = grind (arith, e)

freed : (m o : Bool) (n : ℕ) (b : Bool) (p : Option ℕ) → (not m && o) ≡ true → (m ≡ false → b ≡ false)
    → (o ≡ true → p ≡ None) → (if b then Some n else p) ≡ None
freed true o n b p own k h = cc
freed false o n b p own k h = rw (k refl) (h own)

-- of names of their own, none stands before its own element
pub own_free : {A : Type 0} (f : A → List ℕ) (n : ℕ) (xs ys : List A) (x : A) → have_own_names f (xs ++ x ∷ ys) ≡ true
    → place_from f n xs (f x) ≡ None
own_free f n [] ys x own = refl
own_free f n (z ∷ xs) ys x own =
    freed (is_named f (xs ++ x ∷ ys) (f z)) (have_own_names f (xs ++ x ∷ ys)) n (bytes_eq (f z) (f x))
    (place_from f (suc n) xs (f x)) own
    (λ none. bytes_turned (f z) (f x)
    ∙ none_or (is_named f xs (f z)) (bytes_eq (f x) (f z)) (is_named f ys (f z))
    (sym (list_any-append (λ a. bytes_eq (f a) (f z)) xs (x ∷ ys)) ∙ none))
    (own_free f (suc n) xs ys x)
