-- A list that is read off another from left to right, each element from those before: when an element
-- of the other changes.
use Rattle.std.proofs.Common.{◌≡◌, ℕ, ◌+◌, ◌≤◌, ◌<◌, suc, zero, List, [], ◌∷◌, ◌++◌, length, take, drop, set, get_or, Bool, false, ◌&&◌, refl, sym, ap, subst, ◌∙◌, arith, Some, slice_get}
use Rattle.std.proofs.lemmas.List.{length-take-le, length_push, set_split, take_all, take_at, take-take, take-append-drop, get_or-take, get_or_push}
use Rattle.std.proofs.lemmas.List.Folds.{list_all-append}
use Rattle.std.proofs.lemmas.Option.{slice_get_within}
use Rattle.std.specs.List.{list_all}

-- what is read off some elements, behind what was read before
abbrev pub scan : {A X : Type 0} → (List X → A → X) → List X → List A → List X
scan f before [] = before
scan f before (a ∷ xs) = scan f (before ++ f before a ∷ []) xs

pub scan_append : {A X : Type 0} (f : List X → A → X) (before : List X) (xs ys : List A)
    → scan f before (xs ++ ys) ≡ scan f (scan f before xs) ys
scan_append f before [] ys = refl
scan_append f before (x ∷ xs) ys = scan_append f (before ++ f before x ∷ []) xs ys

pub scan_length : {A X : Type 0} (f : List X → A → X) (before : List X) (xs : List A)
    → length (scan f before xs) ≡ length before + length xs
scan_length f before [] = omega arith
scan_length f before (x ∷ xs) = omega
    (arith, scan_length f (before ++ f before x ∷ []) xs, length_push before (f before x))

-- what was read before stays
pub scan_front : {A X : Type 0} (f : List X → A → X) (before : List X) (xs : List A)
    → take (length before) (scan f before xs) ≡ before
scan_front f before [] = take_all (length before) before (omega arith)
scan_front f before (x ∷ xs) =
    let more = before ++ f before x ∷ [] in
    let less : length before ≤ length more = omega (arith, length_push before (f before x)) in
    sym (take-take (length before) (length more) (scan f more xs) less)
    ∙ ap (take (length before)) (scan_front f more xs)
    ∙ take_at before (f before x ∷ []) (length before) refl

-- what is read off the first elements is the first part
pub scan_take : {A X : Type 0} (f : List X → A → X) (xs : List A) (n : ℕ) → n ≤ length xs
    → scan f [] (take n xs) ≡ take n (scan f [] xs)
scan_take f xs n within =
    let front = scan f [] (take n xs) in
    let long : length front ≡ n = omega (arith, scan_length f [] (take n xs), length-take-le n xs within) in
    let whole : scan f [] xs ≡ scan f front (drop n xs) = ap (scan f []) (sym (take-append-drop n xs))
    ∙ scan_append f [] (take n xs) (drop n xs) in
    sym (ap (take n) whole ∙ subst (λ k. take k (scan f front (drop n xs)) ≡ front) long
    (scan_front f front (drop n xs)))

-- a list about one of its elements
pub split_about : {A : Type 0} (xs : List A) (n : ℕ) (x : A) → slice_get xs n ≡ Some x
    → xs ≡ take n xs ++ x ∷ drop (suc n) xs
split_about [] n x e = cc
split_about (y ∷ xs) zero x e = cc
split_about (y ∷ xs) (suc n) x e = ap (λ l. y ∷ l) (split_about xs n x e)

-- what is read off a list of which one element is put in
pub scan_about : {A X : Type 0} (f : List X → A → X) (xs ys : List A) (x : A) →
    scan f [] (xs ++ x ∷ ys) ≡ scan f (scan f [] xs ++ f (scan f [] xs) x ∷ []) ys
scan_about f xs ys x = scan_append f [] xs (x ∷ ys)

pub scan_set : {A X : Type 0} (f : List X → A → X) (xs : List A) (n : ℕ) (y : A) → n < length xs →
    scan f [] (set xs n y) ≡ scan f (take n (scan f [] xs) ++ f (take n (scan f [] xs)) y ∷ []) (drop (suc n) xs)
scan_set f xs n y within =
    let front : scan f [] (take n xs) ≡ take n (scan f [] xs) = scan_take f xs n (omega arith) in
    ap (scan f []) (set_split xs n y within) ∙ scan_about f (take n xs) (drop (suc n) xs) y
    ∙ ap (λ l. scan f (l ++ f l y ∷ []) (drop (suc n) xs)) front

pub scan_split : {A X : Type 0} (f : List X → A → X) (xs : List A) (n : ℕ) (x : A) → slice_get xs n ≡ Some x →
    scan f [] xs ≡ scan f (take n (scan f [] xs) ++ f (take n (scan f [] xs)) x ∷ []) (drop (suc n) xs)
scan_split f xs n x is =
    let within : n < length xs = slice_get_within xs n x is in
    let front : scan f [] (take n xs) ≡ take n (scan f [] xs) = scan_take f xs n (omega arith) in
    ap (scan f []) (split_about xs n x is) ∙ scan_about f (take n xs) (drop (suc n) xs) x
    ∙ ap (λ l. scan f (l ++ f l x ∷ []) (drop (suc n) xs)) front

-- an element of which the same is read changes nothing
pub scan_same : {A X : Type 0} (f : List X → A → X) (xs : List A) (n : ℕ) (x y : A) → slice_get xs n ≡ Some x →
    f (take n (scan f [] xs)) y ≡ f (take n (scan f [] xs)) x → scan f [] (set xs n y) ≡ scan f [] xs
scan_same f xs n x y is same =
    scan_set f xs n y (slice_get_within xs n x is)
    ∙ ap (λ z. scan f (take n (scan f [] xs) ++ z ∷ []) (drop (suc n) xs)) same
    ∙ sym (scan_split f xs n x is)

-- what is read at a place
pub scan_at : {A X : Type 0} (f : List X → A → X) (xs : List A) (n : ℕ) (x : A) (d : X) → slice_get xs n ≡ Some x →
    get_or (scan f [] xs) n d ≡ f (take n (scan f [] xs)) x
scan_at f xs n x d is =
    let within : n < length xs = slice_get_within xs n x is in
    let front = take n (scan f [] xs) in
    let long : length front ≡ n = length-take-le n (scan f [] xs) (omega (arith, scan_length f [] xs)) in
    let more = front ++ f front x ∷ [] in
    let longer : length more ≡ n + 1 = length_push front (f front x) ∙ ap (λ k. k + 1) long in
    let begins : take (n + 1) (scan f [] xs) ≡ more = ap (take (n + 1)) (scan_split f xs n x is)
    ∙ subst (λ k. take k (scan f more (drop (suc n) xs)) ≡ more) longer (scan_front f more (drop (suc n) xs)) in
    sym (get_or-take (n + 1) (scan f [] xs) n d (omega arith)) ∙ ap (λ l. get_or l n d) begins
    ∙ get_or_push front (f front x) d n long

and_false : (a b : Bool) → a ≡ false → (a && b) ≡ false
and_false a b e = grind (arith, e)

-- a part that fails a test stays
pub scan_fails : {A X : Type 0} (f : List X → A → X) (p : X → Bool) (before : List X) (xs : List A)
    → list_all p before ≡ false → list_all p (scan f before xs) ≡ false
scan_fails f p before [] bad = bad
scan_fails f p before (x ∷ xs) bad =
    scan_fails f p (before ++ f before x ∷ []) xs
    (list_all-append p before (f before x ∷ []) ∙ and_false (list_all p before) (list_all p (f before x ∷ [])) bad)
