-- Laws of the act that is due.
use Rattle.std.proofs.Common.{◌≡◌, ℕ, zero, suc, ◌+◌, ◌<◌, List, [], ◌∷◌, ◌++◌, map, length, set, Bool, true, false, not, cond, if◌then◌else◌, nat_lt, ◌==◌, refl, sym, subst, arith, ap, ◌∙◌, Some, None, is_some, drop, filter}
use Rattle.std.specs.List.{flat_map, position, prefix_len, slice_get}
use Rattle.std.specs.Option.{option_and_then, option_map, option_or}
use Rattle.std.specs.declared.option.Option.{Option}
use Rattle.std.proofs.lemmas.Option.{same_Some}
use Rattle.sq_channel.proofs.RisingLaws.{if_false, if_true}
use Rattle.sq_machine.specs.DueActs.{ClassId, Due, first_made, first_of, sends, starts, stops}
use Rattle.sq_machine.specs.Farms.{Sending, send_of, start_due}
use Rattle.sq_machine.specs.Numbered.{below}
use Rattle.sq_machine.specs.Rising.{AreAbove, Rises}
use Rattle.sq_class.specs.Parts.{PartState}
use Rattle.sq_epochs.specs.DueStates.{act_at, act_in, after_act_in, after_due, change_at, change_class, first_place, has_act, live_places, owes_send, owes_start, places_in, send_by, sent_part, start_by, started_part}
use Rattle.sq_epochs.specs.EpochStates.{EpochState, EpochsState, change_epoch, epoch_in, epoch_number, part_at, part_of}

shifted : (a b : ℕ) → nat_lt (suc a) (suc b) ≡ nat_lt a b
shifted a b = grind arith

-- std's search by a test, by recursion on the list
pub position_is : {A : Type 0} (test : A → Bool) (xs : List A) → position test xs ≡ first_place test xs
position_is test [] = refl
position_is {A = A} test (x ∷ xs) = by_test (test x) (position_is test xs)
  where
    more : ℕ
    more = prefix_len (λ y. not (test y)) xs

    one : 1 + more ≡ suc more
    one = omega arith

    found : (n m : ℕ) → cond (nat_lt (suc m) (suc n)) (Some (suc m)) None
        ≡ option_map suc (cond (nat_lt m n) (Some m) None)
    found n m = ap (λ b. cond b (Some (suc m)) None) (shifted m n) ∙ here (nat_lt m n)
      where
        here : (b : Bool) → cond b (Some (suc m)) None ≡ option_map suc (cond b (Some m) None)
        here true = refl
        here false = refl

    first : (n : ℕ) → nat_lt 0 (suc n) ≡ true
    first n = grind arith

    by_test : (b : Bool) → position test xs ≡ first_place test xs
        → cond (nat_lt (cond (not b) (1 + more) 0) (suc (length xs))) (Some (cond (not b) (1 + more) 0)) None
        ≡ (if b then Some 0 else option_map suc (first_place test xs))
    by_test true e = ap (λ b. cond b (Some 0) None) (first (length xs))
    by_test false e = ap (λ m. cond (nat_lt m (suc (length xs))) (Some m) None) one ∙ found (length xs) more
        ∙ ap (option_map suc) e

or_none : {B : Type 0} (o : Option B) → option_or o None ≡ o
or_none None = refl
or_none (Some x) = refl

or_some : {B : Type 0} (o p : Option B) → is_some o ≡ true → option_or o p ≡ o
or_some None p is = absurd cc
or_some (Some x) p is = refl

-- the first that is made, of two lists, of a list of images, of numbers, and of lists of lists
pub made_append : {A B : Type 0} (f : A → Option B) (xs ys : List A)
    → first_made f (xs ++ ys) ≡ option_or (first_made f xs) (first_made f ys)
made_append f [] ys = refl
made_append {B = B} f (x ∷ xs) ys = by_case (f x) (made_append f xs ys)
  where
    by_case : (o : Option B) → first_made f (xs ++ ys) ≡ option_or (first_made f xs) (first_made f ys)
        → option_or o (first_made f (xs ++ ys)) ≡ option_or (option_or o (first_made f xs)) (first_made f ys)
    by_case None more = more
    by_case (Some y) more = refl

pub made_map : {A B X : Type 0} (f : A → Option B) (g : X → A) (xs : List X)
    → first_made f (map g xs) ≡ first_made (λ x. f (g x)) xs
made_map f g [] = refl
made_map f g (x ∷ xs) = ap (option_or (f (g x))) (made_map f g xs)

pub made_none : {B : Type 0} (h : ℕ → Option B) (n : ℕ) → ((j : ℕ) → j < n → h j ≡ None) → first_made h (below n) ≡ None
made_none h zero none = refl
made_none h (suc n) none =
    made_append h (below n) (n ∷ [])
    ∙ ap (λ z. option_or z (option_or (h n) None)) (made_none h n (λ j l. none j (omega arith))) ∙ or_none (h n)
    ∙ none n (omega arith)

pub made_below : {B : Type 0} (h : ℕ → Option B) (n c : ℕ) → c < n → ((j : ℕ) → j < c → h j ≡ None)
    → is_some (h c) ≡ true → first_made h (below n) ≡ h c
made_below h zero c l none some = absurd (omega arith)
made_below {B = B} h (suc n) c l none some = by_test (c == n) refl (made_below h n c)
  where
    last : c ≡ n → first_made h (below n ++ n ∷ []) ≡ h c
    last e =
        made_append h (below n) (n ∷ [])
        ∙ ap (λ z. option_or z (option_or (h n) None)) (made_none h n (λ j m. none j (omega (arith, e))))
        ∙ or_none (h n) ∙ ap h (sym e)

    before : (c == n) ≡ false → c < n
    before t = grind (arith, t, l)

    by_test : (b : Bool) → (c == n) ≡ b
        → (c < n → ((j : ℕ) → j < c → h j ≡ None) → is_some (h c) ≡ true → first_made h (below n) ≡ h c)
        → first_made h (below n ++ n ∷ []) ≡ h c
    by_test true t more = last (same c n t)
      where
        same : (a b : ℕ) → (a == b) ≡ true → a ≡ b
        same a b t = grind (arith, t)
    by_test false t more = made_append h (below n) (n ∷ [])
        ∙ ap (λ z. option_or z (option_or (h n) None)) (more (before t) none some)
        ∙ or_some (h c) (option_or (h n) None) some

pub made_flat : {A B X : Type 0} (f : A → Option B) (p : X → List A) (xs : List X)
    → first_made f (flat_map p xs) ≡ first_made (λ x. first_made f (p x)) xs
made_flat f p [] = refl
made_flat f p (x ∷ xs) = made_append f (p x) (flat_map p xs) ∙ ap (option_or (first_made f (p x))) (made_flat f p xs)

pub made_same : {A B : Type 0} (f g : A → Option B) (xs : List A) → ((x : A) → f x ≡ g x)
    → first_made f xs ≡ first_made g xs
made_same f g [] same = refl
made_same {B = B} f g (x ∷ xs) same = ap (λ (o : Option B). option_or o (first_made f xs)) (same x)
    ∙ ap (option_or (g x)) (made_same f g xs same)

-- the first that meets a test, and those before it
pub record IsFirstOf {A : Type 0} (test : A → Bool) (xs : List A) (c : ℕ) : Type 0 where
  pub it : A
  pub at : slice_get xs c ≡ Some it
  pub hit : test it ≡ true
  pub before : (j : ℕ) (x : A) → j < c → slice_get xs j ≡ Some x → test x ≡ false

pub first_is : {A : Type 0} (test : A → Bool) (xs : List A) (c : ℕ) → first_place test xs ≡ Some c → IsFirstOf test xs c
first_is test [] c e = absurd cc
first_is {A = A} test (x ∷ xs) c e = by_test (test x) refl e (first_is test xs)
  where
    later : (o : Option ℕ) → first_place test xs ≡ o → option_map suc o ≡ Some c
        → ((d : ℕ) → first_place test xs ≡ Some d → IsFirstOf test xs d) → test x ≡ false → IsFirstOf test (x ∷ xs) c
    later None q e more miss = absurd cc
    later (Some d) q e more miss =
        let rest = more d q in
        let c_is : suc d ≡ c = cc in
        subst (IsFirstOf test (x ∷ xs)) c_is
        (record { it = rest.it; at = rest.at; hit = rest.hit; before = λ j y l at. by_place j y l at rest })
      where
        by_place : (j : ℕ) (y : A) → j < suc d → slice_get (x ∷ xs) j ≡ Some y → IsFirstOf test xs d → test y ≡ false
        by_place zero y l at rest = let x_is : x ≡ y = cc in ap test (sym x_is) ∙ miss
        by_place (suc j) y l at rest = rest.before j y (omega arith) at

    by_test : (b : Bool) → test x ≡ b → (if b then Some 0 else option_map suc (first_place test xs)) ≡ Some c
        → ((d : ℕ) → first_place test xs ≡ Some d → IsFirstOf test xs d) → IsFirstOf test (x ∷ xs) c
    by_test true t e more =
        let c_is : 0 ≡ c = cc in
        subst (IsFirstOf test (x ∷ xs)) c_is
        (record { it = x; at = refl; hit = t; before = λ j y l at. absurd (omega arith) })
    by_test false t e more = later (first_place test xs) refl e more t

pub first_none : {A : Type 0} (test : A → Bool) (xs : List A) → first_place test xs ≡ None → (j : ℕ) (x : A)
    → slice_get xs j ≡ Some x → test x ≡ false
first_none test [] e j x at = absurd cc
first_none {A = A} test (y ∷ ys) e j x at = by_test (test y) refl e j at (first_none test ys)
  where
    later : (o : Option ℕ) → option_map suc o ≡ None → o ≡ None
    later None e = refl
    later (Some d) e = absurd cc

    by_test : (b : Bool) → test y ≡ b → (if b then Some 0 else option_map suc (first_place test ys)) ≡ None → (j : ℕ)
        → slice_get (y ∷ ys) j ≡ Some x
        → (first_place test ys ≡ None → (j : ℕ) (x : A) → slice_get ys j ≡ Some x → test x ≡ false) → test x ≡ false
    by_test true t e j at more = absurd cc
    by_test false t e zero at more = let y_is : y ≡ x = cc in ap test (sym y_is) ∙ t
    by_test false t e (suc j) at more = more (later (first_place test ys) e) j x at

-- what is made of the first that meets a test, where nothing is made of others
pub made_first : {A B : Type 0} (g : A → Option B) (test : A → Bool) (xs : List A) (i : ℕ) (x : A)
    → first_place test xs ≡ Some i → slice_get xs i ≡ Some x
    → ((j : ℕ) (z : A) → slice_get xs j ≡ Some z → test z ≡ false → g z ≡ None) → is_some (g x) ≡ true
    → first_made g xs ≡ g x
made_first g test [] i x e at none some = absurd cc
made_first {A = A} g test (z ∷ zs) i x e at none some = by_test (test z) refl e (made_first g test zs)
  where
    later : (o : Option ℕ) → first_place test zs ≡ o → option_map suc o ≡ Some i → test z ≡ false
        → ((d : ℕ) (y : A) → first_place test zs ≡ Some d → slice_get zs d ≡ Some y
        → ((j : ℕ) (w : A) → slice_get zs j ≡ Some w → test w ≡ false → g w ≡ None) → is_some (g y) ≡ true
        → first_made g zs ≡ g y)
        → first_made g (z ∷ zs) ≡ g x
    later None q e miss more = absurd cc
    later (Some d) q e miss more =
        let i_is : i ≡ suc d = cc in
        ap (λ o. option_or o (first_made g zs)) (none 0 z refl miss)
        ∙ more d x q (ap (slice_get (z ∷ zs)) (sym i_is) ∙ at) (λ j w at' miss'. none (suc j) w at' miss') some

    by_test : (b : Bool) → test z ≡ b → (if b then Some 0 else option_map suc (first_place test zs)) ≡ Some i
        → ((d : ℕ) (y : A) → first_place test zs ≡ Some d → slice_get zs d ≡ Some y
        → ((j : ℕ) (w : A) → slice_get zs j ≡ Some w → test w ≡ false → g w ≡ None) → is_some (g y) ≡ true
        → first_made g zs ≡ g y)
        → first_made g (z ∷ zs) ≡ g x
    by_test true t e more =
        let i_is : i ≡ 0 = cc in
        let at_0 : slice_get (z ∷ zs) 0 ≡ Some x = ap (slice_get (z ∷ zs)) (sym i_is) ∙ at in
        let x_is : z ≡ x = cc in
        ap (λ y. option_or (g y) (first_made g zs)) x_is ∙ or_some (g x) (first_made g zs) some
    by_test false t e more = later (first_place test zs) refl e t more

pub made_nothing : {A B : Type 0} (g : A → Option B) (test : A → Bool) (xs : List A) → first_place test xs ≡ None
    → ((j : ℕ) (z : A) → slice_get xs j ≡ Some z → test z ≡ false → g z ≡ None) → first_made g xs ≡ None
made_nothing g test [] e none = refl
made_nothing {A = A} g test (z ∷ zs) e none = by_test (test z) refl e (made_nothing g test zs)
  where
    later : (o : Option ℕ) → option_map suc o ≡ None → o ≡ None
    later None e = refl
    later (Some d) e = absurd cc

    by_test : (b : Bool) → test z ≡ b → (if b then Some 0 else option_map suc (first_place test zs)) ≡ None
        → (first_place test zs ≡ None → ((j : ℕ) (w : A) → slice_get zs j ≡ Some w → test w ≡ false → g w ≡ None)
        → first_made g zs ≡ None) → first_made g (z ∷ zs) ≡ None
    by_test true t e more = absurd cc
    by_test false t e more = ap (λ o. option_or o (first_made g zs)) (none 0 z refl t)
        ∙ more (later (first_place test zs) e) (λ j w at miss. none (suc j) w at miss)

-- an epoch that stands in the list is found by its number
pub found_self : (xs : List EpochState) (i : ℕ) (x : EpochState) → Rises (map epoch_number xs) → slice_get xs i ≡ Some x
    → epoch_in x.epoch xs ≡ Some x
found_self [] i x r at = absurd cc
found_self (z ∷ zs) zero x r at =
    let z_is : z ≡ x = cc in
    if_true (x.epoch == z.epoch) (Some z) (epoch_in x.epoch zs) (same x.epoch z.epoch (ap epoch_number (sym z_is))) ∙ at
  where
    same : (a b : ℕ) → a ≡ b → (a == b) ≡ true
    same a b e = grind (arith, e)
found_self (z ∷ zs) (suc i) x r at =
    if_false (x.epoch == z.epoch) (Some z) (epoch_in x.epoch zs)
    (apart z.epoch x.epoch (above_at z.epoch zs i x r.0 at)) ∙ found_self zs i x r.1 at
  where
    apart : (a b : ℕ) → a < b → (b == a) ≡ false
    apart a b l = grind (arith, l)

    above_at : (n : ℕ) (ys : List EpochState) (j : ℕ) (y : EpochState) → AreAbove n (map epoch_number ys)
        → slice_get ys j ≡ Some y → n < y.epoch
    above_at n [] j y a at = absurd cc
    above_at n (w ∷ ys) zero y a at = let w_is : w ≡ y = cc in subst (λ u. n < u.epoch) w_is a.0
    above_at n (w ∷ ys) (suc j) y a at = above_at n ys j y a.1 at

-- the part of an epoch that stands in the list
pub part_self : (v : EpochsState) (i : ℕ) (x : EpochState) (c : ℕ) → Rises (map epoch_number v.epochs)
    → slice_get v.epochs i ≡ Some x → part_at v x.epoch c ≡ slice_get x.parts c
part_self v i x c r at = ap (part_of c) (found_self v.epochs i x r at)

-- an epoch that was changed where it stands
pub change_here : (xs : List EpochState) (i : ℕ) (x : EpochState) (g : EpochState → EpochState)
    → Rises (map epoch_number xs) → slice_get xs i ≡ Some x → set xs i (g x) ≡ change_epoch x.epoch g xs
change_here [] i x g r at = absurd cc
change_here (z ∷ zs) zero x g r at =
    let z_is : z ≡ x = cc in
    ap (λ w. g w ∷ zs) (sym z_is)
    ∙ sym (if_true (x.epoch == z.epoch) (g z ∷ zs) (z ∷ change_epoch x.epoch g zs)
    (same x.epoch z.epoch (ap epoch_number (sym z_is))))
  where
    same : (a b : ℕ) → a ≡ b → (a == b) ≡ true
    same a b e = grind (arith, e)
change_here (z ∷ zs) (suc i) x g r at =
    ap (λ w. z ∷ w) (change_here zs i x g r.1 at)
    ∙ sym (if_false (x.epoch == z.epoch) (g z ∷ zs) (z ∷ change_epoch x.epoch g zs)
    (apart z.epoch x.epoch (above_at z.epoch zs i x r.0 at)))
  where
    apart : (a b : ℕ) → a < b → (b == a) ≡ false
    apart a b l = grind (arith, l)

    above_at : (n : ℕ) (ys : List EpochState) (j : ℕ) (y : EpochState) → AreAbove n (map epoch_number ys)
        → slice_get ys j ≡ Some y → n < y.epoch
    above_at n [] j y a at = absurd cc
    above_at n (w ∷ ys) zero y a at = let w_is : w ≡ y = cc in subst (λ u. n < u.epoch) w_is a.0
    above_at n (w ∷ ys) (suc j) y a at = above_at n ys j y a.1 at

-- what is put back where it stands
pub set_back : {A : Type 0} (xs : List A) (i : ℕ) (x : A) → slice_get xs i ≡ Some x → set xs i x ≡ xs
set_back [] i x at = refl
set_back (z ∷ zs) zero x at = let z_is : z ≡ x = cc in ap (λ w. w ∷ zs) (sym z_is)
set_back (z ∷ zs) (suc i) x at = ap (λ w. z ∷ w) (set_back zs i x at)

module _ (by : ClassId → PartState → Option Due) (test : PartState → Bool)
    (agree : (p : ClassId) (x : PartState) → is_some (by p x) ≡ test x) where
  -- what a class at a place of an epoch is to do
  abbrev at_class : EpochState → ℕ → Option Due
  at_class x c = option_and_then (by (record { epoch = x.epoch; class = c })) (slice_get x.parts c)

  not_due : (x : EpochState) (c : ℕ) → ((p : PartState) → slice_get x.parts c ≡ Some p → test p ≡ false)
      → at_class x c ≡ None
  not_due x c miss = by_part (slice_get x.parts c) refl
    where
      nothing : (o : Option Due) → is_some o ≡ false → o ≡ None
      nothing None e = refl
      nothing (Some d) e = absurd cc

      by_part : (o : Option PartState) → slice_get x.parts c ≡ o
          → option_and_then (by (record { epoch = x.epoch; class = c })) o ≡ None
      by_part None q = refl
      by_part (Some p) q = nothing (by (record { epoch = x.epoch; class = c }) p)
          (agree (record { epoch = x.epoch; class = c }) p ∙ miss p q)

  -- an epoch by its places
  places_by : (v : EpochsState) (i : ℕ) (x : EpochState) → Rises (map epoch_number v.epochs)
      → slice_get v.epochs i ≡ Some x
      → first_made (act_at by v) (places_in x) ≡ first_made (at_class x) (below (length x.config.classes))
  places_by v i x r at =
      made_map (act_at by v) (λ c. record { epoch = x.epoch; class = c }) (below (length x.config.classes))
      ∙ made_same (λ c. act_at by v (record { epoch = x.epoch; class = c })) (at_class x)
      (below (length x.config.classes))
      (λ c. ap (option_and_then (by (record { epoch = x.epoch; class = c }))) (part_self v i x c r at))

  pub epoch_nothing : (v : EpochsState) (i : ℕ) (x : EpochState) → Rises (map epoch_number v.epochs)
      → slice_get v.epochs i ≡ Some x → has_act test x ≡ false → first_made (act_at by v) (places_in x) ≡ None
  epoch_nothing v i x r at miss =
      places_by v i x r at ∙ made_none (at_class x) (length x.config.classes)
      (λ c l. not_due x c (λ p q. first_none test x.parts (nothing (first_place test x.parts) miss) c p q))
    where
      nothing : (o : Option ℕ) → is_some o ≡ false → o ≡ None
      nothing None e = refl
      nothing (Some d) e = absurd cc

  pub act_made : (x : EpochState) → has_act test x ≡ true → is_some (act_in by test x) ≡ true
  act_made x hit = by_first (first_place test x.parts) refl hit
    where
      by_first : (o : Option ℕ) → first_place test x.parts ≡ o → is_some o ≡ true
          → is_some (option_and_then (at_class x) o) ≡ true
      by_first None q e = absurd cc
      by_first (Some c) q e =
          let f = first_is test x.parts c q in
          ap (λ z. is_some (option_and_then (by (record { epoch = x.epoch; class = c })) z)) f.at
          ∙ agree (record { epoch = x.epoch; class = c }) f.it ∙ f.hit

  pub epoch_made : (v : EpochsState) (i : ℕ) (x : EpochState) → Rises (map epoch_number v.epochs)
      → slice_get v.epochs i ≡ Some x → has_act test x ≡ true
      → ((c : ℕ) → first_place test x.parts ≡ Some c → c < length x.config.classes)
      → first_made (act_at by v) (places_in x) ≡ act_in by test x
  epoch_made v i x r at hit few = places_by v i x r at ∙ by_first (first_place test x.parts) refl hit
    where
      by_first : (o : Option ℕ) → first_place test x.parts ≡ o → is_some o ≡ true
          → first_made (at_class x) (below (length x.config.classes)) ≡ option_and_then (at_class x) o
      by_first None q e = absurd cc
      by_first (Some c) q e =
          let f = first_is test x.parts c q in
          made_below (at_class x) (length x.config.classes) c (few c q) (λ j l. not_due x j (λ p at. f.before j p l at))
          (ap (λ z. is_some (option_and_then (by (record { epoch = x.epoch; class = c })) z)) f.at
          ∙ agree (record { epoch = x.epoch; class = c }) f.it ∙ f.hit)

  -- what all live epochs are to do: nothing, or what the first is to do of which something is due
  pub all_nothing : (v : EpochsState) → Rises (map epoch_number v.epochs) → first_place (has_act test) v.epochs ≡ None
      → first_made (act_at by v) (live_places v) ≡ None
  all_nothing v r none =
      made_flat (act_at by v) places_in v.epochs
      ∙ made_nothing (λ x. first_made (act_at by v) (places_in x)) (has_act test) v.epochs none
      (λ j z at miss. epoch_nothing v j z r at miss)

  pub all_made : (v : EpochsState) (i : ℕ) (x : EpochState) → Rises (map epoch_number v.epochs)
      → first_place (has_act test) v.epochs ≡ Some i → slice_get v.epochs i ≡ Some x
      → ((c : ℕ) → first_place test x.parts ≡ Some c → c < length x.config.classes)
      → first_made (act_at by v) (live_places v) ≡ act_in by test x
  all_made v i x r first at few =
      let f = first_is (has_act test) v.epochs i first in
      let x_is : f.it ≡ x = same_Some f.it x (sym f.at ∙ at) in
      let hit : has_act test x ≡ true = subst (λ z. has_act test z ≡ true) x_is f.hit in
      let made = epoch_made v i x r at hit few in
      made_flat (act_at by v) places_in v.epochs
      ∙ made_first (λ z. first_made (act_at by v) (places_in z)) (has_act test) v.epochs i x first
      at (λ j z at miss. epoch_nothing v j z r at miss) (ap is_some made ∙ act_made x hit)
      ∙ made

-- what an act of an epoch is told by
pub send_agrees : (p : ClassId) (x : PartState) → is_some (send_by p x) ≡ owes_send x
send_agrees p x = by_send (send_of x.row.stock)
  where
    by_send : (o : Option Sending) → is_some (option_map (sends p) o) ≡ is_some o
    by_send None = refl
    by_send (Some s) = refl

pub start_agrees : (p : ClassId) (x : PartState) → is_some (start_by p x) ≡ owes_start x
start_agrees p x = by_start (start_due x.row.stock)
  where
    by_start : (b : Bool) → is_some (if b then Some (starts p) else None) ≡ b
    by_start true = refl
    by_start false = refl

-- an act is of a class of this epoch
abbrev pub IsOfEpoch : ℕ → Option Due → Type 0
IsOfEpoch e None = Unit {0}
IsOfEpoch e (Some (stops k)) = ⊥
IsOfEpoch e (Some (sends p s)) = p.epoch ≡ e
IsOfEpoch e (Some (starts p)) = p.epoch ≡ e

pub send_of_epoch : (x : EpochState) → IsOfEpoch x.epoch (act_in send_by owes_send x)
send_of_epoch x = by_first (first_place owes_send x.parts)
  where
    by_send : (c : ℕ) (o : Option Sending)
        → IsOfEpoch x.epoch (option_map (sends (record { epoch = x.epoch; class = c })) o)
    by_send c None = tt
    by_send c (Some s) = refl

    by_part : (c : ℕ) (o : Option PartState)
        → IsOfEpoch x.epoch (option_and_then (send_by (record { epoch = x.epoch; class = c })) o)
    by_part c None = tt
    by_part c (Some p) = by_send c (send_of p.row.stock)

    by_first : (o : Option ℕ)
        → IsOfEpoch x.epoch (option_and_then
        (λ c. option_and_then (send_by (record { epoch = x.epoch; class = c })) (slice_get x.parts c)) o)
    by_first None = tt
    by_first (Some c) = by_part c (slice_get x.parts c)

pub start_of_epoch : (x : EpochState) → IsOfEpoch x.epoch (act_in start_by owes_start x)
start_of_epoch x = by_first (first_place owes_start x.parts)
  where
    by_start : (c : ℕ) (b : Bool)
        → IsOfEpoch x.epoch (if b then Some (starts (record { epoch = x.epoch; class = c })) else None)
    by_start c true = refl
    by_start c false = tt

    by_part : (c : ℕ) (o : Option PartState)
        → IsOfEpoch x.epoch (option_and_then (start_by (record { epoch = x.epoch; class = c })) o)
    by_part c None = tt
    by_part c (Some p) = by_start c (start_due p.row.stock)

    by_first : (o : Option ℕ)
        → IsOfEpoch x.epoch (option_and_then
        (λ c. option_and_then (start_by (record { epoch = x.epoch; class = c })) (slice_get x.parts c)) o)
    by_first None = tt
    by_first (Some c) = by_part c (slice_get x.parts c)

-- an act of the epoch at a place is one of all
pub act_lifted : (v : EpochsState) (i : ℕ) (x : EpochState) (o : Option Due) → Rises (map epoch_number v.epochs)
    → slice_get v.epochs i ≡ Some x → IsOfEpoch x.epoch o
    → record v { epochs = set v.epochs i (after_act_in o x) } ≡ after_due o v
act_lifted v i x None r at of_it = ap (λ z. record v { epochs = z }) (set_back v.epochs i x at)
act_lifted v i x (Some (stops k)) r at of_it = absurd of_it
act_lifted v i x (Some (sends p s)) r at of_it =
    ap (λ z. record v { epochs = z })
    (change_here v.epochs i x (change_class p.class sent_part) r at
    ∙ ap (λ e. change_epoch e (change_class p.class sent_part) v.epochs) (sym of_it))
act_lifted v i x (Some (starts p)) r at of_it =
    ap (λ z. record v { epochs = z })
    (change_here v.epochs i x (change_class p.class started_part) r at
    ∙ ap (λ e. change_epoch e (change_class p.class started_part) v.epochs) (sym of_it))

-- a part that is changed at its place
pub change_set : (ps : List PartState) (c : ℕ) (p : PartState) (f : PartState → PartState) → slice_get ps c ≡ Some p
    → set ps c (f p) ≡ change_at c f ps
change_set [] c p f at = absurd cc
change_set (q ∷ ps) zero p f at = let q_is : q ≡ p = cc in ap (λ z. f z ∷ ps) (sym q_is)
change_set (q ∷ ps) (suc c) p f at = ap (λ z. q ∷ z) (change_set ps c p f at)

-- the stops without the one that is told
abbrev pub record_stops : Option ℕ → List ℕ → List ℕ
record_stops None ns = ns
record_stops (Some k) ns = filter (λ j. not (k == j)) ns

-- the first stop, taken out
pub drop_first : (ns : List ℕ) → Rises ns → record_stops (first_of ns) ns ≡ drop 1 ns
drop_first [] r = refl
drop_first (n ∷ ns) r = gone (n == n) refl ∙ all_stay n ns r.0
  where
    same : (a : ℕ) → (a == a) ≡ true
    same a = grind arith

    gone : (b : Bool) → (n == n) ≡ b
        → cond (not b) (n ∷ filter (λ j. not (n == j)) ns) (filter (λ j. not (n == j)) ns)
        ≡ filter (λ j. not (n == j)) ns
    gone true t = refl
    gone false t = absurd (let s = same n in cc)

    all_stay : (k : ℕ) (ms : List ℕ) → AreAbove k ms → filter (λ j. not (k == j)) ms ≡ ms
    all_stay k [] a = refl
    all_stay k (m ∷ ms) a = ap (λ b. cond (not b) (m ∷ filter (λ j. not (k == j)) ms) (filter (λ j. not (k == j)) ms))
        (apart k m a.0) ∙ ap (λ z. m ∷ z) (all_stay k ms a.1)
      where
        apart : (a b : ℕ) → a < b → (a == b) ≡ false
        apart a b l = grind (arith, l)
