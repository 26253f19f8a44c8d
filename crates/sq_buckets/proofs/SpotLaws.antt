-- Names of buckets: their test is equality, and which stand in a list.
use Rattle.std.proofs.Common.{◌≡◌, ◌∙◌, ◌&&◌, ◌||◌, ◌≤◌, ◌<◌, not, Bool, true, false, ℕ, List, [], ◌∷◌, ◌++◌, Option, None, Some, length, take, get_or, bytes_eq, refl, ap, sym, arith, suc, zero}
use Rattle.std.proofs.lemmas.Bool.Decides.{nat_tests}
use Rattle.std.proofs.lemmas.Slice.Eq.{bytes_eq-Decides}
use Rattle.std.proofs.lemmas.List.Folds.{list_any-append}
use Rattle.sq_machine.specs.PoolReadings.{BucketSpot, has_spot, host_of, is_spot, spots_from}
use Rattle.sq_rules.specs.Rates.{Limit}
use Rattle.sq_buckets.specs.Grants.{are_own}
use Rattle.sq_buckets.proofs.MapLaws.{spot_key}

abbrev spot : ℕ → ℕ → ℕ → ℕ → ℕ → List ℕ → BucketSpot
spot p l h r m t = record { pool = p; place = l; host = h; limit = record { restore = r; max = m }; tag = t }

spot_by : (p q l k h g r t m n : ℕ) (u v : List ℕ) → p ≡ q → l ≡ k → h ≡ g → r ≡ t → m ≡ n → u ≡ v
    → spot p l h r m u ≡ spot q k g t n v
spot_by p q l k h g r t m n u v a b c d e f = rw (a, b, c, d, e, f) refl

-- for equal names: their test tells it
pub spot_same : (a b : BucketSpot) → is_spot a b ≡ true → a ≡ b
spot_same a b e =
    let pool : a.pool ≡ b.pool = grind (arith, nat_tests) in
    let place : a.place ≡ b.place = grind (arith, nat_tests) in
    let host : a.host ≡ b.host = grind (arith, nat_tests) in
    let restore : a.limit.restore ≡ b.limit.restore = grind (arith, nat_tests) in
    let top : a.limit.max ≡ b.limit.max = grind (arith, nat_tests) in
    let tags : bytes_eq a.tag b.tag ≡ true = grind (arith, nat_tests) in
    spot_by a.pool b.pool a.place b.place a.host b.host a.limit.restore b.limit.restore a.limit.max b.limit.max a.tag
    b.tag pool place host restore top ((bytes_eq-Decides a.tag b.tag).0 tags)

or_later : (a b : Bool) → (a || b) ≡ false → b ≡ false
or_later true b e = cc
or_later false b e = e

or_first : (a b : Bool) → (a || b) ≡ false → a ≡ false
or_first true b e = cc
or_first false b e = refl

pub both_first : (a b : Bool) → (a && b) ≡ true → a ≡ true
both_first true b e = refl
both_first false b e = cc

pub both_second : (a b : Bool) → (a && b) ≡ true → b ≡ true
both_second true b e = e
both_second false b e = cc

not_true : (a : Bool) → not a ≡ true → a ≡ false
not_true true e = cc
not_true false e = refl

-- for one name more
pub has_more : (s t : BucketSpot) (spots : List BucketSpot)
    → has_spot (spots ++ t ∷ []) s ≡ (has_spot spots s || is_spot t s)
has_more s t spots = list_any-append (λ x. is_spot x s) spots (t ∷ []) ∙ grind arith

-- for a name that is none of these: it is none of the first of them
none_front : (s : BucketSpot) (spots : List BucketSpot) (i : ℕ) → has_spot spots s ≡ false
    → has_spot (take i spots) s ≡ false
none_front s [] zero e = refl
none_front s [] (suc i) e = refl
none_front s (t ∷ spots) zero e = refl
none_front s (t ∷ spots) (suc i) e =
    let here : is_spot t s ≡ false = or_first _ (has_spot spots s) e in
    let more : has_spot (take i spots) s ≡ false = none_front s spots i (or_later (is_spot t s) _ e) in
    rw (here) more

none_at : (s d : BucketSpot) (spots : List BucketSpot) (i : ℕ) → has_spot spots s ≡ false → i < length spots
    → is_spot s (get_or spots i d) ≡ false
none_at s d [] i e h = absurd (omega arith)
none_at s d (t ∷ spots) zero e h = spot_key.turned s t ∙ or_first _ (has_spot spots s) e
none_at s d (t ∷ spots) (suc i) e h = none_at s d spots i (or_later (is_spot t s) _ e) (omega arith)

-- for names of which none stands twice: one is none of those before it
pub own_at : (d : BucketSpot) (spots : List BucketSpot) (i : ℕ) → are_own spots ≡ true → i < length spots
    → has_spot (take i spots) (get_or spots i d) ≡ false
own_at d [] i e h = absurd (omega arith)
own_at d (t ∷ spots) zero e h = refl
own_at d (t ∷ spots) (suc i) e h =
    let apart : is_spot t (get_or spots i d) ≡ false =
    none_at t d spots i (not_true _ (both_first _ (are_own spots) e)) (omega arith) in
    rw apart (own_at d spots i (both_second (not (has_spot spots t)) _ e) (omega arith))

-- a bucket of these pairs: it is of their pool, and at one of their places
pub record IsSpotPast (pool k : ℕ) (s : BucketSpot) : Type 0 where
  pub pool_is : pool ≡ s.pool
  pub place_is : k ≤ s.place

past_by : (pool class number k : ℕ) (limits : List (Option Limit)) (x s : BucketSpot) (b : Bool) → x.pool ≡ pool
    → x.place ≡ k → is_spot x s ≡ b
    → (b || has_spot (spots_from pool class number (suc k) limits) s) ≡ true
    → (has_spot (spots_from pool class number (suc k) limits) s ≡ true → IsSpotPast pool (suc k) s)
    → IsSpotPast pool k s
past_by pool class number k limits x s true p q t e rest =
    let same : x ≡ s = spot_same x s t in
    let place : s.place ≡ k = sym (ap (λ (y : BucketSpot). y.place) same) ∙ q in
    record { pool_is = sym p ∙ ap (λ (y : BucketSpot). y.pool) same; place_is = omega arith }
past_by pool class number k limits x s false p q t e rest =
    let more = rest e in
    let place = more.place_is in
    record { pool_is = more.pool_is; place_is = omega arith }

-- for the buckets of pairs: where they stand
pub spots_past : (pool class number k : ℕ) (limits : List (Option Limit)) (s : BucketSpot)
    → has_spot (spots_from pool class number k limits) s ≡ true → IsSpotPast pool k s
spots_past pool class number k [] s e = absurd (cc)
spots_past pool class number k (None ∷ limits) s e =
    let more = spots_past pool class number (suc k) limits s e in
    let place = more.place_is in
    record { pool_is = more.pool_is; place_is = omega arith }
spots_past pool class number k (Some r ∷ limits) s e =
    past_by pool class number k limits
    (record { pool = pool; place = k; host = host_of class k number; limit = r; tag = [] }) s _ refl refl refl e
    (spots_past pool class number (suc k) limits s)

above : (pool class number k : ℕ) (limits : List (Option Limit)) (s : BucketSpot) (b : Bool)
    → has_spot (spots_from pool class number (suc k) limits) s ≡ b → s.place ≡ k → b ≡ false
above pool class number k limits s true e h = let more = spots_past pool class number (suc k) limits s e in
    let place = more.place_is in absurd (omega arith)
above pool class number k limits s false e h = refl

-- for the buckets of a client: none stands twice
pub own_spots : (pool class number k : ℕ) (limits : List (Option Limit))
    → are_own (spots_from pool class number k limits) ≡ true
own_spots pool class number k [] = refl
own_spots pool class number k (None ∷ limits) = own_spots pool class number (suc k) limits
own_spots pool class number k (Some r ∷ limits) =
    let x : BucketSpot = record { pool = pool; place = k; host = host_of class k number; limit = r; tag = [] } in
    let apart : has_spot (spots_from pool class number (suc k) limits) x ≡ false =
    above pool class number k limits x (has_spot (spots_from pool class number (suc k) limits) x) refl refl in
    rw apart (own_spots pool class number (suc k) limits)
