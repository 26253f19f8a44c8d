-- The aggregate buckets of pools.
use Rattle.std.proofs.Common.{◌≡◌, ◌∙◌, ◌==◌, ◌&&◌, ◌||◌, ◌≤◌, nat_lt, Bool, true, false, ℕ, List, [], ◌∷◌, Option, None, Some, length, refl, ap, sym, arith, suc, zero, slice_get, ◌+◌, add-one}
use Rattle.std.specs.Option.{option_map_or}
use Rattle.std.proofs.lemmas.Bool.Decides.{nat_tests}
use Rattle.sq_machine.specs.PoolReadings.{Beginning, BucketSpot, bucket_pairs, has_spot, is_aggregate, is_spot, spots_from, spots_of}
use Rattle.sq_rules.specs.Rates.{Limit}
use Rattle.sq_rules.specs.declared.pools.Pool.{Pool}
use Rattle.sq_buckets.specs.Grants.{filled_if, is_aggregate_of, opened_in}
use Rattle.sq_machine.specs.BucketLevels.{Filled}
use Rattle.sq_buckets.proofs.BucketLaws.{opened_more}
use Rattle.sq_buckets.proofs.SpotLaws.{both_first, spot_same, spots_past}

abbrev named : ℕ → Limit → BucketSpot
named place r = record { pool = place; place = 0; host = 0; limit = r; tag = [] }

first_by : (place class number : ℕ) (limits : List (Option Limit)) (r : Limit) (s : BucketSpot) (b c : Bool)
    → is_spot (named place r) s ≡ b
    → has_spot (spots_from place class number 1 limits) s ≡ c → ((b || c) && s.place == 0) ≡ b
first_by place class number limits r s true c t e =
    let same : named place r ≡ s = spot_same (named place r) s t in
    let zero_is : 0 ≡ s.place = ap (λ (y : BucketSpot). y.place) same in
    rw (← zero_is) refl
first_by place class number limits r s false true t e =
    let past = spots_past place class number 1 limits s e in
    let at = past.place_is in
    let other : (s.place == 0) ≡ false = grind (arith, nat_tests) in
    other
first_by place class number limits r s false false t e = refl

aggregate_by : (place class : ℕ) (limits : List (Option Limit)) (r : Limit) (s : BucketSpot)
    → slice_get limits 0 ≡ Some (Some r)
    → (has_spot (spots_from place class 0 0 limits) s && s.place == 0) ≡ is_spot (named place r) s
aggregate_by place class [] r s e = absurd (cc)
aggregate_by place class (None ∷ limits) r s e = absurd (cc)
aggregate_by place class (Some q ∷ limits) r s e =
    let same : q ≡ r = cc in
    first_by place class 0 limits q s (is_spot (named place q) s) (has_spot (spots_from place class 0 1 limits) s) refl
    refl ∙ ap (λ x. is_spot (named place x) s) same

none_by : (place class : ℕ) (limits : List (Option Limit)) (s : BucketSpot) (c : Bool)
    → has_spot (spots_from place class 0 1 limits) s ≡ c → (c && s.place == 0) ≡ false
none_by place class limits s true e =
    let past = spots_past place class 0 1 limits s e in
    let at = past.place_is in
    let other : (s.place == 0) ≡ false = grind (arith, nat_tests) in
    other
none_by place class limits s false e = refl

unlimited_by : (place class : ℕ) (limits : List (Option Limit)) (s : BucketSpot) → slice_get limits 0 ≡ Some None
    → (has_spot (spots_from place class 0 0 limits) s && s.place == 0) ≡ false
unlimited_by place class [] s e = absurd (cc)
unlimited_by place class (None ∷ limits) s e = none_by place class limits s
    (has_spot (spots_from place class 0 1 limits) s) refl
unlimited_by place class (Some q ∷ limits) s e = absurd (cc)

empty_by : (place class : ℕ) (limits : List (Option Limit)) (s : BucketSpot) → slice_get limits 0 ≡ None
    → (has_spot (spots_from place class 0 0 limits) s && s.place == 0) ≡ false
empty_by place class [] s e = refl
empty_by place class (q ∷ limits) s e = absurd (cc)

-- for a pool whose aggregate bucket has a limit
pub aggregate_is : (place : ℕ) (p : Pool) (r : Limit) (s : BucketSpot) → slice_get (bucket_pairs p) 0 ≡ Some (Some r)
    → is_aggregate_of place p s ≡ is_spot (named place r) s
aggregate_is place p r s e = aggregate_by place p.class (bucket_pairs p) r s e

-- for a pool whose aggregate bucket has no limit
pub aggregate_unlimited : (place : ℕ) (p : Pool) (s : BucketSpot) → slice_get (bucket_pairs p) 0 ≡ Some None
    → is_aggregate_of place p s ≡ false
aggregate_unlimited place p s e = unlimited_by place p.class (bucket_pairs p) s e

-- for a pool without such pairs
pub aggregate_empty : (place : ℕ) (p : Pool) (s : BucketSpot) → slice_get (bucket_pairs p) 0 ≡ None
    → is_aggregate_of place p s ≡ false
aggregate_empty place p s e = empty_by place p.class (bucket_pairs p) s e

abbrev aggregate_at : List Pool → BucketSpot → ℕ → Bool
aggregate_at pools s k = has_spot
    (option_map_or (λ p. spots_of k p (record { v6 = false; number = 0 })) (slice_get pools k) []) s && s.place == 0

other_pool : (i : ℕ) (p : Pool) (s : BucketSpot) (b : Bool) → is_aggregate_of i p s ≡ b → (s.pool == i) ≡ false
    → b ≡ false
other_pool i p s false e t = refl
other_pool i p s true e t =
    let past = spots_past i p.class 0 0 (bucket_pairs p) s (both_first _ (s.place == 0) e) in
    let is = past.pool_is in
    let yes : (s.pool == i) ≡ true = grind (arith, nat_tests) in
    absurd (let no : true ≡ false = sym yes ∙ t in cc)

pub or_no : (a : Bool) → (a || false) ≡ a
or_no true = refl
or_no false = refl

-- for one pool more: an aggregate bucket of the pools so far
pub aggregates_more : (c : Beginning) (i : ℕ) (p : Pool) (s : BucketSpot) → slice_get c.pools i ≡ Some p
    → ((nat_lt s.pool i && is_aggregate c.pools s) || is_aggregate_of i p s)
    ≡ (nat_lt s.pool (suc i) && is_aggregate c.pools s)
aggregates_more c i p s e = (elim (s.pool == i) as
    (λ y. (s.pool == i) ≡ y → ((nat_lt s.pool i && is_aggregate c.pools s) || is_aggregate_of i p s)
    ≡ (nat_lt s.pool (suc i) && is_aggregate c.pools s)) [
      | true ↦ λ t.
          let is : s.pool ≡ i = grind (arith, nat_tests, t) in
          let no : nat_lt s.pool i ≡ false = grind (arith, nat_tests) in
          let yes : nat_lt s.pool (suc i) ≡ true = grind (arith, nat_tests) in
          let here : is_aggregate c.pools s ≡ is_aggregate_of i p s = ap (aggregate_at c.pools s) is
          ∙ ap (λ o. has_spot (option_map_or (λ q. spots_of i q (record { v6 = false; number = 0 })) o []) s && s.place
          == 0) e in
          rw (no, yes) (sym here)
      | false ↦ λ t.
          let none : is_aggregate_of i p s ≡ false = other_pool i p s (is_aggregate_of i p s) refl t in
          let same : nat_lt s.pool (suc i) ≡ nat_lt s.pool i = grind (arith, nat_tests, t) in
          rw (none, same) (or_no (nat_lt s.pool i && is_aggregate c.pools s))
    ]) refl

past_end : {A : Type 0} (xs : List A) (k : ℕ) → length xs ≤ k → slice_get xs k ≡ None
past_end [] k h = refl
past_end (x ∷ xs) zero h = absurd (omega arith)
past_end (x ∷ xs) (suc k) h = past_end xs k (omega arith)

-- for all pools: an aggregate bucket is of one of them
pub aggregates_all : (c : Beginning) (s : BucketSpot)
    → (nat_lt s.pool (length c.pools) && is_aggregate c.pools s) ≡ is_aggregate c.pools s
aggregates_all c s = (elim (nat_lt s.pool (length c.pools)) as
    (λ y. nat_lt s.pool (length c.pools) ≡ y
    → (nat_lt s.pool (length c.pools) && is_aggregate c.pools s) ≡ is_aggregate c.pools s) [
      | true ↦ λ t. rw t refl
      | false ↦ λ t.
          let far : length c.pools ≤ s.pool = grind (arith, nat_tests, t) in
          rw (t, past_end c.pools s.pool far) refl
    ]) refl

-- for one pool more: the aggregate buckets of the pools so far are open
pub aggregates_step : (c : Beginning) (i place percent : ℕ) (p : Pool) (s : BucketSpot) (old new : Option Filled)
    → slice_get c.pools i ≡ Some p → place ≡ i → percent ≡ c.initial
    → old ≡ filled_if (nat_lt s.pool i && is_aggregate c.pools s) (opened_in c.initial 0 s) None
    → new ≡ filled_if (is_aggregate_of place p s) (opened_in percent 0 s) old
    → new ≡ filled_if (nat_lt s.pool (i + 1) && is_aggregate c.pools s) (opened_in c.initial 0 s) None
aggregates_step c i place percent p s old new at here start was is =
    is ∙ rw (was, here, start, add-one)
    (opened_more (nat_lt s.pool i && is_aggregate c.pools s) (is_aggregate_of i p s) (opened_in c.initial 0 s) None
    ∙ ap (λ b. filled_if b (opened_in c.initial 0 s) None) (aggregates_more c i p s at))

-- for all pools: their aggregate buckets are open
pub aggregates_end : (c : Beginning) (i : ℕ) (s : BucketSpot) (o : Option Filled) → length c.pools ≡ i
    → o ≡ filled_if (nat_lt s.pool i && is_aggregate c.pools s) (opened_in c.initial 0 s) None
    → o ≡ filled_if (is_aggregate c.pools s) (opened_in c.initial 0 s) None
aggregates_end c i s o end is = is ∙ rw (← end, aggregates_all c s) refl
