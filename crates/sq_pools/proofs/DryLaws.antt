-- What a grant and a bucket's numbers say of the buckets of a seat in use, all of which are there.
use Rattle.std.proofs.Common.{◌≡◌, ◌∙◌, ◌==◌, ◌||◌, ◌<◌, ℕ, zero, suc, min, List, [], ◌∷◌, Bool, true, false, is_some, is_none, slice_get, None, Some, refl, ap, sym, arith}
use Rattle.std.specs.List.{list_any}
use Rattle.std.specs.Option.{option_map, option_map_or}
use Rattle.std.specs.declared.option.Option.{Option}
use Rattle.sq_machine.specs.BucketLevels.{Filled, filled_to}
use Rattle.sq_machine.specs.PoolReadings.{Sat, BucketSpot}
use Rattle.sq_pools.specs.Basins.{IsBasin, is_dry, tally_then}
use Rattle.sq_pools.specs.Generations.{buckets_at, second_at}
use Rattle.sq_buckets.specs.Grants.{are_there, bucket_at, least_at, level_or_none}
use Rattle.sq_pools.specs.Seats.{seat_at}
use Rattle.sq_pools.specs.declared.generations.Generation.{Generation}
use Rattle.sq_pools.proofs.AggregateLaws.{or_no}
use Rattle.sq_pools.proofs.BasinLaws.{basin, seat_there}
use Rattle.sq_buckets.proofs.SpotLaws.{both_first, both_second}

zero_by : (a b : ℕ) (x y z : Bool) → (min a b == 0) ≡ x → (a == 0) ≡ y → (b == 0) ≡ z → x ≡ (y || z)
zero_by a b true true z e f g = refl
zero_by a b true false true e f g = refl
zero_by a b true false false e f g = absurd (grind (arith, e, f, g))
zero_by a b false true z e f g = absurd (grind (arith, e, f, g))
zero_by a b false false true e f g = absurd (grind (arith, e, f, g))
zero_by a b false false false e f g = refl

or_moved : (a b c : Bool) → ((a || b) || c) ≡ (a || (b || c))
or_moved true b c = refl
or_moved false b c = refl

abbrev pub is_low : ℕ → List (BucketSpot × Filled) → BucketSpot → Bool
is_low t es s = level_or_none t (bucket_at es s) == 0

least_zero : (t : ℕ) (es : List (BucketSpot × Filled)) (spots : List BucketSpot) (wanted : ℕ)
    → (least_at t es spots wanted == 0) ≡ (wanted == 0 || list_any (is_low t es) spots)
least_zero t es [] wanted = sym (or_no (wanted == 0))
least_zero t es (s ∷ spots) wanted =
    least_zero t es spots (min wanted (level_or_none t (bucket_at es s)))
    ∙ ap (λ b. b || list_any (is_low t es) spots)
    (zero_by wanted (level_or_none t (bucket_at es s)) _ _ _ refl refl refl)
    ∙ or_moved (wanted == 0) (is_low t es s) (list_any (is_low t es) spots)

abbrev pub is_empty : ℕ → Option Filled → Bool
is_empty t o = option_map_or (λ u. u.level == 0) (option_map (λ f. (filled_to t f).tally) o) false

low_there : (t : ℕ) (o : Option Filled) → is_some o ≡ true → (level_or_none t o == 0) ≡ is_empty t o
low_there t None h = absurd cc
low_there t (Some f) h = refl

lows_there : (t : ℕ) (es : List (BucketSpot × Filled)) (spots : List BucketSpot) → are_there es spots ≡ true
    → list_any (is_low t es) spots ≡ list_any (λ s. is_empty t (bucket_at es s)) spots
lows_there t es [] h = refl
lows_there t es (s ∷ spots) h =
    ap (λ b. b || list_any (is_low t es) spots)
    (low_there t (bucket_at es s) (both_first (is_some (bucket_at es s)) (are_there es spots) h))
    ∙ ap (λ b. is_empty t (bucket_at es s) || b)
    (lows_there t es spots (both_second (is_some (bucket_at es s)) (are_there es spots) h))

wanted_some : (n : ℕ) → 0 < n → (n == 0) ≡ false
wanted_some n h = grind (arith, h)

-- for a grant to a seat in use that wants something: it is nothing where a bucket is at level 0, and only there
pub grant_dry : (g : List (ℕ × Generation)) (s : List (ℕ × Sat)) (n w t a m now wanted : ℕ) (sat : Sat)
    → IsBasin (basin g s n w t a) → seat_at s m ≡ Some sat → 0 < wanted
    → (least_at (second_at g sat.epoch now) (buckets_at g sat.epoch) sat.spots wanted == 0)
    ≡ is_dry (basin g s n w t a) now (Some sat)
grant_dry g s n w t a m now wanted sat b e some =
    let u = second_at g sat.epoch now in
    let es = buckets_at g sat.epoch in
    least_zero u es sat.spots wanted
    ∙ ap (λ x. x || list_any (is_low u es) sat.spots) (wanted_some wanted some)
    ∙ lows_there u es sat.spots (seat_there g s n w t a m sat b e)

there_got : (es : List (BucketSpot × Filled)) (spots : List BucketSpot) (i : ℕ) (x : BucketSpot)
    → are_there es spots ≡ true → slice_get spots i ≡ Some x → is_some (bucket_at es x) ≡ true
there_got es [] i x all e = absurd cc
there_got es (s ∷ spots) zero x all e =
    let same : s ≡ x = cc in
    ap (λ y. is_some (bucket_at es y)) (sym same) ∙ both_first (is_some (bucket_at es s)) (are_there es spots) all
there_got es (s ∷ spots) (suc i) x all e = there_got es spots i x
    (both_second (is_some (bucket_at es s)) (are_there es spots) all) e

some_mapped : {A B : Type 0} (f : A → B) (o : Option A) → is_some o ≡ true → is_none (option_map f o) ≡ false
some_mapped f None h = absurd cc
some_mapped f (Some a) h = refl

-- for the i-th bucket of a seat in use: it is there
pub bucket_there : (g : List (ℕ × Generation)) (s : List (ℕ × Sat)) (n w t a m now i : ℕ) (sat : Sat) (x : BucketSpot)
    → IsBasin (basin g s n w t a) → seat_at s m ≡ Some sat
    → slice_get sat.spots i ≡ Some x → is_none (tally_then (basin g s n w t a) now sat.epoch x) ≡ false
bucket_there g s n w t a m now i sat x b e f =
    some_mapped (λ k. (filled_to (second_at g sat.epoch now) k).tally) (bucket_at (buckets_at g sat.epoch) x)
    (there_got (buckets_at g sat.epoch) sat.spots i x (seat_there g s n w t a m sat b e) f)
