-- How many seats of an epoch are in use.
use Rattle.std.proofs.Common.{◌≡◌, ◌∙◌, ◌==◌, ◌≤◌, ◌<◌, cond, Bool, true, false, ℕ, List, None, Some, refl, ap, sym, arith, suc, zero}
use Rattle.std.proofs.lemmas.Bool.Decides.{nat_tests}
use Rattle.sq_machine.specs.PoolReadings.{Sat, count_if, is_of_epoch}
use Rattle.sq_pools.specs.Seats.{seat_at, seats_of}
use Rattle.sq_buckets.proofs.MapLaws.{number_key}

-- for seats that are the same up to a number
pub seats_same : (s t : List (ℕ × Sat)) (e n : ℕ) → ((m : ℕ) → m ≤ n → seat_at t m ≡ seat_at s m)
    → seats_of t e n ≡ seats_of s e n
seats_same s t e zero h = refl
seats_same s t e (suc n) h =
    rw (h (suc n) (omega arith))
    (ap (count_if (is_of_epoch e (seat_at s (suc n)))) (seats_same s t e n (λ m k. h m (omega arith))))

counted_by : (b c : Bool) (n : ℕ) → b ≡ c → count_if b n ≡ cond c (suc n) n
counted_by true c n h = rw (← h) refl
counted_by false c n h = rw (← h) refl

-- for seats with one more
pub seats_more : (s t : List (ℕ × Sat)) (sat : Sat) (e n : ℕ) → seat_at t (suc n) ≡ Some sat
    → ((m : ℕ) → m ≤ n → seat_at t m ≡ seat_at s m)
    → seats_of t e (suc n) ≡ cond (e == sat.epoch) (suc (seats_of s e n)) (seats_of s e n)
seats_more s t sat e n new h =
    rw (new, seats_same s t e n h)
    (counted_by (sat.epoch == e) (e == sat.epoch) (seats_of s e n) (number_key.turned sat.epoch e))

passed : (b c : Bool) (n : ℕ) → count_if b (cond c (suc n) n) ≡ cond c (suc (count_if b n)) (count_if b n)
passed true true n = refl
passed true false n = refl
passed false true n = refl
passed false false n = refl

less_by : (s t : List (ℕ × Sat)) (k : ℕ) (sat : Sat) (e n : ℕ) (b : Bool) → (suc n == k) ≡ b → seat_at s k ≡ Some sat
    → ((m : ℕ) → seat_at t m ≡ cond (m == k) None (seat_at s m))
    → (k ≤ n → seats_of s e n ≡ cond (e == sat.epoch) (suc (seats_of t e n)) (seats_of t e n)) → k ≤ suc n
    → seats_of s e (suc n) ≡ cond (e == sat.epoch) (suc (seats_of t e (suc n))) (seats_of t e (suc n))
less_by s t k sat e n true same was h rest top =
    let is : suc n ≡ k = grind (arith, nat_tests) in
    let here : seat_at s (suc n) ≡ Some sat = ap (seat_at s) is ∙ was in
    let gone : seat_at t (suc n) ≡ None = h (suc n) ∙ ap (λ b. cond b None (seat_at s (suc n))) same in
    let others : seats_of s e n ≡ seats_of t e n =
    seats_same t s e n (λ m low. sym (h m ∙ ap (λ b. cond b None (seat_at s m)) (apart m low is))) in
    rw (here, gone, others) (counted_by (sat.epoch == e) (e == sat.epoch) (seats_of t e n)
    (number_key.turned sat.epoch e)) where
      apart : (m : ℕ) → m ≤ n → suc n ≡ k → (m == k) ≡ false
      apart m low is = grind (arith, nat_tests)
less_by s t k sat e n false same was h rest top =
    let low : k ≤ n = grind (arith, nat_tests) in
    let kept : seat_at t (suc n) ≡ seat_at s (suc n) = h (suc n) ∙ ap (λ b. cond b None (seat_at s (suc n))) same in
    rw (kept, rest low) (passed (is_of_epoch e (seat_at s (suc n))) (e == sat.epoch) (seats_of t e n))

-- for seats with one less
pub seats_less : (s t : List (ℕ × Sat)) (k : ℕ) (sat : Sat) (e n : ℕ) → seat_at s k ≡ Some sat
    → ((m : ℕ) → seat_at t m ≡ cond (m == k) None (seat_at s m)) → 0 < k → k ≤ n
    → seats_of s e n ≡ cond (e == sat.epoch) (suc (seats_of t e n)) (seats_of t e n)
seats_less s t k sat e zero was h some low = absurd (omega arith)
seats_less s t k sat e (suc n) was h some low = less_by s t k sat e n (suc n == k) refl was h
    (λ low. seats_less s t k sat e n was h some low) low

more_than : (b : Bool) (n : ℕ) → 0 < n → 0 < count_if b n
more_than true n h = omega arith
more_than false n h = h

some_by : (s : List (ℕ × Sat)) (m : ℕ) (sat : Sat) (n : ℕ) (b : Bool) → (suc n == m) ≡ b → seat_at s m ≡ Some sat
    → m ≤ suc n → (m ≤ n → 0 < seats_of s sat.epoch n) → 0 < seats_of s sat.epoch (suc n)
some_by s m sat n true same is top rest =
    let here : seat_at s (suc n) ≡ Some sat = ap (seat_at s) (let e : suc n ≡ m = grind (arith, nat_tests) in e) ∙ is in
    rw (here, number_key.itself sat.epoch) (omega arith)
some_by s m sat n false same is top rest =
    let low : m ≤ n = grind (arith, nat_tests) in
    more_than (is_of_epoch sat.epoch (seat_at s (suc n))) (seats_of s sat.epoch n) (rest low)

-- for a seat in use: it is counted
pub seats_some : (s : List (ℕ × Sat)) (m : ℕ) (sat : Sat) (n : ℕ) → seat_at s m ≡ Some sat → 0 < m → m ≤ n
    → 0 < seats_of s sat.epoch n
seats_some s m sat zero is some low = absurd (omega arith)
seats_some s m sat (suc n) is some low = some_by s m sat n (suc n == m) refl is low
    (λ low. seats_some s m sat n is some low)

-- for the seats of an epoch: they are no more than were given
pub seats_few : (s : List (ℕ × Sat)) (e n : ℕ) → seats_of s e n ≤ n
seats_few s e zero = omega arith
seats_few s e (suc n) = one_more (is_of_epoch e (seat_at s (suc n))) (seats_of s e n) (seats_few s e n) where
  one_more : (b : Bool) (k : ℕ) → k ≤ n → count_if b k ≤ suc n
  one_more true k h = omega arith
  one_more false k h = omega arith
