-- Maps by number: the records of connections, and the seats in use.
use Rattle.std.proofs.Common.{◌≡◌, ◌∙◌, ◌==◌, ◌<◌, cond, Bool, true, false, ℕ, List, [], ◌∷◌, Option, None, Some, is_some, refl, ap, sym, subst, arith, suc}
use Rattle.std.proofs.lemmas.Bool.Decides.{nat_tests}
use Rattle.std.specs.BTreeMap.{is_at}
use Rattle.std.specs.Map.{lookup}
use Rattle.std.specs.Ordering.{is_eq, nat_cmp}
use Rattle.sq_machine.specs.Limits.{last_number}
use Rattle.sq_machine.specs.PoolReadings.{Sat}
use Rattle.sq_pools.specs.Basins.{Basin, IsBasin, seat_in}
use Rattle.sq_pools.specs.declared.held_seats.HeldSeat.{HeldSeat}
use Rattle.sq_pools.specs.declared.held_seats.HeldSeat.TheVariants as held
use Rattle.sq_replay.specs.Riding.{AreHeld, IsHeldNowhere, held_for, held_seat}
use Rattle.sq_replay.specs.Runs.{BothPools}

agrees : (a b : ℕ) → is_eq (nat_cmp a b) ≡ (a == b)
agrees a b = grind arith

turned : (a b : ℕ) → (a == b) ≡ (b == a)
turned a b = grind (arith, nat_tests)

-- a look-up is the map's
pub found : {X : Type 0} (k : ℕ) (es : List (ℕ × X)) → lookup (λ m. k == m) es ≡ lookup (is_at (nat_cmp k)) es
found k [] = refl
found k (e ∷ es) = rw (agrees k e.0) (ap (λ o. cond (k == e.0) (Some e.1) o) (found k es))

-- a map after one number changed
pub after : {X : Type 0} (n k : ℕ) (w : Option X) (es fs : List (ℕ × X))
    → lookup (is_at (nat_cmp n)) fs ≡ cond (is_at (nat_cmp k) n) w (lookup (is_at (nat_cmp n)) es)
    → lookup (λ m. n == m) fs ≡ cond (n == k) w (lookup (λ m. n == m) es)
after n k w es fs h =
    found n fs ∙ h ∙ ap (λ b. cond b w (lookup (is_at (nat_cmp n)) es)) (agrees k n ∙ turned k n)
    ∙ ap (λ o. cond (n == k) w o) (sym (found n es))

-- a seat that is held is one of the one pools or of the others, under its own number

held_kind : (es : List (ℕ × HeldSeat)) (p : BothPools) (n : ℕ) (x : HeldSeat) → AreHeld es p
    → Some x ≡ lookup (is_at (nat_cmp n)) es
    → Some x ≡ held_for n (seat_in p.addressed n) (seat_in p.tagged n)
held_kind es p n x are at = at ∙ sym (found n es) ∙ are.held_are n

-- held for pools with buckets by addresses
pub record IsHeldHere (q : Basin) (n x : ℕ) : Type 0 where
  pub number_is : x ≡ n
  pub used : is_some (seat_in q n) ≡ true

pub held_addressed : (es : List (ℕ × HeldSeat)) (p : BothPools) (n x : ℕ) → AreHeld es p
    → Some (held.ByAddress x) ≡ lookup (is_at (nat_cmp n)) es → IsHeldHere p.addressed n x
held_addressed es p n x is at = by (seat_in p.addressed n) (seat_in p.tagged n) refl
    (held_kind es p n (held.ByAddress x) is at)
  where
    by : (o t : Option Sat) → seat_in p.addressed n ≡ o → Some (held.ByAddress x) ≡ held_for n o t
        → IsHeldHere p.addressed n x
    by (Some s) t was e = record { number_is = cc; used = ap is_some was }
    by None (Some s) was e = absurd (cc)
    by None None was e = absurd (cc)

pub held_tagged : (es : List (ℕ × HeldSeat)) (p : BothPools) (n x : ℕ) → AreHeld es p
    → Some (held.ByTag x) ≡ lookup (is_at (nat_cmp n)) es → IsHeldHere p.tagged n x
held_tagged es p n x is at = by (seat_in p.addressed n) (seat_in p.tagged n) refl
    (held_kind es p n (held.ByTag x) is at)
  where
    by : (o t : Option Sat) → seat_in p.tagged n ≡ t → Some (held.ByTag x) ≡ held_for n o t → IsHeldHere p.tagged n x
    by (Some s) t was e = absurd (cc)
    by None (Some s) was e = record { number_is = cc; used = ap is_some was }
    by None None was e = absurd (cc)

-- what is not held is in use in neither
pub held_none : (es : List (ℕ × HeldSeat)) (p : BothPools) (n : ℕ) → AreHeld es p
    → lookup (is_at (nat_cmp n)) es ≡ None → IsHeldNowhere p n
held_none es p n is none = by (seat_in p.addressed n) (seat_in p.tagged n) refl refl
    (sym (is.held_are n) ∙ found n es ∙ none)
  where
    by : (o t : Option Sat) → seat_in p.addressed n ≡ o → seat_in p.tagged n ≡ t → held_for n o t ≡ None
        → IsHeldNowhere p n
    by (Some s) t was other e = absurd (cc)
    by None (Some s) was other e = absurd (cc)
    by None None was other e = record { addressed = was; tagged = other }

-- a number that was not given is in use in neither
none_past : (p : Basin) (n : ℕ) → IsBasin p → p.given < n → seat_in p n ≡ None
none_past p n is low = by (seat_in p n) refl
  where
    by : (o : Option Sat) → seat_in p n ≡ o → o ≡ None
    by None was = refl
    by (Some s) was = let high = (is.numbers n (ap is_some was)).1 in absurd (omega arith)

-- one more seat of pools with buckets by addresses
pub held_more : (es fs : List (ℕ × HeldSeat)) (p q : BothPools) (k x g : ℕ) (s : Sat) → AreHeld es p
    → IsBasin p.tagged → p.addressed.given < g → k ≡ g → x ≡ g
    → ((n : ℕ) → lookup (is_at (nat_cmp n)) fs
    ≡ cond (is_at (nat_cmp k) n) (Some (held.ByAddress x)) (lookup (is_at (nat_cmp n)) es))
    → ((n : ℕ) → seat_in q.addressed n ≡ cond (n == g) (Some s) (seat_in p.addressed n))
    → ((n : ℕ) → seat_in q.tagged n ≡ seat_in p.tagged n)
    → q.tagged.given ≡ q.addressed.given → AreHeld fs q
held_more es fs p q k x g s is basin low key own put seated same even = record {
  held_are = λ n. after n k (Some (held.ByAddress x)) es fs (put n)
      ∙ ap (λ (m : ℕ). cond (n == m) (Some (held.ByAddress x)) (held_seat es n)) key ∙ by n (n == g) refl
      ∙ sym (ap (λ o. held_for n o (seat_in q.tagged n)) (seated n)
      ∙ ap (held_for n (cond (n == g) (Some s) (seat_in p.addressed n))) (same n));
  even = even;
  apart = λ n there. same n ∙ alone n (n == g) refl (subst (λ (o : Option Sat). is_some o ≡ true) (seated n) there);
} where
  by : (n : ℕ) (b : Bool) → (n == g) ≡ b
      → cond b (Some (held.ByAddress x)) (held_seat es n)
      ≡ held_for n (cond b (Some s) (seat_in p.addressed n)) (seat_in p.tagged n)
  by n true e = let it : g ≡ n = grind (arith, nat_tests) in ap (λ (m : ℕ). Some (held.ByAddress m)) (own ∙ it)
  by n false e = is.held_are n

  alone : (n : ℕ) (b : Bool) → (n == g) ≡ b → is_some (cond b (Some s) (seat_in p.addressed n)) ≡ true
      → seat_in p.tagged n ≡ None
  alone n true e there =
      let it : n ≡ g = grind (arith, nat_tests) in
      let even_is = is.even in
      none_past p.tagged n basin (omega arith)
  alone n false e there = is.apart n there

-- one more seat of pools with buckets by tags
pub tag_held_more : (es fs : List (ℕ × HeldSeat)) (p q : BothPools) (k x g : ℕ) (s : Sat) → AreHeld es p
    → IsBasin p.addressed → p.addressed.given < g → k ≡ g → x ≡ g
    → ((n : ℕ) → lookup (is_at (nat_cmp n)) fs
    ≡ cond (is_at (nat_cmp k) n) (Some (held.ByTag x)) (lookup (is_at (nat_cmp n)) es))
    → ((n : ℕ) → seat_in q.tagged n ≡ cond (n == g) (Some s) (seat_in p.tagged n))
    → ((n : ℕ) → seat_in q.addressed n ≡ seat_in p.addressed n)
    → q.tagged.given ≡ q.addressed.given → AreHeld fs q
tag_held_more es fs p q k x g s is basin low key own put seated same even = record {
  held_are = λ n. after n k (Some (held.ByTag x)) es fs (put n)
      ∙ ap (λ (m : ℕ). cond (n == m) (Some (held.ByTag x)) (held_seat es n)) key ∙ by n (n == g) refl
      ∙ sym (ap (λ o. held_for n o (seat_in q.tagged n)) (same n)
      ∙ ap (held_for n (seat_in p.addressed n)) (seated n));
  even = even;
  apart = λ n there. seated n ∙ alone n (n == g) refl (subst (λ (o : Option Sat). is_some o ≡ true) (same n) there);
} where
  none : (n : ℕ) → (n == g) ≡ true → seat_in p.addressed n ≡ None
  none n e = let it : n ≡ g = grind (arith, nat_tests) in none_past p.addressed n basin (omega arith)

  by : (n : ℕ) (b : Bool) → (n == g) ≡ b
      → cond b (Some (held.ByTag x)) (held_seat es n)
      ≡ held_for n (seat_in p.addressed n) (cond b (Some s) (seat_in p.tagged n))
  by n true e =
      let it : g ≡ n = grind (arith, nat_tests) in
      ap (λ (m : ℕ). Some (held.ByTag m)) (own ∙ it)
      ∙ ap (λ o. held_for n o (Some s)) (sym (none n e))
  by n false e = is.held_are n

  alone : (n : ℕ) (b : Bool) → (n == g) ≡ b → is_some (seat_in p.addressed n) ≡ true
      → cond b (Some s) (seat_in p.tagged n) ≡ None
  alone n true e there = absurd (let no : false ≡ true = sym (ap is_some (none n e)) ∙ there in cc)
  alone n false e there = is.apart n there

-- one seat less
pub held_less : (es fs : List (ℕ × HeldSeat)) (p q : BothPools) (k : ℕ) → AreHeld es p
    → ((n : ℕ) → lookup (is_at (nat_cmp n)) fs ≡ cond (is_at (nat_cmp k) n) None (lookup (is_at (nat_cmp n)) es))
    → ((n : ℕ) → seat_in q.addressed n ≡ cond (n == k) None (seat_in p.addressed n))
    → ((n : ℕ) → seat_in q.tagged n ≡ cond (n == k) None (seat_in p.tagged n))
    → q.tagged.given ≡ q.addressed.given → AreHeld fs q
held_less es fs p q k is gone left other even = record {
  held_are = λ n. after n k None es fs (gone n) ∙ by n (n == k)
      ∙ sym (ap (λ o. held_for n o (seat_in q.tagged n)) (left n)
      ∙ ap (held_for n (cond (n == k) None (seat_in p.addressed n))) (other n));
  even = even;
  apart = λ n there. other n ∙ alone n (n == k) (subst (λ (o : Option Sat). is_some o ≡ true) (left n) there);
} where
  by : (n : ℕ) (b : Bool) → cond b None (held_seat es n)
      ≡ held_for n (cond b None (seat_in p.addressed n)) (cond b None (seat_in p.tagged n))
  by n true = refl
  by n false = is.held_are n

  alone : (n : ℕ) (b : Bool) → is_some (cond b None (seat_in p.addressed n)) ≡ true
      → cond b None (seat_in p.tagged n) ≡ None
  alone n true there = refl
  alone n false there = is.apart n there

-- what is in use nowhere stays so as it leaves
pub left_alone : (q : Basin) (k : ℕ) → seat_in q k ≡ None → (n : ℕ) → seat_in q n ≡ cond (n == k) None (seat_in q n)
left_alone q k none n = by (n == k) refl
  where
    by : (b : Bool) → (n == k) ≡ b → seat_in q n ≡ cond b None (seat_in q n)
    by true e = let it : n ≡ k = grind (arith, nat_tests) in ap (seat_in q) it ∙ none
    by false e = refl

-- what is in use by a tag is not by an address
pub not_addressed : (es : List (ℕ × HeldSeat)) (p : BothPools) (k : ℕ) → AreHeld es p
    → is_some (seat_in p.tagged k) ≡ true → seat_in p.addressed k ≡ None
not_addressed es p k is used = by (seat_in p.addressed k) refl
  where
    by : (o : Option Sat) → seat_in p.addressed k ≡ o → seat_in p.addressed k ≡ None
    by None e = e
    by (Some s) e = absurd (let no : false ≡ true = sym (ap is_some (is.apart k (ap is_some e))) ∙ used in cc)

-- a number goes to the others where one is left
pub passes : (b : Bool) (n : ℕ) → (b ≡ false → suc n ≡ last_number) → suc n < last_number → b ≡ true
passes true n spent low = refl
passes false n spent low = absurd (let same : suc n ≡ last_number = spent refl in omega arith)
