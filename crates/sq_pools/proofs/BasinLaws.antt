-- What holds of pools holds after each call.
use Rattle.std.proofs.Common.{◌≡◌, ◌∙◌, ◌==◌, ◌&&◌, ◌||◌, ◌≤◌, ◌<◌, ◌-◌, ◌⊎◌, inl, inr, not, cond, Bool, true, false, ℕ, List, [], ◌∷◌, Option, None, Some, is_some, is_none, refl, ap, sym, arith, max, suc}
use Rattle.std.specs.Option.{option_map, option_map_or}
use Rattle.std.proofs.lemmas.Bool.Decides.{nat_tests}
use Rattle.sq_machine.specs.BucketLevels.{Filled}
use Rattle.sq_machine.specs.Limits.{last_number}
use Rattle.sq_machine.specs.PoolReadings.{Beginning, Sat, BucketSpot, has_spot, is_aggregate, is_spot, kept_if, made_if, second_of}
use Rattle.sq_pools.specs.Basins.{Basin, HasLeft, IsBasin, IsBegun, IsSeated, bucket_in, granted_limit, made_in, seat_in, second_in, stays}
use Rattle.sq_pools.specs.Generations.{buckets_at, filled_at, generation_at, held_at, is_left, made_at, second_at}
use Rattle.sq_buckets.specs.Grants.{are_own, are_there, bucket_at, filled_if, granted_if, opened_in}
use Rattle.sq_pools.specs.Seats.{seat_at, seats_of}
use Rattle.sq_pools.specs.declared.generations.Generation.{Generation}
use Rattle.sq_buckets.proofs.MapLaws.{number_key, spot_key}
use Rattle.sq_pools.proofs.SeatLaws.{seats_few, seats_less, seats_more, seats_some}

-- pools of these parts
abbrev pub basin : List (ℕ × Generation) → List (ℕ × Sat) → ℕ → ℕ → ℕ → ℕ → Basin
basin g s n w t a = record { generations = g; seats = s; given = n; newest = w; latest = t; granted = a }

-- what holds of pools in the midst of a call:
-- the generation of one epoch may neither be the newest nor have a seat in use
pub record IsLoose (idle : ℕ) (p : Basin) : Type 0 where
  pub numbers : (n : ℕ) → is_some (seat_in p n) ≡ true → (0 < n) × (n ≤ p.given)
  pub counted : (e : ℕ) → held_at p.generations e ≡ seats_of p.seats e p.given
  pub lives : (e : ℕ) → (e == idle) ≡ false → is_some (made_in p e) ≡ true → stays p e ≡ true
  pub opened : (n : ℕ) (sat : Sat) (s : BucketSpot) → seat_in p n ≡ Some sat → has_spot sat.spots s ≡ true
      → is_some (bucket_in p sat.epoch s) ≡ true
  pub own : (n : ℕ) (sat : Sat) → seat_in p n ≡ Some sat → are_own sat.spots ≡ true
  pub limits : (e : ℕ) (s : BucketSpot) (f : Filled) → bucket_in p e s ≡ Some f → f.limit ≡ s.limit
  pub reckoned : (e : ℕ) (s : BucketSpot) (f : Filled) → bucket_in p e s ≡ Some f → f.second ≤ second_in p e p.latest
  pub spare : suc p.given ≤ last_number
  pub few : p.granted ≤ granted_limit

-- options

pub kept_some : {A : Type 0} (b : Bool) (o : Option A) (a : A) → kept_if b o ≡ Some a → (b ≡ true) × (o ≡ Some a)
kept_some true o a e = (refl, e)
kept_some false o a e = absurd (cc)

kept_true : {A : Type 0} (b : Bool) (o : Option A) → is_some (kept_if b o) ≡ true → b ≡ true
kept_true true o e = refl
kept_true false o e = absurd (cc)

-- for what is kept by one of two tests that agree where there is something
kept_same : {A : Type 0} (b c : Bool) (o : Option A) → (is_some o ≡ true → b ≡ c) → kept_if b o ≡ kept_if c o
kept_same b c (Some a) h = rw (h refl) refl
kept_same true true None h = refl
kept_same true false None h = refl
kept_same false true None h = refl
kept_same false false None h = refl

some_is : {A : Type 0} (o : Option A) (a : A) → o ≡ Some a → is_some o ≡ true
some_is o a e = rw e refl

pub map_some : {A B : Type 0} (f : A → B) (o : Option A) → is_some (option_map f o) ≡ is_some o
map_some f None = refl
map_some f (Some a) = refl

record IsMapped {A B : Type 0} (f : A → B) (o : Option A) (b : B) : Type 0 where
  it : A
  there : o ≡ Some it
  is : f it ≡ b

of_map : {A B : Type 0} (f : A → B) (o : Option A) (b : B) → option_map f o ≡ Some b → IsMapped f o b
of_map f None b e = absurd (cc)
of_map f (Some a) b e = record { it = a; there = refl; is = cc }

cond_some : {A : Type 0} (b : Bool) (o : Option A) → is_some (cond b None o) ≡ true → is_some o ≡ true
cond_some true o e = absurd (cc)
cond_some false o e = e

cond_is : {A : Type 0} (b : Bool) (o : Option A) (a : A) → cond b None o ≡ Some a → o ≡ Some a
cond_is true o a e = absurd (cc)
cond_is false o a e = e

filled_old : (b : Bool) (new : Filled) (o : Option Filled) → is_some o ≡ true → is_some (filled_if b new o) ≡ true
filled_old b new None e = absurd (cc)
filled_old b new (Some f) e = refl

filled_yes : (b : Bool) (new : Filled) (o : Option Filled) → b ≡ true → is_some (filled_if b new o) ≡ true
filled_yes true new None e = refl
filled_yes false new None e = absurd (cc)
filled_yes b new (Some f) e = refl

filled_of : (b : Bool) (new f : Filled) (o : Option Filled) → filled_if b new o ≡ Some f → (o ≡ Some f) ⊎ (new ≡ f)
filled_of b new f (Some x) e = inl e
filled_of true new f None e = inr (cc)
filled_of false new f None e = absurd (cc)

made_stays : (b : Bool) (now : ℕ) (o : Option ℕ) → is_some o ≡ true → made_if b now o ≡ o
made_stays b now None e = absurd (cc)
made_stays b now (Some m) e = refl

-- numbers and seconds

pub second_rises : (g : List (ℕ × Generation)) (e t u : ℕ) → t ≤ u → second_at g e t ≤ second_at g e u
second_rises g e t u h = by_made (made_at g e) where
  by_made : (o : Option ℕ) → option_map_or (λ m. second_of m t) o 0 ≤ option_map_or (λ m. second_of m u) o 0
  by_made None = omega arith
  by_made (Some m) = omega arith

pub second_same : (g k : List (ℕ × Generation)) (e t : ℕ) → made_at k e ≡ made_at g e
    → second_at k e t ≡ second_at g e t
second_same g k e t h = ap (λ o. option_map_or (λ m. second_of m t) o 0) h

-- for a bucket that is open: its generation is there
pub filled_made : (g : List (ℕ × Generation)) (e : ℕ) (s : BucketSpot) → is_some (filled_at g e s) ≡ true
    → is_some (made_at g e) ≡ true
filled_made g e s h = by_generation (generation_at g e) h where
  by_generation : (o : Option Generation)
      → is_some (bucket_at (option_map_or (λ (x : Generation). x.buckets) o []) s) ≡ true
      → is_some (option_map (λ (x : Generation). x.made) o) ≡ true
  by_generation None h = absurd (cc)
  by_generation (Some x) h = refl

nonzero : (b : Bool) (k : ℕ) → 0 < k → (b || not (k == 0)) ≡ true
nonzero true k h = refl
nonzero false k h = grind (arith, nat_tests)

second_part : (b c : Bool) → b ≡ false → (b || c) ≡ true → c ≡ true
second_part true c h e = absurd (cc)
second_part false c h e = e

or_second : (b c : Bool) → c ≡ true → (b || c) ≡ true
or_second true c e = refl
or_second false c e = e

-- for a later moment
pub later_basin : (g : List (ℕ × Generation)) (s : List (ℕ × Sat)) (n w t u a : ℕ) → IsBasin (basin g s n w t a) → t ≤ u
    → IsBasin (basin g s n w u a)
later_basin g s n w t u a k h = record {
  numbers = k.numbers;
  counted = k.counted;
  lives = k.lives;
  opened = k.opened;
  own = k.own;
  limits = k.limits;
  reckoned = λ e x f is. let before = k.reckoned e x f is in let more = second_rises g e t u h in omega arith;
  spare = k.spare;
  few = k.few;
}

granted_same : (b : Bool) (t amount : ℕ) (f : Filled) → (granted_if b t amount f).limit ≡ f.limit
granted_same true t amount f = refl
granted_same false t amount f = refl

granted_second : (b : Bool) (t amount : ℕ) (f : Filled) (k : ℕ) → f.second ≤ k → t ≤ k
    → (granted_if b t amount f).second ≤ k
granted_second true t amount f k h i = omega arith
granted_second false t amount f k h i = h

-- for a grant
pub granted_basin : (g k : List (ℕ × Generation)) (s : List (ℕ × Sat)) (n w t u a b amount : ℕ)
    (test : ℕ → BucketSpot → Bool) → IsBasin (basin g s n w t a) → t ≤ u → b ≤ granted_limit
    → ((e : ℕ) → made_at k e ≡ made_at g e) → ((e : ℕ) → held_at k e ≡ held_at g e)
    → ((e : ℕ) (x : BucketSpot)
    → filled_at k e x ≡ option_map (granted_if (test e x) (second_at g e u) amount) (filled_at g e x))
    → IsBasin (basin k s n w u b)
granted_basin g k s n w t u a b amount test is h most made held filled = record {
  numbers = is.numbers;
  counted = λ e. held e ∙ is.counted e;
  lives = λ e there. is.lives e (rw (made e) at there);
  opened = λ m sat x seat has. rw (filled sat.epoch x)
      (map_some (granted_if (test sat.epoch x) (second_at g sat.epoch u) amount) (filled_at g sat.epoch x)
      ∙ is.opened m sat x seat has);
  own = is.own;
  limits = λ e x f there. limit_by e x f
      (of_map (granted_if (test e x) (second_at g e u) amount) (filled_at g e x) f (sym (filled e x) ∙ there));
  reckoned = λ e x f there. second_by e x f
      (of_map (granted_if (test e x) (second_at g e u) amount) (filled_at g e x) f (sym (filled e x) ∙ there));
  spare = is.spare;
  few = most;
} where
  limit_by : (e : ℕ) (x : BucketSpot) (f : Filled)
      → IsMapped (granted_if (test e x) (second_at g e u) amount) (filled_at g e x) f → f.limit ≡ x.limit
  limit_by e x f q = sym (ap (λ (y : Filled). y.limit) q.is) ∙ granted_same (test e x) (second_at g e u) amount q.it
      ∙ is.limits e x q.it q.there

  second_by : (e : ℕ) (x : BucketSpot) (f : Filled)
      → IsMapped (granted_if (test e x) (second_at g e u) amount) (filled_at g e x) f → f.second ≤ second_at k e u
  second_by e x f q =
      let before = is.reckoned e x q.it q.there in
      let more = second_rises g e t u h in
      let old : q.it.second ≤ second_at g e u = omega arith in
      let now : second_at g e u ≤ second_at g e u = omega arith in
      let new : (granted_if (test e x) (second_at g e u) amount q.it).second ≤ second_at g e u =
      granted_second (test e x) (second_at g e u) amount q.it (second_at g e u) old now in
      rw (second_same g k e u (made e), ← q.is) new

either : (b c : Bool) → (b ≡ false → c ≡ true) → (not b || c) ≡ c
either true c h = refl
either false c h = sym (h refl)

-- for a generation that is there: what goes is what is not needed
pub left_stays : (idle : ℕ) (g : List (ℕ × Generation)) (s : List (ℕ × Sat)) (n w t a e : ℕ)
    → IsLoose idle (basin g s n w t a) → is_some (made_at g e) ≡ true
    → is_left g idle w e ≡ stays (basin g s n w t a) e
left_stays idle g s n w t a e k there =
    rw (k.counted e) (either (e == idle) (e == w || not (seats_of s e n == 0)) (λ other. k.lives e other there))

-- for pools after what is not needed went: their generations
pub retired_made : (idle : ℕ) (g k : List (ℕ × Generation)) (s : List (ℕ × Sat)) (n w t a : ℕ)
    → IsLoose idle (basin g s n w t a)
    → ((e : ℕ) → made_at k e ≡ kept_if (is_left g idle w e) (made_at g e)) → (e : ℕ)
    → made_at k e ≡ kept_if (stays (basin g s n w t a) e) (made_at g e)
retired_made idle g k s n w t a is made e =
    made e ∙ kept_same (is_left g idle w e) (stays (basin g s n w t a) e) (made_at g e)
    (λ there. left_stays idle g s n w t a e is there)

-- for pools after what is not needed went: their buckets
pub retired_filled : (idle : ℕ) (g k : List (ℕ × Generation)) (s : List (ℕ × Sat)) (n w t a : ℕ)
    → IsLoose idle (basin g s n w t a)
    → ((e : ℕ) (x : BucketSpot) → filled_at k e x ≡ kept_if (is_left g idle w e) (filled_at g e x))
    → (e : ℕ) (x : BucketSpot) → filled_at k e x ≡ kept_if (stays (basin g s n w t a) e) (filled_at g e x)
retired_filled idle g k s n w t a is filled e x =
    filled e x ∙ kept_same (is_left g idle w e) (stays (basin g s n w t a) e) (filled_at g e x)
    (λ there. left_stays idle g s n w t a e is (filled_made g e x there))

-- for pools after what is not needed went
pub retired_basin : (idle : ℕ) (g k : List (ℕ × Generation)) (s : List (ℕ × Sat)) (n w t a : ℕ)
    → IsLoose idle (basin g s n w t a)
    → ((e : ℕ) → made_at k e ≡ kept_if (is_left g idle w e) (made_at g e)) → ((e : ℕ) → held_at k e ≡ held_at g e)
    → ((e : ℕ) (x : BucketSpot) → filled_at k e x ≡ kept_if (is_left g idle w e) (filled_at g e x))
    → IsBasin (basin k s n w t a)
retired_basin idle g k s n w t a is made held filled = record {
  numbers = is.numbers;
  counted = λ e. held e ∙ is.counted e;
  lives = λ e there. kept_true (stays (basin g s n w t a) e) (made_at g e)
      (rw (retired_made idle g k s n w t a is made e) at there);
  opened = λ m sat x seat has. rw (retired_filled idle g k s n w t a is filled sat.epoch x, used m sat seat)
      (is.opened m sat x seat has);
  own = is.own;
  limits = λ e x f there. is.limits e x f (was e x f there).1;
  reckoned = λ e x f there.
      let q = was e x f there in
      let same : made_at k e ≡ made_at g e = retired_made idle g k s n w t a is made e
      ∙ ap (λ b. kept_if b (made_at g e)) q.0 in
      rw (second_same g k e t same) (is.reckoned e x f q.1);
  spare = is.spare;
  few = is.few;
} where
  used : (m : ℕ) (sat : Sat) → seat_at s m ≡ Some sat → stays (basin g s n w t a) sat.epoch ≡ true
  used m sat seat =
      let at = is.numbers m (some_is (seat_at s m) sat seat) in
      nonzero (sat.epoch == w) (seats_of s sat.epoch n) (seats_some s m sat n seat at.0 at.1)

  was : (e : ℕ) (x : BucketSpot) (f : Filled) → filled_at k e x ≡ Some f
      → (stays (basin g s n w t a) e ≡ true) × (filled_at g e x ≡ Some f)
  was e x f there = kept_some (stays (basin g s n w t a) e) (filled_at g e x) f
      (sym (retired_filled idle g k s n w t a is filled e x) ∙ there)

one_less : (b : Bool) (h x : ℕ) → h ≡ cond b (suc x) x → cond b (h - 1) h ≡ x
one_less true h x e = omega arith
one_less false h x e = e

-- for a seat that was given up
pub left_loose : (g k : List (ℕ × Generation)) (s r : List (ℕ × Sat)) (n w t a m : ℕ) (sat : Sat)
    → IsBasin (basin g s n w t a) → seat_at s m ≡ Some sat
    → ((i : ℕ) → seat_at r i ≡ cond (i == m) None (seat_at s i))
    → ((e : ℕ) → made_at k e ≡ made_at g e)
    → ((e : ℕ) → held_at k e ≡ cond (e == sat.epoch) (held_at g e - 1) (held_at g e))
    → ((e : ℕ) (x : BucketSpot) → filled_at k e x ≡ filled_at g e x) → IsLoose sat.epoch (basin k r n w t a)
left_loose g k s r n w t a m sat is seat rest made held filled = record {
  numbers = λ i there. is.numbers i (cond_some (i == m) (seat_at s i) (rw (rest i) at there));
  counted = λ e. held e ∙ one_less (e == sat.epoch) (held_at g e) (seats_of r e n) (is.counted e ∙ fewer e);
  lives = λ e other there.
      let before : (e == w || not (seats_of s e n == 0)) ≡ true = is.lives e (rw (made e) at there) in
      let same : seats_of s e n ≡ seats_of r e n = fewer e
      ∙ ap (λ b. cond b (suc (seats_of r e n)) (seats_of r e n)) other in
      rw same at before;
  opened = λ i one x there has. rw (filled one.epoch x) (is.opened i one x (was i one there) has);
  own = λ i one there. is.own i one (was i one there);
  limits = λ e x f there. is.limits e x f (sym (filled e x) ∙ there);
  reckoned = λ e x f there. rw (second_same g k e t (made e)) (is.reckoned e x f (sym (filled e x) ∙ there));
  spare = is.spare;
  few = is.few;
} where
  at : (0 < m) × (m ≤ n)
  at = is.numbers m (some_is (seat_at s m) sat seat)

  fewer : (e : ℕ) → seats_of s e n ≡ cond (e == sat.epoch) (suc (seats_of r e n)) (seats_of r e n)
  fewer e = seats_less s r m sat e n seat rest at.0 at.1

  was : (i : ℕ) (one : Sat) → seat_at r i ≡ Some one → seat_at s i ≡ Some one
  was i one there = cond_is (i == m) (seat_at s i) one (sym (rest i) ∙ there)

old_second : (g k : List (ℕ × Generation)) (e t u now j : ℕ) (b : Bool) → t ≤ u
    → made_at k e ≡ made_if b now (made_at g e) → is_some (made_at g e) ≡ true → j ≤ second_at g e t
    → j ≤ second_at k e u
old_second g k e t u now j b h made there low =
    let same : made_at k e ≡ made_at g e = made ∙ made_stays b now (made_at g e) there in
    let more = second_rises g e t u h in
    let upto : j ≤ second_at g e u = omega arith in
    rw (second_same g k e u same) upto

-- for a generation that was made
pub renewed_loose : (g k : List (ℕ × Generation)) (s : List (ℕ × Sat)) (n w t u a epoch initial : ℕ)
    (aggregate : BucketSpot → Bool) → IsBasin (basin g s n w t a) → t ≤ u
    → ((e : ℕ) → made_at k e ≡ made_if (e == epoch) u (made_at g e)) → ((e : ℕ) → held_at k e ≡ held_at g e)
    → ((e : ℕ) (x : BucketSpot)
    → filled_at k e x ≡ filled_if (e == epoch && aggregate x) (opened_in initial 0 x) (filled_at g e x))
    → IsLoose w (basin k s n epoch u a)
renewed_loose g k s n w t u a epoch initial aggregate is h made held filled = record {
  numbers = is.numbers;
  counted = λ e. held e ∙ is.counted e;
  lives = λ e other there. lives_by e other (e == epoch) refl there;
  opened = λ m sat x seat has. rw (filled sat.epoch x)
      (filled_old _ (opened_in initial 0 x) (filled_at g sat.epoch x) (is.opened m sat x seat has));
  own = is.own;
  limits = λ e x f there. limit_by e x f
      (filled_of _ (opened_in initial 0 x) f (filled_at g e x) (sym (filled e x) ∙ there));
  reckoned = λ e x f there. second_by e x f
      (filled_of _ (opened_in initial 0 x) f (filled_at g e x) (sym (filled e x) ∙ there));
  spare = is.spare;
  few = is.few;
} where
  lives_by : (e : ℕ) → (e == w) ≡ false → (b : Bool) → (e == epoch) ≡ b → is_some (made_at k e) ≡ true
      → (e == epoch || not (seats_of s e n == 0)) ≡ true
  lives_by e other true same there = rw same refl
  lives_by e other false same there =
      let old : is_some (made_if false u (made_at g e)) ≡ true = rw (made e, same) at there in
      let was : is_some (made_at g e) ≡ true = unmade (made_at g e) old in
      or_second (e == epoch) (not (seats_of s e n == 0))
      (second_part (e == w) (not (seats_of s e n == 0)) other (is.lives e was)) where
        unmade : (o : Option ℕ) → is_some (made_if false u o) ≡ true → is_some o ≡ true
        unmade None h = absurd (cc)
        unmade (Some m) h = refl

  limit_by : (e : ℕ) (x : BucketSpot) (f : Filled) → (filled_at g e x ≡ Some f) ⊎ (opened_in initial 0 x ≡ f)
      → f.limit ≡ x.limit
  limit_by e x f (inl old) = is.limits e x f old
  limit_by e x f (inr new) = sym (ap (λ (y : Filled). y.limit) new)

  second_by : (e : ℕ) (x : BucketSpot) (f : Filled) → (filled_at g e x ≡ Some f) ⊎ (opened_in initial 0 x ≡ f)
      → f.second ≤ second_at k e u
  second_by e x f (inl old) =
      old_second g k e t u u f.second (e == epoch) h (made e) (filled_made g e x (some_is (filled_at g e x) f old))
      (is.reckoned e x f old)
  second_by e x f (inr new) = let first : 0 ≡ f.second = ap (λ (y : Filled). y.second) new in omega arith

-- for a seat that was given
pub chosen_loose : (g k : List (ℕ × Generation)) (s r : List (ℕ × Sat)) (n w v t u a initial : ℕ) (sat : Sat)
    (aggregate : BucketSpot → Bool) → IsBasin (basin g s n w t a) → t ≤ u
    → suc (suc n) ≤ last_number → are_own sat.spots ≡ true
    → ((i : ℕ) → seat_at r i ≡ cond (i == suc n) (Some sat) (seat_at s i))
    → ((e : ℕ) → made_at k e ≡ made_if (e == sat.epoch) u (made_at g e))
    → ((e : ℕ) → held_at k e ≡ cond (e == sat.epoch) (suc (held_at g e)) (held_at g e))
    → ((e : ℕ) (x : BucketSpot) → filled_at k e x
    ≡ filled_if (e == sat.epoch && (has_spot sat.spots x || (is_none (made_at g e) && aggregate x)))
    (opened_in initial (second_at k e u) x) (filled_at g e x))
    → IsLoose w (basin k r (suc n) v u a)
chosen_loose g k s r n w v t u a initial sat aggregate is h spare own rest made held filled = record {
  numbers = λ i there. number_by i (i == suc n) refl there;
  counted = λ e. held e ∙ rw (is.counted e) (sym (more e));
  lives = λ e other there. lives_by e other (e == sat.epoch) refl there;
  opened = λ i one x there has. opened_by i one x (i == suc n) refl there has;
  own = λ i one there. own_by i one (i == suc n) refl there;
  limits = λ e x f there. limit_by e x f
      (filled_of _ (opened_in initial (second_at k e u) x) f (filled_at g e x) (sym (filled e x) ∙ there));
  reckoned = λ e x f there. second_by e x f
      (filled_of _ (opened_in initial (second_at k e u) x) f (filled_at g e x) (sym (filled e x) ∙ there));
  spare = spare;
  few = is.few;
} where
  more : (e : ℕ) → seats_of r e (suc n) ≡ cond (e == sat.epoch) (suc (seats_of s e n)) (seats_of s e n)
  more e = seats_more s r sat e n
      (rest (suc n) ∙ ap (λ b. cond b (Some sat) (seat_at s (suc n))) (number_key.itself (suc n)))
      (λ m low. rest m ∙ ap (λ b. cond b (Some sat) (seat_at s m)) (below m low)) where
        below : (m : ℕ) → m ≤ n → (m == suc n) ≡ false
        below m low = grind (arith, nat_tests)

  number_by : (i : ℕ) (b : Bool) → (i == suc n) ≡ b → is_some (seat_at r i) ≡ true → (0 < i) × (i ≤ suc n)
  number_by i true same there = let it : i ≡ suc n = grind (arith, nat_tests) in (omega arith, omega arith)
  number_by i false same there =
      let old : seat_at r i ≡ seat_at s i = rest i ∙ ap (λ b. cond b (Some sat) (seat_at s i)) same in
      let at = is.numbers i (rw old at there) in
      let first = at.0 in
      let last = at.1 in
      (omega arith, omega arith)

  seat_by : (i : ℕ) (one : Sat) → (i == suc n) ≡ false → seat_at r i ≡ Some one → seat_at s i ≡ Some one
  seat_by i one same there = sym (rest i ∙ ap (λ b. cond b (Some sat) (seat_at s i)) same) ∙ there

  same_sat : (i : ℕ) (one : Sat) → (i == suc n) ≡ true → seat_at r i ≡ Some one → sat ≡ one
  same_sat i one same there = let e : Some sat ≡ Some one =
      sym (rest i ∙ ap (λ b. cond b (Some sat) (seat_at s i)) same) ∙ there in cc

  lives_by : (e : ℕ) → (e == w) ≡ false → (b : Bool) → (e == sat.epoch) ≡ b → is_some (made_at k e) ≡ true
      → (e == v || not (seats_of r e (suc n) == 0)) ≡ true
  lives_by e other true same there =
      let count : seats_of r e (suc n) ≡ suc (seats_of s e n) = more e
      ∙ ap (λ b. cond b (suc (seats_of s e n)) (seats_of s e n)) same in
      nonzero (e == v) (seats_of r e (suc n)) (omega arith)
  lives_by e other false same there =
      let old : is_some (made_if false u (made_at g e)) ≡ true = rw (made e, same) at there in
      let was : is_some (made_at g e) ≡ true = unmade (made_at g e) old in
      let count : seats_of r e (suc n) ≡ seats_of s e n = more e
      ∙ ap (λ b. cond b (suc (seats_of s e n)) (seats_of s e n)) same in
      rw count (or_second (e == v) (not (seats_of s e n == 0))
      (second_part (e == w) (not (seats_of s e n == 0)) other (is.lives e was))) where
        unmade : (o : Option ℕ) → is_some (made_if false u o) ≡ true → is_some o ≡ true
        unmade None h = absurd (cc)
        unmade (Some m) h = refl

  opened_by : (i : ℕ) (one : Sat) (x : BucketSpot) (b : Bool) → (i == suc n) ≡ b → seat_at r i ≡ Some one
      → has_spot one.spots x ≡ true → is_some (filled_at k one.epoch x) ≡ true
  opened_by i one x true same there has =
      let it : one ≡ sat = sym (same_sat i one same there) in
      let here : has_spot sat.spots x ≡ true = rw it at has in
      rw (it, filled sat.epoch x)
      (filled_yes _ (opened_in initial (second_at k sat.epoch u) x) (filled_at g sat.epoch x)
      (rw (number_key.itself sat.epoch, here) refl))
  opened_by i one x false same there has = rw (filled one.epoch x)
      (filled_old _ (opened_in initial (second_at k one.epoch u) x) (filled_at g one.epoch x)
      (is.opened i one x (seat_by i one same there) has))

  own_by : (i : ℕ) (one : Sat) (b : Bool) → (i == suc n) ≡ b → seat_at r i ≡ Some one → are_own one.spots ≡ true
  own_by i one true same there = rw (sym (same_sat i one same there)) own
  own_by i one false same there = is.own i one (seat_by i one same there)

  limit_by : (e : ℕ) (x : BucketSpot) (f : Filled)
      → (filled_at g e x ≡ Some f) ⊎ (opened_in initial (second_at k e u) x ≡ f) → f.limit ≡ x.limit
  limit_by e x f (inl old) = is.limits e x f old
  limit_by e x f (inr new) = sym (ap (λ (y : Filled). y.limit) new)

  second_by : (e : ℕ) (x : BucketSpot) (f : Filled)
      → (filled_at g e x ≡ Some f) ⊎ (opened_in initial (second_at k e u) x ≡ f) → f.second ≤ second_at k e u
  second_by e x f (inl old) =
      old_second g k e t u u f.second (e == sat.epoch) h (made e) (filled_made g e x (some_is (filled_at g e x) f old))
      (is.reckoned e x f old)
  second_by e x f (inr new) = let it : second_at k e u ≡ f.second = ap (λ (y : Filled). y.second) new in omega arith

-- for a seat in use: its generation counts it
pub held_some : (g : List (ℕ × Generation)) (s : List (ℕ × Sat)) (n w t a m : ℕ) (sat : Sat)
    → IsBasin (basin g s n w t a) → seat_at s m ≡ Some sat → 0 < held_at g sat.epoch
held_some g s n w t a m sat is seat =
    let at = is.numbers m (some_is (seat_at s m) sat seat) in
    rw (is.counted sat.epoch) (seats_some s m sat n seat at.0 at.1)

held_made : (o : Option Generation) → 0 < option_map_or (λ (x : Generation). x.held) o 0
    → is_some (option_map (λ (x : Generation). x.made) o) ≡ true
held_made None h = absurd (omega arith)
held_made (Some x) h = refl

-- for a seat in use: its generation is there
pub seat_made : (g : List (ℕ × Generation)) (s : List (ℕ × Sat)) (n w t a m : ℕ) (sat : Sat)
    → IsBasin (basin g s n w t a) → seat_at s m ≡ Some sat → is_some (made_at g sat.epoch) ≡ true
seat_made g s n w t a m sat is seat = held_made (generation_at g sat.epoch) (held_some g s n w t a m sat is seat)

all_there : (es : List (BucketSpot × Filled)) (spots : List BucketSpot)
    → ((x : BucketSpot) → has_spot spots x ≡ true → is_some (bucket_at es x) ≡ true) → are_there es spots ≡ true
all_there es [] h = refl
all_there es (x ∷ spots) h =
    rw (h x (rw (spot_key.itself x) refl))
    (all_there es spots (λ y e. h y (or_second (is_spot x y) (has_spot spots y) e)))

-- for a seat in use: its buckets are there
pub seat_there : (g : List (ℕ × Generation)) (s : List (ℕ × Sat)) (n w t a m : ℕ) (sat : Sat)
    → IsBasin (basin g s n w t a) → seat_at s m ≡ Some sat → are_there (buckets_at g sat.epoch) sat.spots ≡ true
seat_there g s n w t a m sat is seat = all_there (buckets_at g sat.epoch) sat.spots
    (λ x has. is.opened m sat x seat has)

-- for the seats of an epoch: they can be counted
pub held_few : (g : List (ℕ × Generation)) (s : List (ℕ × Sat)) (n w t a e : ℕ) → IsBasin (basin g s n w t a)
    → held_at g e < 9223372036854775808
held_few g s n w t a e is =
    let count = is.counted e in
    let few = seats_few s e n in
    let spare = is.spare in
    omega arith

-- for a seat that was given up: what it changes
pub has_left : (g k j : List (ℕ × Generation)) (s r : List (ℕ × Sat)) (n w t a m : ℕ) (sat : Sat)
    → IsLoose sat.epoch (basin k r n w t a)
    → ((i : ℕ) → seat_at r i ≡ cond (i == m) None (seat_at s i))
    → ((e : ℕ) → made_at k e ≡ made_at g e) → ((e : ℕ) (x : BucketSpot) → filled_at k e x ≡ filled_at g e x)
    → ((e : ℕ) → made_at j e ≡ kept_if (is_left k sat.epoch w e) (made_at k e))
    → ((e : ℕ) (x : BucketSpot) → filled_at j e x ≡ kept_if (is_left k sat.epoch w e) (filled_at k e x))
    → HasLeft (basin g s n w t a) (basin j r n w t a) m
has_left g k j s r n w t a m sat is rest made filled gone emptied = record {
  made = λ e. retired_made sat.epoch k j r n w t a is gone e ∙ ap (kept_if (stays (basin k r n w t a) e)) (made e);
  buckets = λ e x. retired_filled sat.epoch k j r n w t a is emptied e x
      ∙ ap (kept_if (stays (basin k r n w t a) e)) (filled e x);
  seats = rest;
  given = refl;
  newest = refl;
  latest = refl;
  granted = refl;
}

-- for a generation that was made: what it changes
pub is_renewed : (g k j : List (ℕ × Generation)) (s : List (ℕ × Sat)) (n w t u a epoch : ℕ) (b : Beginning)
    → IsLoose w (basin k s n epoch u a)
    → ((e : ℕ) → made_at k e ≡ made_if (e == epoch) u (made_at g e))
    → ((e : ℕ) (x : BucketSpot)
    → filled_at k e x ≡ filled_if (e == epoch && is_aggregate b.pools x) (opened_in b.initial 0 x) (filled_at g e x))
    → ((e : ℕ) → made_at j e ≡ kept_if (is_left k w epoch e) (made_at k e))
    → ((e : ℕ) (x : BucketSpot) → filled_at j e x ≡ kept_if (is_left k w epoch e) (filled_at k e x))
    → IsBegun (basin g s n w t a) (basin j s n epoch u a) epoch b u
is_renewed g k j s n w t u a epoch b is made filled gone emptied = record {
  made = λ e. retired_made w k j s n epoch u a is gone e ∙ ap (kept_if (stays (basin k s n epoch u a) e)) (made e);
  buckets = λ e x. retired_filled w k j s n epoch u a is emptied e x
      ∙ ap (kept_if (stays (basin k s n epoch u a) e)) (filled e x);
  seats = refl;
  given = refl;
  newest = refl;
  latest = refl;
  granted = refl;
}

kept_inside : (b c : Bool) (initial p q : ℕ) (x : BucketSpot) (o : Option Filled) → (b ≡ true → p ≡ q)
    → kept_if b (filled_if c (opened_in initial p x) o) ≡ kept_if b (filled_if c (opened_in initial q x) o)
kept_inside true c initial p q x o h = rw (h refl) refl
kept_inside false c initial p q x o h = refl

-- for a seat that was given: what it changes
pub is_seated : (g k j : List (ℕ × Generation)) (s r : List (ℕ × Sat)) (n w t u a : ℕ) (sat : Sat) (b : Beginning)
    → IsLoose w (basin k r (suc n) (max w sat.epoch) u a)
    → ((i : ℕ) → seat_at r i ≡ cond (i == suc n) (Some sat) (seat_at s i))
    → ((e : ℕ) → made_at k e ≡ made_if (e == sat.epoch) u (made_at g e))
    → ((e : ℕ) (x : BucketSpot) → filled_at k e x
    ≡ filled_if (e == sat.epoch &&
    (has_spot sat.spots x || (is_none (made_at g e) && is_aggregate b.pools x)))
    (opened_in b.initial (second_at k e u) x) (filled_at g e x))
    → ((e : ℕ) → made_at j e ≡ kept_if (is_left k w (max w sat.epoch) e) (made_at k e))
    → ((e : ℕ) (x : BucketSpot) → filled_at j e x ≡ kept_if (is_left k w (max w sat.epoch) e) (filled_at k e x))
    → IsSeated (basin g s n w t a) (basin j r (suc n) (max w sat.epoch) u a) sat b u
is_seated g k j s r n w t u a sat b is rest made filled gone emptied = record {
  made = λ e. left e ∙ ap (kept_if (stays (basin k r (suc n) (max w sat.epoch) u a) e)) (made e);
  buckets = λ e x. retired_filled w k j r (suc n) (max w sat.epoch) u a is emptied e x
      ∙ ap (kept_if (stays (basin k r (suc n) (max w sat.epoch) u a) e)) (filled e x)
      ∙ kept_inside (stays (basin k r (suc n) (max w sat.epoch) u a) e) _ b.initial (second_at k e u)
      (second_at j e u) x (filled_at g e x)
      (λ stay. sym (second_same k j e u (left e ∙ ap (λ t. kept_if t (made_at k e)) stay)));
  seats = rest;
  given = refl;
  newest = refl;
  latest = refl;
  granted = refl;
} where
  left : (e : ℕ) → made_at j e ≡ kept_if (stays (basin k r (suc n) (max w sat.epoch) u a) e) (made_at k e)
  left e = retired_made w k j r (suc n) (max w sat.epoch) u a is gone e

count_none : (s : List (ℕ × Sat)) (e n : ℕ) → seat_at s (suc n) ≡ None → seats_of s e (suc n) ≡ seats_of s e n
count_none s e n none = rw none refl

none_past : (s : List (ℕ × Sat)) (n : ℕ) → ((m : ℕ) → is_some (seat_at s m) ≡ true → (0 < m) × (m ≤ n))
    → seat_at s (suc n) ≡ None
none_past s n numbers = by (seat_at s (suc n)) refl where
  by : (o : Option Sat) → seat_at s (suc n) ≡ o → o ≡ None
  by None is = refl
  by (Some sat) is = let high = (numbers (suc n) (some_is (seat_at s (suc n)) sat is)).1 in absurd (omega arith)

-- for a number that was given elsewhere
pub passed_basin : (g : List (ℕ × Generation)) (s : List (ℕ × Sat)) (n w t a : ℕ) → IsBasin (basin g s n w t a)
    → suc n < last_number → IsBasin (basin g s (suc n) w t a)
passed_basin g s n w t a is left = record {
  numbers = λ m there. let at = is.numbers m there in (at.0, omega arith);
  counted = λ e. is.counted e ∙ sym (same e);
  lives = λ e there. rw (same e) (is.lives e there);
  opened = is.opened;
  own = is.own;
  limits = is.limits;
  reckoned = is.reckoned;
  spare = omega arith;
  few = is.few;
} where
  same : (e : ℕ) → seats_of s e (suc n) ≡ seats_of s e n
  same e = count_none s e n (none_past s n is.numbers)
