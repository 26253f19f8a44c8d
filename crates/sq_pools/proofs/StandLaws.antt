-- What each call, and each entry, does to pools that stand for a history.
use Rattle.std.proofs.Common.{◌≡◌, ◌∙◌, ◌==◌, ◌&&◌, ◌||◌, ◌≤◌, ◌<◌, ◌+◌, ◌-◌, not, cond, if◌then◌else◌, Bool, true, false, ℕ, List, [], ◌∷◌, Option, None, Some, is_some, is_none, refl, ap, sym, subst, arith, min, max, suc, zero, zero-add}
use Rattle.std.specs.Option.{option_map, option_map_or, option_or}
use Rattle.std.proofs.lemmas.Bool.Decides.{nat_tests}
use Rattle.sq_machine.specs.BucketLevels.{Filled, Tally, a_second, drawn, filled_to, opened_at, seconds}
use Rattle.sq_machine.specs.Checks.{numbered}
use Rattle.sq_machine.specs.Limits.{last_number}
use Rattle.sq_machine.specs.PoolReadings.{Beginning, PoolEntry, PoolHistory, Begins, Sits, Passes, Grants, Leaves, Rests, Sat, BucketSpot, beginning_by, count_if, current_in, grant_of, granted_of, has_spot, in_use, is_aggregate, is_needed, is_of_epoch, kept_if, latest_in, least_level, level_of, made_if, made_of, makes, names_spot, opened_if, sat_at, seat_count, seat_of, second_of, seconds_between, some_in_use, takes_at, tally_of, until}
use Rattle.sq_rules.specs.Rates.{Limit}
use Rattle.sq_pools.specs.Basins.{Basin, HasLeft, HasPassed, IsBasin, IsBegun, IsFirst, IsGranted, IsSeated, bucket_in, grant_in, granted_limit, made_in, seat_in, second_in, stays, tally_then}
use Rattle.sq_pools.specs.Generations.{buckets_at}
use Rattle.sq_buckets.specs.Grants.{filled_if, granted_if, least_at, level_or_none, opened_in}
use Rattle.sq_pools.specs.Seats.{seat_at, seats_of}
use Rattle.sq_pools.specs.Stands.{PoolsStand, entry}
use Rattle.sq_pools.proofs.BasinLaws.{filled_made, passed_basin}
use Rattle.sq_pools.proofs.GenerationLaws.{filled_other, made_other}
use Rattle.sq_buckets.proofs.MapLaws.{number_key}

-- seconds and levels

seconds_sum : (r : Limit) (n m : ℕ) (b : Tally) → seconds r (n + m) b ≡ seconds r n (seconds r m b)
seconds_sum r zero m b = rw (zero-add m) refl
seconds_sum r (suc n) m b = let e : suc n + m ≡ suc (n + m) = omega arith in
    rw e (ap (a_second r) (seconds_sum r n m b))

later_tally : (f : Filled) (t u : ℕ) → f.second ≤ t → t ≤ u
    → seconds f.limit (u - t) (filled_to t f).tally ≡ (filled_to u f).tally
later_tally f t u low h =
    let e : u - f.second ≡ (u - t) + (t - f.second) = omega arith in
    rw e (sym (seconds_sum f.limit (u - t) (t - f.second) f.tally))

abbrev at : Option ℕ → ℕ → ℕ
at m t = option_map_or (λ made. second_of made t) m 0

abbrev shown : ℕ → Option Filled → Option Tally
shown t o = option_map (λ f. (filled_to t f).tally) o

until_by : (o : Option Filled) (m : Option ℕ) (s : BucketSpot) (first last now : ℕ)
    → (is_some o ≡ true → is_some m ≡ true) → ((f : Filled) → o ≡ Some f → f.limit ≡ s.limit)
    → ((f : Filled) → o ≡ Some f → f.second ≤ at m first) → first ≤ last → last ≤ now
    → option_map (seconds s.limit (seconds_between m last now)) (shown (at m last) o) ≡ shown (at m now) o
until_by None m s first last now there limits low h i = refl
until_by (Some f) None s first last now there limits low h i = absurd (let no : false ≡ true = there refl in cc)
until_by (Some f) (Some made) s first last now there limits low h i =
    let before : f.second ≤ second_of made first = low f refl in
    let one : second_of made first ≤ second_of made last = omega arith in
    let two : second_of made last ≤ second_of made now = omega arith in
    rw (sym (limits f refl))
    (ap (λ (t : Tally). Some t) (later_tally f (second_of made last) (second_of made now) (omega arith) two))

-- for pools that stand for a history: a bucket at a later moment
pub until_then : (p : Basin) (h : PoolHistory) (now e : ℕ) (s : BucketSpot) → IsBasin p
    → PoolsStand p h → latest_in h ≤ now
    → until h e s now (tally_of h e s) ≡ tally_then p now e s
until_then p h now e s is stand i =
    rw (sym (stand.buckets_are e s), sym (stand.made_is e))
    (until_by (bucket_in p e s) (made_in p e) s p.latest (latest_in h) now (filled_made p.generations e s)
    (is.limits e s) (is.reckoned e s) stand.latest_is i)

-- seats and generations

of_kept : (e : ℕ) (u : Bool) (o : Option Sat) → is_of_epoch e (kept_if u o) ≡ (u && is_of_epoch e o)
of_kept e true o = refl
of_kept e false o = refl

not_none : (b : Bool) (k : ℕ) → not (count_if b k == 0) ≡ (b || not (k == 0))
not_none true k = grind (arith, nat_tests)
not_none false k = refl

-- for seats that are those of a history: some are in use where they are counted
used_is : (p : Basin) (h : PoolHistory) (e n : ℕ)
    → ((m : ℕ) → seat_in p m ≡ kept_if (in_use h m) (seat_of h m))
    → some_in_use h e n ≡ not (seats_of p.seats e n == 0)
used_is p h e zero seats = refl
used_is p h e (suc n) seats =
    ap (λ b. b || some_in_use h e n)
    (sym (ap (is_of_epoch e) (seats (suc n)) ∙ of_kept e (in_use h (suc n)) (seat_of h (suc n))))
    ∙ ap (λ b. is_of_epoch e (seat_at p.seats (suc n)) || b) (used_is p h e n seats)
    ∙ sym (not_none (is_of_epoch e (seat_at p.seats (suc n))) (seats_of p.seats e n))

-- for pools whose seats are those of a history: a generation is needed where it stays
needed_is : (p : Basin) (h : PoolHistory) (e : ℕ)
    → ((m : ℕ) → seat_in p m ≡ kept_if (in_use h m) (seat_of h m))
    → p.given ≡ seat_count h → p.newest ≡ current_in h → is_needed h e ≡ stays p e
needed_is p h e seats given newest =
    rw (sym given, sym newest, number_key.turned p.newest e)
    (ap (λ b. e == p.newest || b) (used_is p h e p.given seats))

-- for one entry more: when each generation was made
made_next : (p q : Basin) (x : PoolEntry) (h : PoolHistory) (e : ℕ) → PoolsStand p h
    → is_needed (x ∷ h) e ≡ stays q e
    → made_of (x ∷ h) e
    ≡ kept_if (stays q e) (made_if (makes e x.event) x.moment (made_in p e))
made_next p q x h e stand needed =
    ap (λ b. kept_if b (made_if (makes e x.event) x.moment (made_of h e))) needed
    ∙ ap (λ m. kept_if (stays q e) (made_if (makes e x.event) x.moment m)) (sym (stand.made_is e))

-- for one entry more: the numbers of each bucket
tally_next : (p : Basin) (x : PoolEntry) (h : PoolHistory) (e : ℕ) (s : BucketSpot)
    (m : Option ℕ) → IsBasin p → PoolsStand p h → latest_in h ≤ x.moment
    → made_of (x ∷ h) e ≡ m
    → tally_of (x ∷ h) e s ≡ kept_if (is_some m) (option_map (drawn (takes_at h e s x.event))
    (opened_if ((is_none (made_in p e) && is_aggregate (beginning_by x.event).pools s)
    || names_spot e s (sat_at x.event)) (opened_at (beginning_by x.event).initial s.limit)
    (tally_then p x.moment e s)))
tally_next p x h e s m is stand i made =
    rw (sym (until_then p h x.moment e s is stand i), stand.made_is e, sym made) refl

abbrev tally : ℕ → ℕ → ℕ → ℕ → ℕ → Tally
tally l o r s g = record { level = l; opened = o; restored = r; spilled = s; granted = g }

same_tally : (l m o r s g k : ℕ) → m ≡ l → k ≡ g → tally m o r s k ≡ tally l o r s g
same_tally l m o r s g k a b = rw (a, b) refl

drawn_none : (t : Tally) → drawn 0 t ≡ t
drawn_none t = same_tally t.level (t.level - 0) t.opened t.restored t.spilled t.granted (t.granted + 0) (omega arith)
    (omega arith)

-- for a bucket of which an entry says nothing
tally_quiet : (m : Option ℕ) (t : Option Tally) (b : Bool) (new : Tally) → (is_some t ≡ true → is_some m ≡ true)
    → t ≡ kept_if (is_some m) (option_map (drawn 0) (opened_if ((is_none m && b) || false) new t))
tally_quiet None None b new there = refl
tally_quiet None (Some t) b new there = absurd (let no : false ≡ true = there refl in cc)
tally_quiet (Some m) None b new there = refl
tally_quiet (Some m) (Some t) b new there = ap (λ (x : Tally). Some x) (sym (drawn_none t))

shown_some : (t : ℕ) (o : Option Filled) → is_some (shown t o) ≡ true → is_some o ≡ true
shown_some t None e = e
shown_some t (Some f) e = refl

kept_all : {A : Type 0} (b : Bool) (o : Option A) → (is_some o ≡ true → b ≡ true) → kept_if b o ≡ o
kept_all true o h = refl
kept_all false None h = refl
kept_all false (Some a) h = absurd (let no : false ≡ true = h refl in cc)

-- for an entry that says nothing to the pools: they stand for the history with it added
pub rest_stands : (p : Basin) (h : PoolHistory) (now : ℕ) → IsBasin p → PoolsStand p h → latest_in h ≤ now
    → PoolsStand p (entry now Rests ∷ h)
rest_stands p h now is stand i = record {
  made_is = made;
  buckets_are = λ e s.
      let there : is_some (tally_then p now e s) ≡ true → is_some (made_in p e) ≡ true =
      λ t. filled_made p.generations e s (shown_some (second_in p e now) (bucket_in p e s) t) in
      tally_quiet (made_in p e) (tally_then p now e s) (is_aggregate [] s) (opened_at 0 s.limit) there
      ∙ sym (tally_next p (entry now Rests) h e s (made_in p e) is stand i (sym (made e)));
  seats_are = stand.seats_are;
  given_is = stand.given_is;
  newest_is = stand.newest_is;
  latest_is = let low = stand.latest_is in omega arith;
  granted_is = stand.granted_is;
  begun_are = stand.begun_are;
} where
  made : (e : ℕ) → made_in p e ≡ made_of (entry now Rests ∷ h) e
  made e = sym (made_next p p (entry now Rests) h e stand
      (needed_is p (entry now Rests ∷ h) e stand.seats_are stand.given_is stand.newest_is)
      ∙ ap (kept_if (stays p e)) (sym (made_other now (made_in p e)))
      ∙ kept_all (stays p e) (made_in p e) (is.lives e))

-- for a seat of the other kind: the pools that pass its number stand for the history with it added
pub pass_stands : (p q : Basin) (h : PoolHistory) (now : ℕ) → IsBasin p → suc p.given < last_number → PoolsStand p h
    → latest_in h ≤ now → HasPassed p q → PoolsStand q (entry now Passes ∷ h)
pass_stands p q h now is few stand i passed =
    subst (λ (k : Basin). PoolsStand k (entry now Passes ∷ h)) (sym passed) record {
      made_is = made;
      buckets_are = λ e s.
          let there : is_some (tally_then p now e s) ≡ true → is_some (made_in p e) ≡ true =
          λ t. filled_made p.generations e s (shown_some (second_in p e now) (bucket_in p e s) t) in
          tally_quiet (made_in p e) (tally_then p now e s) (is_aggregate [] s) (opened_at 0 s.limit) there
          ∙ sym (tally_next p (entry now Passes) h e s (made_in p e) is stand i (sym (made e)));
      seats_are = stand.seats_are;
      given_is = ap suc stand.given_is;
      newest_is = stand.newest_is;
      latest_is = let low = stand.latest_is in omega arith;
      granted_is = stand.granted_is;
      begun_are = stand.begun_are;
    }
  where
    next : Basin
    next = record {
      generations = p.generations;
      seats = p.seats;
      given = suc p.given;
      newest = p.newest;
      latest = p.latest;
      granted = p.granted;
    }

    holds : IsBasin next
    holds = passed_basin p.generations p.seats p.given p.newest p.latest p.granted is few

    made : (e : ℕ) → made_in p e ≡ made_of (entry now Passes ∷ h) e
    made e = sym (made_next p next (entry now Passes) h e stand
        (needed_is next (entry now Passes ∷ h) e stand.seats_are (ap suc stand.given_is) stand.newest_is)
        ∙ ap (kept_if (stays next e)) (sym (made_other now (made_in p e)))
        ∙ kept_all (stays next e) (made_in p e) (holds.lives e))

tally_left : (b : Bool) (m : Option ℕ) (o : Option Filled) (now : ℕ) (c : Bool) (new : Tally)
    → (is_some o ≡ true → is_some m ≡ true)
    → shown (at (kept_if b m) now) (kept_if b o)
    ≡ kept_if (is_some (kept_if b m))
    (option_map (drawn 0) (opened_if ((is_none m && c) || false) new (shown (at m now) o)))
tally_left false m o now c new there = refl
tally_left true m o now c new there = tally_quiet m (shown (at m now) o) c new (λ t. there (shown_some (at m now) o t))

turned_cond : {A : Type 0} (a b : ℕ) (x y : A) → cond (a == b) x y ≡ cond (b == a) x y
turned_cond a b x y = ap (λ t. cond t x y) (number_key.turned a b)

left_seat : (b u : Bool) (o : Option Sat) → cond b None (kept_if u o) ≡ kept_if (if b then false else u) o
left_seat true u o = refl
left_seat false u o = refl

-- for a `leave` of a seat: the pools after it stand for the history with it added
pub leave_stands : (p q : Basin) (h : PoolHistory) (now n : ℕ) → IsBasin p → PoolsStand p h → latest_in h ≤ now
    → HasLeft p q n → PoolsStand q (entry now (Leaves n) ∷ h)
leave_stands p q h now n is stand i left = record {
  made_is = λ e. left.made e ∙ ap (kept_if (stays q e)) (made_other now (made_in p e)) ∙ sym (made e);
  buckets_are = λ e s.
      let m : made_of (x ∷ h) e ≡ kept_if (stays q e) (made_in p e) = made e
      ∙ ap (kept_if (stays q e)) (sym (made_other now (made_in p e))) in
      ap (λ o. shown (second_in q e now) o) (left.buckets e s)
      ∙ ap (λ k. shown (at k now) (kept_if (stays q e) (bucket_in p e s))) (left.made e)
      ∙ tally_left (stays q e) (made_in p e) (bucket_in p e s) now (is_aggregate [] s) (opened_at 0 s.limit)
      (filled_made p.generations e s)
      ∙ sym (tally_next p x h e s (kept_if (stays q e) (made_in p e)) is stand i m);
  seats_are = seats;
  given_is = left.given ∙ stand.given_is;
  newest_is = left.newest ∙ stand.newest_is;
  latest_is = let low = stand.latest_is in let same = left.latest in omega arith;
  granted_is = left.granted ∙ stand.granted_is;
  begun_are = λ k sat there. stand.begun_are k sat (stayed (k == n) (seat_in p k) sat (sym (left.seats k) ∙ there));
} where
  x : PoolEntry
  x = entry now (Leaves n)

  stayed : (b : Bool) (o : Option Sat) (sat : Sat) → cond b None o ≡ Some sat → o ≡ Some sat
  stayed true o sat e = absurd (cc)
  stayed false o sat e = e

  seats : (k : ℕ) → seat_in q k
      ≡ kept_if (in_use (entry now (Leaves n) ∷ h) k) (seat_of (entry now (Leaves n) ∷ h) k)
  seats k = left.seats k ∙ turned_cond k n None (seat_in p k) ∙ ap (cond (n == k) None) (stand.seats_are k)
      ∙ left_seat (n == k) (in_use h k) (seat_of h k)

  made : (e : ℕ) → made_of (entry now (Leaves n) ∷ h) e ≡ kept_if (stays q e) (made_if false now (made_in p e))
  made e = made_next p q (entry now (Leaves n)) h e stand
      (needed_is q (entry now (Leaves n) ∷ h) e seats (left.given ∙ stand.given_is) (left.newest ∙ stand.newest_is))

-- for a `leave` of a seat that is not in use here: nothing changes
pub leave_elsewhere : (p : Basin) (h : PoolHistory) (now n : ℕ) → IsBasin p → PoolsStand p h → latest_in h ≤ now
    → seat_in p n ≡ None → PoolsStand p (entry now (Leaves n) ∷ h)
leave_elsewhere p h now n is stand i none = leave_stands p p h now n is stand i record {
  made = λ e. sym (kept_all (stays p e) (made_in p e) (is.lives e));
  buckets = λ e s. sym (kept_all (stays p e) (bucket_in p e s)
      (λ there. is.lives e (filled_made p.generations e s there)));
  seats = λ k. same k (k == n) refl;
  given = refl;
  newest = refl;
  latest = refl;
  granted = refl;
} where
  same : (k : ℕ) (b : Bool) → (k == n) ≡ b → seat_in p k ≡ cond b None (seat_in p k)
  same k true e = let it : k ≡ n = grind (arith, nat_tests) in ap (seat_in p) it ∙ none
  same k false e = refl

granted_tally : (c : Bool) (t amount : ℕ) (f : Filled)
    → (filled_to t (granted_if c t amount f)).tally ≡ drawn (if c then amount else 0) (filled_to t f).tally
granted_tally true t amount f = let none : t - max t f.second ≡ 0 = omega arith in rw none refl
granted_tally false t amount f = sym (drawn_none (filled_to t f).tally)

tally_granted : (m : Option ℕ) (o : Option Filled) (t amount : ℕ) (b c : Bool) (new : Tally)
    → (is_some o ≡ true → is_some m ≡ true)
    → shown t (option_map (granted_if c t amount) o)
    ≡ kept_if (is_some m) (option_map (drawn (if c then amount else 0))
    (opened_if ((is_none m && b) || false) new (shown t o)))
tally_granted None None t amount b c new there = refl
tally_granted None (Some f) t amount b c new there = absurd (let no : false ≡ true = there refl in cc)
tally_granted (Some m) None t amount b c new there = refl
tally_granted (Some m) (Some f) t amount b c new there = ap (λ (y : Tally). Some y) (granted_tally c t amount f)

min_twice : (m a b : ℕ) → min m (min m a + b) ≡ min m (a + b)
min_twice m a b = omega arith

-- for a `grant` to a seat in use: the pools after it stand for the history with it added
pub grant_stands : (p q : Basin) (h : PoolHistory) (now n wanted amount : ℕ) → IsBasin p → PoolsStand p h
    → latest_in h ≤ now → in_use h n ≡ true → IsGranted p q now amount (seat_in p n)
    → PoolsStand q (entry now (Grants n wanted amount) ∷ h)
grant_stands p q h now n wanted amount is stand i used granted = record {
  made_is = λ e. granted.made e ∙ sym (made e);
  buckets_are = λ e s.
      ap (λ o. shown (second_in q e now) o) (granted.buckets e s)
      ∙ ap (λ k. shown (at k now)
      (option_map (granted_if (names_spot e s (seat_in p n)) (second_in p e now) amount) (bucket_in p e s)))
      (granted.made e)
      ∙ tally_granted (made_in p e) (bucket_in p e s) (second_in p e now) amount (is_aggregate [] s)
      (names_spot e s (seat_in p n)) (opened_at 0 s.limit) (filled_made p.generations e s)
      ∙ sym (tally_next p (entry now (Grants n wanted amount)) h e s (made_in p e) is stand i (made e)
      ∙ rw (used, sym seat) refl);
  seats_are = seats;
  given_is = granted.given ∙ stand.given_is;
  newest_is = granted.newest ∙ stand.newest_is;
  latest_is = let same = granted.latest in omega arith;
  granted_is = granted.granted ∙ ap (λ k. min granted_limit (k + amount)) stand.granted_is
      ∙ min_twice granted_limit (granted_of h) amount
      ∙ ap (λ b. min granted_limit (cond b (granted_of h + amount) (granted_of h))) (sym used);
  begun_are = λ k sat there. stand.begun_are k sat (ap (λ l. seat_at l k) (sym granted.seats) ∙ there);
} where
  seat : seat_in p n ≡ seat_of h n
  seat = stand.seats_are n ∙ ap (λ b. kept_if b (seat_of h n)) used

  seats : (k : ℕ) → seat_in q k
      ≡ kept_if (in_use (entry now (Grants n wanted amount) ∷ h) k) (seat_of (entry now (Grants n wanted amount) ∷ h) k)
  seats k = ap (λ l. seat_at l k) granted.seats ∙ stand.seats_are k

  made : (e : ℕ) → made_of (entry now (Grants n wanted amount) ∷ h) e ≡ made_in p e
  made e = made_next p q (entry now (Grants n wanted amount)) h e stand
      (needed_is q (entry now (Grants n wanted amount) ∷ h) e seats
      (granted.given ∙ stand.given_is) (granted.newest ∙ stand.newest_is))
      ∙ ap (kept_if (stays q e)) (sym (made_other now (made_in p e)))
      ∙ ap (λ b. kept_if b (made_in p e)) same ∙ kept_all (stays p e) (made_in p e) (is.lives e) where
        same : stays q e ≡ stays p e
        same = rw (granted.newest, granted.seats, granted.given) refl

-- for a `grant` to a seat that is not in use here: nothing changes
pub grant_elsewhere : (p : Basin) (h : PoolHistory) (now n wanted amount : ℕ) → IsBasin p → PoolsStand p h
    → latest_in h ≤ now → in_use h n ≡ false → PoolsStand p (entry now (Grants n wanted amount) ∷ h)
grant_elsewhere p h now n wanted amount is stand i used = record {
  made_is = made;
  buckets_are = λ e s.
      let there : is_some (tally_then p now e s) ≡ true → is_some (made_in p e) ≡ true =
      λ t. filled_made p.generations e s (shown_some (second_in p e now) (bucket_in p e s) t) in
      tally_quiet (made_in p e) (tally_then p now e s) (is_aggregate [] s) (opened_at 0 s.limit) there
      ∙ sym (tally_next p (entry now (Grants n wanted amount)) h e s (made_in p e) is stand i (sym (made e))
      ∙ rw used refl);
  seats_are = stand.seats_are;
  given_is = stand.given_is;
  newest_is = stand.newest_is;
  latest_is = let low = stand.latest_is in omega arith;
  granted_is = stand.granted_is
      ∙ ap (λ b. min granted_limit (cond b (granted_of h + amount) (granted_of h))) (sym used);
  begun_are = stand.begun_are;
} where
  made : (e : ℕ) → made_in p e ≡ made_of (entry now (Grants n wanted amount) ∷ h) e
  made e = sym (made_next p p (entry now (Grants n wanted amount)) h e stand
      (needed_is p (entry now (Grants n wanted amount) ∷ h) e stand.seats_are stand.given_is stand.newest_is)
      ∙ ap (kept_if (stays p e)) (sym (made_other now (made_in p e)))
      ∙ kept_all (stays p e) (made_in p e) (is.lives e))

-- seats that are given

numbered_seat : (n k : ℕ) (sat : Sat) (u : Bool) (o : Option Sat)
    → cond (n == suc k) (Some sat) (kept_if u o)
    ≡ kept_if (is_some (numbered n k (Some sat)) || u) (option_or (numbered n k (Some sat)) o)
numbered_seat n k sat u o = by_test (n == suc k) where
  by_test : (b : Bool) → cond b (Some sat) (kept_if u o)
      ≡ kept_if (is_some (if b then Some sat else None) || u) (option_or (if b then Some sat else None) o)
  by_test true = refl
  by_test false = refl

shown_new : (t initial : ℕ) (s : BucketSpot) → (filled_to t (opened_in initial t s)).tally ≡ opened_at initial s.limit
shown_new t initial s = let none : t - t ≡ 0 = omega arith in rw none refl

or_turned : (a b : Bool) → (a || b) ≡ (b || a)
or_turned true true = refl
or_turned true false = refl
or_turned false true = refl
or_turned false false = refl

or_no : (b : Bool) → (b || false) ≡ b
or_no true = refl
or_no false = refl

-- for a bucket of the generation in which a seat was given
tally_chosen : (m : Option ℕ) (o : Option Filled) (now initial : ℕ) (s : BucketSpot) (h a : Bool)
    → (is_some o ≡ true → is_some m ≡ true)
    → shown (at (made_if true now m) now)
    (filled_if (h || (is_none m && a)) (opened_in initial (at (made_if true now m) now) s) o)
    ≡ option_map (drawn 0) (opened_if ((is_none m && a) || h) (opened_at initial s.limit) (shown (at m now) o))
tally_chosen None (Some f) now initial s h a there = absurd (let no : false ≡ true = there refl in cc)
tally_chosen (Some m) (Some f) now initial s h a there = ap (λ (x : Tally). Some x)
    (sym (drawn_none (filled_to (second_of m now) f).tally))
tally_chosen None None now initial s h a there =
    rw (or_turned h a) (by_test (a || h)) where
      by_test : (b : Bool) → shown (second_of now now) (filled_if b (opened_in initial (second_of now now) s) None)
          ≡ option_map (drawn 0) (opened_if b (opened_at initial s.limit) None)
      by_test true = ap (λ (x : Tally). Some x)
          (shown_new (second_of now now) initial s ∙ sym (drawn_none (opened_at initial s.limit)))
      by_test false = refl
tally_chosen (Some m) None now initial s h a there = rw (or_no h) (by_test h) where
  by_test : (b : Bool) → shown (second_of m now) (filled_if b (opened_in initial (second_of m now) s) None)
      ≡ option_map (drawn 0) (opened_if b (opened_at initial s.limit) None)
  by_test true = ap (λ (x : Tally). Some x)
      (shown_new (second_of m now) initial s ∙ sym (drawn_none (opened_at initial s.limit)))
  by_test false = refl

chosen_here : (m : Option ℕ) (o : Option Filled) (now initial : ℕ) (s : BucketSpot) (h a : Bool)
    → (is_some o ≡ true → is_some m ≡ true)
    → shown (at (made_if true now m) now)
    (filled_if (h || (is_none m && a)) (opened_in initial (at (made_if true now m) now) s) o)
    ≡ kept_if (is_some (made_if true now m))
    (option_map (drawn 0) (opened_if ((is_none m && a) || h) (opened_at initial s.limit) (shown (at m now) o)))
chosen_here None o now initial s h a there = tally_chosen None o now initial s h a there
chosen_here (Some m) o now initial s h a there = tally_chosen (Some m) o now initial s h a there

quiet_here : (m : Option ℕ) (o : Option Filled) (now : ℕ) (a : Bool) (f : Filled) (new : Tally)
    → (is_some o ≡ true → is_some m ≡ true)
    → shown (at (made_if false now m) now) (filled_if false f o)
    ≡ kept_if (is_some (made_if false now m))
    (option_map (drawn 0) (opened_if ((is_none m && a) || false) new (shown (at m now) o)))
quiet_here m o now a f new there =
    rw (sym (made_other now m), sym (filled_other f o))
    (tally_quiet m (shown (at m now) o) a new (λ t. there (shown_some (at m now) o t)))

-- for pools that stand for a history: a moment after it is the greatest so far
pub moment_is : (p : Basin) (h : PoolHistory) (now : ℕ) → PoolsStand p h
    → latest_in h ≤ now → max now p.latest ≡ now
moment_is p h now stand i = let low = stand.latest_is in omega arith

chosen_by : (initial epoch e now : ℕ) (s : BucketSpot) (b t h a : Bool) (m : Option ℕ) (o : Option Filled)
    → (is_some o ≡ true → is_some m ≡ true)
    → shown (at (kept_if b (made_if t now m)) now)
    (kept_if b (filled_if (t && (h || (is_none m && a)))
    (opened_in initial (at (kept_if b (made_if t now m)) now) s) o))
    ≡ kept_if (is_some (kept_if b (made_if t now m))) (option_map (drawn 0)
    (opened_if ((is_none m && a) || (t && h)) (opened_at initial s.limit) (shown (at m now) o)))
chosen_by initial epoch e now s false t h a m o there = refl
chosen_by initial epoch e now s true true h a m o there = chosen_here m o now initial s h a there
chosen_by initial epoch e now s true false h a m o there =
    quiet_here m o now a (opened_in initial (at (made_if false now m) now) s) (opened_at initial s.limit) there

-- for a seat that is given: the pools after it stand for the history with it added
pub sit_stands : (p q : Basin) (h : PoolHistory) (now : ℕ) (sat : Sat) (b : Beginning) → IsBasin p → PoolsStand p h
    → latest_in h ≤ now → sat.epoch ≤ current_in h → IsSeated p q sat b now
    → PoolsStand q (entry now (Sits sat b) ∷ h)
sit_stands p q h now sat b is stand i low chosen = record {
  made_is = λ e. chosen.made e ∙ sym (made e);
  buckets_are = λ e s.
      let k = stays q e in
      let m = made_in p e in
      let o = bucket_in p e s in
      let has = has_spot sat.spots s in
      ap (λ f. shown (second_in q e now) f) (chosen.buckets e s)
      ∙ ap (λ j. shown (at j now)
      (kept_if k (filled_if (e == sat.epoch && (has || (is_none m && is_aggregate b.pools s)))
      (opened_in b.initial (at j now) s) o))) (chosen.made e)
      ∙ chosen_by b.initial sat.epoch e now s k (e == sat.epoch) has (is_aggregate b.pools s) m o
      (filled_made p.generations e s)
      ∙ ap (λ t. kept_if (is_some (kept_if k (made_if (e == sat.epoch) now m))) (option_map (drawn 0)
      (opened_if ((is_none m && is_aggregate b.pools s) || (t && has))
      (opened_at b.initial s.limit) (shown (at m now) o)))) (number_key.turned e sat.epoch)
      ∙ sym (tally_next p x h e s (kept_if k (made_if (e == sat.epoch) now m)) is stand i (made e));
  seats_are = seats;
  given_is = given;
  newest_is = newest;
  latest_is = let same = chosen.latest in omega arith;
  granted_is = chosen.granted ∙ stand.granted_is;
  begun_are = λ n one there. begun n one (n == suc p.given) (sym (chosen.seats n) ∙ there);
} where
  x : PoolEntry
  x = entry now (Sits sat b)

  begun : (n : ℕ) (one : Sat) (t : Bool) → cond t (Some sat) (seat_in p n) ≡ Some one → one.epoch ≤ current_in h
  begun n one true e = let same : sat ≡ one = cc in rw (sym same) low
  begun n one false e = stand.begun_are n one e

  seats : (k : ℕ) → seat_in q k
      ≡ kept_if (in_use (entry now (Sits sat b) ∷ h) k) (seat_of (entry now (Sits sat b) ∷ h) k)
  seats k =
      chosen.seats k ∙ ap (λ o. cond (k == suc p.given) (Some sat) o) (stand.seats_are k)
      ∙ ap (λ g. cond (k == suc g) (Some sat) (kept_if (in_use h k) (seat_of h k))) stand.given_is
      ∙ numbered_seat k (seat_count h) sat (in_use h k) (seat_of h k)

  given : q.given ≡ seat_count (entry now (Sits sat b) ∷ h)
  given = chosen.given ∙ ap suc stand.given_is

  newest : q.newest ≡ current_in h
  newest =
      let one = chosen.newest in
      let two = stand.newest_is in
      omega arith

  made : (e : ℕ) → made_of (entry now (Sits sat b) ∷ h) e
      ≡ kept_if (stays q e) (made_if (e == sat.epoch) now (made_in p e))
  made e = made_next p q x h e stand (needed_is q (x ∷ h) e seats given newest)
      ∙ ap (λ t. kept_if (stays q e) (made_if t now (made_in p e))) (number_key.turned sat.epoch e)

level_shown : (t : ℕ) (o : Option Filled) → level_or_none t o ≡ level_of (shown t o)
level_shown t None = refl
level_shown t (Some f) = refl

least_is : (p : Basin) (h : PoolHistory) (now e : ℕ) (spots : List BucketSpot) (wanted : ℕ)
    → IsBasin p → PoolsStand p h → latest_in h ≤ now
    → least_at (second_in p e now) (buckets_at p.generations e) spots wanted ≡ least_level h e now spots wanted
least_is p h now e [] wanted is stand i = refl
least_is p h now e (s ∷ spots) wanted is stand i =
    let level : level_or_none (second_in p e now) (bucket_in p e s)
    ≡ level_of (until h e s now (tally_of h e s)) =
    level_shown (second_in p e now) (bucket_in p e s) ∙ ap level_of (sym (until_then p h now e s is stand i)) in
    ap (λ k. least_at (second_in p e now) (buckets_at p.generations e) spots (min wanted k)) level
    ∙ least_is p h now e spots (min wanted (level_of (until h e s now (tally_of h e s)))) is
    stand i

-- for a seat in use: it is granted what the history says
pub grant_is : (p : Basin) (h : PoolHistory) (now n wanted : ℕ) → IsBasin p
    → PoolsStand p h → latest_in h ≤ now → in_use h n ≡ true
    → grant_in p now wanted (seat_in p n) ≡ grant_of h now wanted (seat_of h n)
grant_is p h now n wanted is stand i used =
    ap (grant_in p now wanted) (stand.seats_are n ∙ ap (λ b. kept_if b (seat_of h n)) used)
    ∙ by_seat (seat_of h n) where
      by_seat : (o : Option Sat) → grant_in p now wanted o ≡ grant_of h now wanted o
      by_seat None = refl
      by_seat (Some sat) = least_is p h now sat.epoch sat.spots wanted is stand i

-- a generation that begins

begun_by : (initial now : ℕ) (s : BucketSpot) (b t a : Bool) (m : Option ℕ) (o : Option Filled)
    → (t ≡ true → m ≡ None) → (is_some o ≡ true → is_some m ≡ true)
    → shown (at (kept_if b (made_if t now m)) now) (kept_if b (filled_if (t && a) (opened_in initial 0 s) o))
    ≡ kept_if (is_some (kept_if b (made_if t now m))) (option_map (drawn 0)
    (opened_if ((is_none m && a) || false) (opened_at initial s.limit) (shown (at m now) o)))
begun_by initial now s false t a m o free there = refl
begun_by initial now s true false a m o free there =
    quiet_here m o now a (opened_in initial 0 s) (opened_at initial s.limit) there
begun_by initial now s true true a (Some m) o free there = absurd (let no : Some m ≡ None = free refl in cc)
begun_by initial now s true true a None (Some f) free there = absurd (let no : false ≡ true = there refl in cc)
begun_by initial now s true true a None None free there = rw (or_no a) (by_test a) where
  by_test : (c : Bool) → shown (second_of now now) (filled_if c (opened_in initial 0 s) None)
      ≡ option_map (drawn 0) (opened_if c (opened_at initial s.limit) None)
  by_test true =
      let first : second_of now now ≡ 0 = omega arith in
      rw first (ap (λ (x : Tally). Some x) (sym (drawn_none (opened_at initial s.limit))))
  by_test false = refl

no_seats : (seats : List (ℕ × Sat)) (e k n : ℕ) → ((m : ℕ) (sat : Sat) → seat_at seats m ≡ Some sat → sat.epoch ≤ k)
    → k < e → seats_of seats e n ≡ 0
no_seats seats e k zero low h = refl
no_seats seats e k (suc n) low h = by_seat (seat_at seats (suc n)) refl (no_seats seats e k n low h) where
  by_seat : (o : Option Sat) → seat_at seats (suc n) ≡ o → seats_of seats e n ≡ 0
      → count_if (is_of_epoch e o) (seats_of seats e n) ≡ 0
  by_seat None is rest = rest
  by_seat (Some sat) is rest =
      let below = low (suc n) sat is in
      let other : (sat.epoch == e) ≡ false = grind (arith, nat_tests) in
      rw other rest

-- for pools that stand for a history: there is no generation of an epoch that has not begun
pub none_ahead : (p : Basin) (h : PoolHistory) (e : ℕ) → IsBasin p → PoolsStand p h → current_in h < e
    → made_in p e ≡ None
none_ahead p h e is stand ahead = by_made (made_in p e) refl where
  by_made : (o : Option ℕ) → made_in p e ≡ o → o ≡ None
  by_made None was = refl
  by_made (Some m) was =
      let stay : stays p e ≡ true = is.lives e (rw was refl) in
      let newest = stand.newest_is in
      let other : (e == p.newest) ≡ false = grind (arith, nat_tests) in
      let count : seats_of p.seats e p.given ≡ 0 = no_seats p.seats e (current_in h) p.given stand.begun_are ahead in
      let no : stays p e ≡ false = rw (other, count) refl in
      absurd (let bad : true ≡ false = sym stay ∙ no in cc)

-- for an epoch that begins: the pools after `renew` stand for the history with it added
pub renew_stands : (p q : Basin) (h : PoolHistory) (now epoch : ℕ) (b : Beginning) → IsBasin p → PoolsStand p h
    → latest_in h ≤ now → epoch ≡ suc (current_in h) → IsBegun p q epoch b now
    → PoolsStand q (entry now (Begins epoch b) ∷ h)
renew_stands p q h now epoch b is stand i next renewed = record {
  made_is = λ e. renewed.made e ∙ sym (made e);
  buckets_are = λ e s.
      let k = stays q e in
      let m = made_in p e in
      let o = bucket_in p e s in
      ap (λ f. shown (second_in q e now) f) (renewed.buckets e s)
      ∙ ap (λ j. shown (at j now)
      (kept_if k (filled_if (e == epoch && is_aggregate b.pools s) (opened_in b.initial 0 s) o))) (renewed.made e)
      ∙ begun_by b.initial now s k (e == epoch) (is_aggregate b.pools s) m o (free e) (filled_made p.generations e s)
      ∙ sym (tally_next p x h e s (kept_if k (made_if (e == epoch) now m)) is stand i (made e));
  seats_are = seats;
  given_is = renewed.given ∙ stand.given_is;
  newest_is = renewed.newest;
  latest_is = let same = renewed.latest in omega arith;
  granted_is = renewed.granted ∙ stand.granted_is;
  begun_are = λ n sat there.
      let low = stand.begun_are n sat (ap (λ l. seat_at l n) (sym renewed.seats) ∙ there) in omega arith;
} where
  x : PoolEntry
  x = entry now (Begins epoch b)

  seats : (k : ℕ) → seat_in q k
      ≡ kept_if (in_use (entry now (Begins epoch b) ∷ h) k) (seat_of (entry now (Begins epoch b) ∷ h) k)
  seats k = ap (λ l. seat_at l k) renewed.seats ∙ stand.seats_are k

  made : (e : ℕ) → made_of (entry now (Begins epoch b) ∷ h) e
      ≡ kept_if (stays q e) (made_if (e == epoch) now (made_in p e))
  made e = made_next p q x h e stand
      (needed_is q (x ∷ h) e seats (renewed.given ∙ stand.given_is) renewed.newest)

  free : (e : ℕ) → (e == epoch) ≡ true → made_in p e ≡ None
  free e t = let it : e ≡ epoch = grind (arith, nat_tests) in none_ahead p h e is stand (omega arith)

-- for the first epoch: the pools that `new` makes stand for the history of it alone
pub new_stands : (p : Basin) (now : ℕ) (b : Beginning) → IsFirst p 1 b now
    → PoolsStand p (entry now (Begins 1 b) ∷ [])
new_stands p now b begun = record {
  made_is = λ e. begun.made e ∙ sym (made e);
  buckets_are = λ e s.
      ap (λ f. shown (second_in p e now) f) (begun.buckets e s)
      ∙ ap (λ k. shown (at k now)
      (filled_if (e == 1 && is_aggregate b.pools s) (opened_in b.initial 0 s) None)) (begun.made e)
      ∙ begun_by b.initial now s true (e == 1) (is_aggregate b.pools s) None None (λ t. refl) (λ t. t)
      ∙ ap (λ k. kept_if (is_some k) (option_map (drawn 0)
      (opened_if ((true && is_aggregate b.pools s) || false) (opened_at b.initial s.limit) None))) (sym (made e));
  seats_are = λ k. ap (λ l. seat_at l k) begun.seats;
  given_is = begun.given;
  newest_is = begun.newest;
  latest_is = let same = begun.latest in omega arith;
  granted_is = begun.granted;
  begun_are = λ n sat there. absurd (let no : None ≡ Some sat = sym (ap (λ l. seat_at l n) begun.seats) ∙ there in cc);
} where
  made : (e : ℕ) → made_of (entry now (Begins 1 b) ∷ []) e ≡ made_if (e == 1) now None
  made e = ap (λ t. kept_if (t || false) (made_if (e == 1) now None)) (number_key.turned 1 e) ∙ by_test (e == 1) where
    by_test : (t : Bool) → kept_if (t || false) (made_if t now None) ≡ made_if t now None
    by_test true = refl
    by_test false = refl
