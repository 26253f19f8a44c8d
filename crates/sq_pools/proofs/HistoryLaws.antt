-- What a bucket grants between two places of a history.
use Rattle.std.proofs.Common.{◌≡◌, ℕ, ◌+◌, ◌≤◌, List, [], ◌∷◌, ◌++◌, Bool, true, false, ◌&&◌, ◌||◌, ◌==◌, if◌then◌else◌, Some, None, is_some, min, arith, refl, ap, ◌∙◌, sym}
use Rattle.std.proofs.lemmas.Bool.Decides.{nat_tests}
use Rattle.std.specs.Option.{option_map}
use Rattle.std.specs.declared.option.Option.{Option}
use Rattle.sq_rules.specs.Rates.{Limit}
use Rattle.sq_machine.specs.BucketLevels.{IsBalanced, Tally, seconds, drawn, opened_at}
use Rattle.sq_machine.specs.PoolReadings.{BucketSpot, Sat, grant_of, has_spot, in_use, is_grant, is_spot, kept_if, least_level, level_of, made_if, made_of, makes, is_needed, names_spot, opened_if, opens, seat_of, seconds_between, takes_at, tally_of, until, PoolEntry, PoolEvent, PoolHistory, Grants, beginning_by, latest_in}
use Rattle.sq_buckets.proofs.SpotLaws.{spot_same}
use Rattle.sq_pools.specs.Flows.{AreGrants, Flows, GrantsWithin, Lives}
use Rattle.sq_pools.proofs.FlowLaws.{flows_balanced, flows_bound, flows_drawn, flows_none, flows_on, flows_seconds}

-- what is kept was there
kept_some : {A : Type 0} (b : Bool) (o : Option A) (a : A) → kept_if b o ≡ Some a → (b ≡ true) × (o ≡ Some a)
kept_some true o a e = (refl, e)
kept_some false o a e = absurd cc

some_same : {A : Type 0} (a b : A) → Some a ≡ Some b → a ≡ b
some_same a b e = cc

behind : (a b : Bool) → (a && b) ≡ true → b ≡ true
behind true b e = e
behind false b e = absurd cc

-- the level of a bucket at a moment
abbrev level_then : PoolHistory → ℕ → ℕ → BucketSpot → ℕ
level_then h e now s = level_of (until h e s now (tally_of h e s))

-- the least level is none above that of a bucket among these
least_below : (h : PoolHistory) (e now : ℕ) (spots : List BucketSpot) (wanted : ℕ)
    → least_level h e now spots wanted ≤ wanted
least_below h e now [] wanted = omega arith
least_below h e now (s ∷ spots) wanted =
    let more = least_below h e now spots (min wanted (level_then h e now s)) in omega arith

least_by : (h : PoolHistory) (e now : ℕ) (x : BucketSpot) (spots : List BucketSpot)
    (wanted : ℕ) (s : BucketSpot) (b : Bool) → is_spot x s ≡ b → (b || has_spot spots s) ≡ true
    → (has_spot spots s ≡ true
    → least_level h e now spots (min wanted (level_then h e now x)) ≤ level_then h e now s)
    → least_level h e now spots (min wanted (level_then h e now x)) ≤ level_then h e now s
least_by h e now x spots wanted s true t i rest =
    let same : level_then h e now x ≡ level_then h e now s =
    ap (λ (z : BucketSpot). level_then h e now z) (spot_same x s t) in
    let more = least_below h e now spots (min wanted (level_then h e now x)) in
    omega arith
least_by h e now x spots wanted s false t i rest = rest i

least_fits : (h : PoolHistory) (e now : ℕ) (spots : List BucketSpot) (wanted : ℕ)
    (s : BucketSpot) → has_spot spots s ≡ true
    → least_level h e now spots wanted ≤ level_then h e now s
least_fits h e now [] wanted s i = absurd cc
least_fits h e now (x ∷ spots) wanted s i =
    least_by h e now x spots wanted s (is_spot x s) refl i
    (λ more. least_fits h e now spots (min wanted (level_then h e now x)) s more)

-- a seat that names the bucket
named : (h : PoolHistory) (e now wanted : ℕ) (s : BucketSpot) (o : Option Sat)
    → names_spot e s o ≡ true
    → grant_of h now wanted o ≤ level_then h e now s
named h e now wanted s None n = absurd cc
named h e now wanted s (Some sat) n =
    let same : sat.epoch ≡ e = grind (arith, nat_tests) in
    rw same (least_fits h e now sat.spots wanted s (behind (sat.epoch == e) _ n))

taken_by : (h : PoolHistory) (e now wanted amount : ℕ) (s : BucketSpot) (o : Option Sat) (u b : Bool)
    → names_spot e s o ≡ b → (u ≡ true → amount ≡ grant_of h now wanted o)
    → (if u && b then amount else 0) ≤ level_then h e now s
taken_by h e now wanted amount s o true true n g = rw (g refl) (named h e now wanted s o n)
taken_by h e now wanted amount s o true false n g = omega arith
taken_by h e now wanted amount s o false b n g = omega arith

-- what an entry takes is there
takes_level : (x : PoolEntry) (h : PoolHistory) (e : ℕ) (s : BucketSpot) (event : PoolEvent)
    → is_grant x h event → takes_at h e s event ≤ level_then h e x.moment s
takes_level x h e s (Grants n wanted amount) g =
    taken_by h e x.moment wanted amount s (seat_of h n) (in_use h n) _ refl g
takes_level x h e s event g = omega arith

-- for one entry more: what flows through a bucket
pub one_more : (x : PoolEntry) (h : PoolHistory) (e : ℕ) (s : BucketSpot) (a b : Tally)
    → is_grant x h x.event
    → tally_of h e s ≡ Some a → tally_of (x ∷ h) e s ≡ Some b
    → Flows s.limit (seconds_between (made_of h e) (latest_in h) x.moment) a b
one_more x h e s a b g p q =
    let k = seconds_between (made_of h e) (latest_in h) x.moment in
    let w = takes_at h e s x.event in
    let level : w ≤ (seconds s.limit k a).level = rw p at (takes_level x h e s x.event g) in
    let kept = kept_some _ _ b (rw p at q) in
    let is : drawn w (seconds s.limit k a) ≡ b = some_same _ _ kept.1 in
    rw (← is) (flows_on s.limit k 0 k a (seconds s.limit k a) _ (omega arith) (flows_seconds s.limit k a)
    (flows_drawn s.limit w (seconds s.limit k a) level))

-- places far apart

some_of : {A : Type 0} (o : Option A) → is_some o ≡ true → (a : A) × (o ≡ Some a)
some_of None e = absurd cc
some_of (Some a) e = (a, refl)

there_is : {A : Type 0} (o : Option A) (a : A) → o ≡ Some a → is_some o ≡ true
there_is o a e = rw e refl

lives_top : (later : List PoolEntry) (h : PoolHistory) (e : ℕ) (s : BucketSpot)
    → Lives later h e s
    → is_some (tally_of (later ++ h) e s) ≡ true
lives_top [] h e s l = l
lives_top (x ∷ later) h e s l = l.1

-- an open bucket has a generation
made_some : (h : PoolHistory) (e : ℕ) (s : BucketSpot) (a : Tally)
    → tally_of h e s ≡ Some a → is_some (made_of h e) ≡ true
made_some [] e s a p = absurd cc
made_some (x ∷ h) e s a p = (kept_some _ _ a p).0

-- which stays the same while the bucket lives
made_kept : (b c : Bool) (moment made now : ℕ) → kept_if b (made_if c moment (Some made)) ≡ Some now → now ≡ made
made_kept true c moment made now e = cc
made_kept false c moment made now e = absurd cc

made_stays : (x : PoolEntry) (h : PoolHistory) (e made now : ℕ) → made_of h e ≡ Some made
    → made_of (x ∷ h) e ≡ Some now → now ≡ made
made_stays x h e made now p q = made_kept (is_needed (x ∷ h) e) (makes e x.event)
    x.moment made now (rw p at q)

seconds_split : (made a b c : ℕ) → a ≤ b → b ≤ c
    → seconds_between (Some made) a b + seconds_between (Some made) b c ≡ seconds_between (Some made) a c
seconds_split made a b c p q = omega arith

-- what holds between two places
record Between (h g : PoolHistory) (e : ℕ) (s : BucketSpot) (a b : Tally) : Type 0 where
  made : ℕ
  first : made_of h e ≡ Some made
  last : made_of g e ≡ Some made
  order : latest_in h ≤ latest_in g
  flows : Flows s.limit (seconds_between (Some made) (latest_in h) (latest_in g)) a b

flows_same : (r : Limit) (made m : ℕ) (a b : Tally) → a ≡ b → Flows r (seconds_between (Some made) m m) a b
flows_same r made m a b e = let none : seconds_between (Some made) m m ≡ 0 = omega arith in
    rw (none, ← e) (flows_none r a)

between : (later : List PoolEntry) (h : PoolHistory) (e : ℕ) (s : BucketSpot) (a b : Tally)
    → AreGrants (later ++ h) → Lives later h e s
    → tally_of h e s ≡ Some a → tally_of (later ++ h) e s ≡ Some b
    → Between h (later ++ h) e s a b
between [] h e s a b g l p q =
    let m = some_of (made_of h e) (made_some h e s a p) in
    record {
      made = m.0;
      first = m.1;
      last = m.1;
      order = omega arith;
      flows = flows_same s.limit m.0 (latest_in h) a b (some_same a b (sym p ∙ q));
    }
between (x ∷ later) h e s a b g l p q =
    let c = some_of (tally_of (later ++ h) e s) (lives_top later h e s l.0) in
    let k = between later h e s a c.0 g.0 l.0 p c.1 in
    let n = some_of (made_of (x ∷ later ++ h) e) (made_some (x ∷ later ++ h) e s b q) in
    let same = made_stays x (later ++ h) e k.made n.0 k.last n.1 in
    let step : Flows s.limit (seconds_between (Some k.made) (latest_in (later ++ h)) x.moment) c.0 b = rw k.last
    at (one_more x (later ++ h) e s c.0 b g.2 c.1 q) in
    let order : latest_in h ≤ latest_in (later ++ h) = k.order in
    let more : latest_in (later ++ h) ≤ x.moment = g.1 in
    record {
      made = k.made;
      first = k.first;
      last = rw same at n.1;
      order = omega arith;
      flows = flows_on s.limit _ _ _ a c.0 b
          (seconds_split k.made (latest_in h) (latest_in (later ++ h)) x.moment order more) k.flows step;
    }

-- for every history: between two places from the one to the other of which a bucket lives,
-- it grants at most its level and what was restored
pub grants_within_levels : (later : List PoolEntry) (h : PoolHistory) (e : ℕ) (s : BucketSpot)
    → AreGrants (later ++ h) → Lives later h e s
    → GrantsWithin later h e s
grants_within_levels later h e s g l a b p q =
    let k = between later h e s a b g l p q in
    rw k.first (flows_bound s.limit _ a b k.flows)

balanced_if : (b : Bool) (new t : Tally) (o : Option Tally) → IsBalanced new → ((a : Tally) → o ≡ Some a → IsBalanced a)
    → opened_if b new o ≡ Some t → IsBalanced t
balanced_if true new t None n k e = rw (← some_same new t e) n
balanced_if false new t None n k e = absurd cc
balanced_if b new t (Some a) n k e = rw (← some_same a t e) (k a refl)

drawn_of : (w : ℕ) (o : Option Tally) (b : Tally) → option_map (drawn w) o ≡ Some b
    → (t : Tally) × (o ≡ Some t) × (drawn w t ≡ b)
drawn_of w None b e = absurd cc
drawn_of w (Some t) b e = (t, refl, some_same _ _ e)

until_balanced : (r : Limit) (k : ℕ) (o : Option Tally) (t : Tally) → ((a : Tally) → o ≡ Some a → IsBalanced a)
    → option_map (seconds r k) o ≡ Some t → IsBalanced t
until_balanced r k None t p e = absurd cc
until_balanced r k (Some a) t p e = rw (← some_same _ _ e)
    (flows_balanced r k a (seconds r k a) (flows_seconds r k a) (p a refl))

-- so much is there, if anything is
within_if : (b : Bool) (new t : Tally) (o : Option Tally) (w : ℕ) → w ≤ level_of o → opened_if b new o ≡ Some t
    → w ≤ t.level
within_if true new t None w h e = omega arith
within_if false new t None w h e = absurd cc
within_if b new t (Some a) w h e = rw (← some_same a t e) h

-- for every history: the books of each bucket balance
pub books_balance : (h : PoolHistory) (e : ℕ) (s : BucketSpot) (b : Tally)
    → AreGrants h → tally_of h e s ≡ Some b → IsBalanced b
books_balance [] e s b g q = absurd cc
books_balance (x ∷ h) e s b g q =
    let w = takes_at h e s x.event in
    let new = opened_at (beginning_by x.event).initial s.limit in
    let kept = kept_some _ _ b q in
    let d = drawn_of w (opened_if (opens x h e s) new (until h e s x.moment (tally_of h e s))) b
    kept.1 in
    let level : w ≤ (d.0).level =
    within_if (opens x h e s) new d.0 (until h e s x.moment (tally_of h e s)) w
    (takes_level x h e s x.event g.2) d.1 in
    let fresh : IsBalanced new = omega arith in
    let before : IsBalanced d.0 =
    balanced_if (opens x h e s) new d.0 _ fresh
    (λ a p. until_balanced s.limit _ (tally_of h e s) a (λ c q. books_balance h e s c g.0 q) p) d.1 in
    rw (← d.2) (flows_balanced s.limit 0 d.0 (drawn w d.0) (flows_drawn s.limit w d.0 level) before)
