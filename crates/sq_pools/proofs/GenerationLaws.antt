-- Generations after one of them changed.
use Rattle.std.proofs.Common.{◌≡◌, ◌∙◌, ◌==◌, ◌&&◌, ◌||◌, not, cond, Bool, true, false, ℕ, List, [], Option, None, Some, is_none, refl, ap, sym, arith, suc}
use Rattle.std.specs.Option.{option_map, option_map_or}
use Rattle.sq_machine.specs.BucketLevels.{Filled}
use Rattle.sq_machine.specs.PoolReadings.{BucketSpot, has_spot, kept_if, made_if, second_of}
use Rattle.sq_pools.specs.Generations.{filled_at, generation_at, held_at, is_left, made_at, second_at}
use Rattle.sq_buckets.specs.Grants.{bucket_at, filled_if, granted_if, opened_in}
use Rattle.sq_pools.specs.declared.generations.Generation.{Generation}
use Rattle.sq_buckets.proofs.MapLaws.{by_key, number_key, same_there}
use Rattle.sq_buckets.proofs.BucketLaws.{unchanged}

-- the generation of one epoch is another one, or has gone
abbrev pub HasAnother : ℕ → Option Generation → List (ℕ × Generation) → List (ℕ × Generation) → Type 0
HasAnother k w es fs = (e : ℕ) → generation_at fs e ≡ cond (e == k) w (generation_at es e)

-- for generations after one changed: when each was made
pub made_then : (k : ℕ) (w : Option Generation) (es fs : List (ℕ × Generation)) → HasAnother k w es fs
    → (e : ℕ) → made_at fs e ≡ cond (e == k) (option_map (λ (g : Generation). g.made) w) (made_at es e)
made_then k w es fs h e = ap (option_map (λ (g : Generation). g.made)) (h e)
    ∙ by_key e k (λ n b. option_map (λ (g : Generation). g.made) (cond b w (generation_at es n))
    ≡ cond b (option_map (λ (g : Generation). g.made) w) (made_at es n)) refl (λ t. refl)

-- for generations after one changed: the seats of each
pub held_then : (k : ℕ) (w : Option Generation) (es fs : List (ℕ × Generation)) → HasAnother k w es fs
    → (e : ℕ) → held_at fs e ≡ cond (e == k) (option_map_or (λ (g : Generation). g.held) w 0) (held_at es e)
held_then k w es fs h e = ap (λ o. option_map_or (λ (g : Generation). g.held) o 0) (h e)
    ∙ by_key e k (λ n b. option_map_or (λ (g : Generation). g.held) (cond b w (generation_at es n)) 0
    ≡ cond b (option_map_or (λ (g : Generation). g.held) w 0) (held_at es n)) refl (λ t. refl)

-- for generations after one changed: the buckets of each
pub filled_then : (k : ℕ) (w : Option Generation) (es fs : List (ℕ × Generation)) → HasAnother k w es fs
    → (e : ℕ) (s : BucketSpot)
    → filled_at fs e s ≡ cond (e == k) (bucket_at (option_map_or (λ (g : Generation). g.buckets) w []) s)
    (filled_at es e s)
filled_then k w es fs h e s = ap (λ o. bucket_at (option_map_or (λ (g : Generation). g.buckets) o []) s) (h e)
    ∙ by_key e k (λ n b. bucket_at (option_map_or (λ (g : Generation). g.buckets) (cond b w (generation_at es n)) []) s
    ≡ cond b (bucket_at (option_map_or (λ (g : Generation). g.buckets) w []) s) (filled_at es n s)) refl (λ t. refl)

-- for a generation that is there
pub made_there : (es : List (ℕ × Generation)) (k : ℕ) (g : Generation) → generation_at es k ≡ Some g
    → made_at es k ≡ Some g.made
made_there es k g h = rw h refl

pub held_there : (es : List (ℕ × Generation)) (k : ℕ) (g : Generation) → generation_at es k ≡ Some g
    → held_at es k ≡ g.held
held_there es k g h = rw h refl

pub filled_there : (es : List (ℕ × Generation)) (k : ℕ) (g : Generation) (s : BucketSpot) → generation_at es k ≡ Some g
    → filled_at es k s ≡ bucket_at g.buckets s
filled_there es k g s h = rw h refl

pub second_there : (es : List (ℕ × Generation)) (k : ℕ) (g : Generation) (now : ℕ) → generation_at es k ≡ Some g
    → second_at es k now ≡ second_of g.made now
second_there es k g now h = rw h refl

-- for a generation that is not there
pub filled_absent : (es : List (ℕ × Generation)) (k : ℕ) (s : BucketSpot) → generation_at es k ≡ None
    → filled_at es k s ≡ None
filled_absent es k s h = rw h refl

pub made_absent : (es : List (ℕ × Generation)) (k : ℕ) → made_at es k ≡ None → generation_at es k ≡ None
made_absent es k h = empty (generation_at es k) h where
  empty : (o : Option Generation) → option_map (λ (g : Generation). g.made) o ≡ None → o ≡ None
  empty None h = refl
  empty (Some g) h = cc

pub held_absent : (es : List (ℕ × Generation)) (k : ℕ) → generation_at es k ≡ None → held_at es k ≡ 0
held_absent es k h = rw h refl

-- for the buckets of all generations after one granted
pub granted_then : (k now amount : ℕ) (spots : List BucketSpot) (g w : Generation) (es fs : List (ℕ × Generation))
    → generation_at es k ≡ Some g → HasAnother k (Some w) es fs
    → ((s : BucketSpot) → bucket_at w.buckets s
    ≡ option_map (granted_if (has_spot spots s) (second_of g.made now) amount) (bucket_at g.buckets s))
    → (e : ℕ) (s : BucketSpot)
    → filled_at fs e s ≡ option_map (granted_if (k == e && has_spot spots s) (second_at es e now) amount)
    (filled_at es e s)
granted_then k now amount spots g w es fs there h step e s =
    filled_then k (Some w) es fs h e s
    ∙ by_key e k (λ n b. cond b (bucket_at w.buckets s) (filled_at es n s)
    ≡ option_map (granted_if (b && has_spot spots s) (second_at es n now) amount) (filled_at es n s))
    (rw (second_there es k g now there, filled_there es k g s there) (step s))
    (λ t. unchanged (second_at es e now) amount (filled_at es e s))
    ∙ ap (λ b. option_map (granted_if (b && has_spot spots s) (second_at es e now) amount) (filled_at es e s))
    (number_key.turned e k)

pub made_other : (now : ℕ) (o : Option ℕ) → o ≡ made_if false now o
made_other now None = refl
made_other now (Some m) = refl

pub filled_other : (new : Filled) (o : Option Filled) → o ≡ filled_if false new o
filled_other new None = refl
filled_other new (Some f) = refl

-- for generations after one was made that was not there: when each was made
pub begun_made : (k now : ℕ) (w : Generation) (es fs : List (ℕ × Generation)) → generation_at es k ≡ None
    → HasAnother k (Some w) es fs → w.made ≡ now
    → (e : ℕ) → made_at fs e ≡ made_if (e == k) now (made_at es e)
begun_made k now w es fs none h is e =
    made_then k (Some w) es fs h e
    ∙ by_key e k (λ n b. cond b (Some w.made) (made_at es n) ≡ made_if b now (made_at es n)) (rw (none, is) refl)
    (λ t. made_other now (made_at es e))

-- for generations after one was made that was not there: the seats of each
pub begun_held : (k : ℕ) (w : Generation) (es fs : List (ℕ × Generation)) → generation_at es k ≡ None
    → HasAnother k (Some w) es fs → w.held ≡ 0
    → (e : ℕ) → held_at fs e ≡ held_at es e
begun_held k w es fs none h is e = held_then k (Some w) es fs h e
    ∙ same_there e k (held_at es) w.held (is ∙ sym (held_absent es k none))

-- for generations after one was made that was not there: the buckets of each
pub begun_filled : (k initial : ℕ) (w : Generation) (aggregate : BucketSpot → Bool) (es fs : List (ℕ × Generation))
    → generation_at es k ≡ None → HasAnother k (Some w) es fs
    → ((s : BucketSpot) → bucket_at w.buckets s ≡ filled_if (aggregate s) (opened_in initial 0 s) None)
    → (e : ℕ) (s : BucketSpot)
    → filled_at fs e s ≡ filled_if (e == k && aggregate s) (opened_in initial 0 s) (filled_at es e s)
begun_filled k initial w aggregate es fs none h is e s =
    filled_then k (Some w) es fs h e s
    ∙ by_key e k (λ n b. cond b (bucket_at w.buckets s) (filled_at es n s)
    ≡ filled_if (b && aggregate s) (opened_in initial 0 s) (filled_at es n s))
    (rw (filled_absent es k s none) (is s)) (λ t. filled_other (opened_in initial 0 s) (filled_at es e s))

-- for generations after a seat was added to one: when each was made
pub entered_made : (k now : ℕ) (g w : Generation) (es fs : List (ℕ × Generation)) → generation_at es k ≡ Some g
    → HasAnother k (Some w) es fs → w.made ≡ g.made
    → (e : ℕ) → made_at fs e ≡ made_if (e == k) now (made_at es e)
entered_made k now g w es fs there h is e =
    made_then k (Some w) es fs h e
    ∙ by_key e k (λ n b. cond b (Some w.made) (made_at es n) ≡ made_if b now (made_at es n)) (rw (there, is) refl)
    (λ t. made_other now (made_at es e))

-- for generations after a seat was added to one: the seats of each
pub entered_held : (k : ℕ) (w : Generation) (es fs : List (ℕ × Generation)) → HasAnother k (Some w) es fs
    → w.held ≡ suc (held_at es k)
    → (e : ℕ) → held_at fs e ≡ cond (e == k) (suc (held_at es e)) (held_at es e)
entered_held k w es fs h is e =
    held_then k (Some w) es fs h e
    ∙ by_key e k (λ n b. cond b w.held (held_at es n) ≡ cond b (suc (held_at es n)) (held_at es n)) is (λ t. refl)

or_none : (a b : Bool) → a ≡ (a || (false && b))
or_none true b = refl
or_none false b = refl

-- for generations after a seat was added to one that is there: the buckets of each
pub entered_filled : (k initial now : ℕ) (spots : List BucketSpot) (g w : Generation) (aggregate : BucketSpot → Bool)
    (es fs : List (ℕ × Generation))
    → generation_at es k ≡ Some g → HasAnother k (Some w) es fs → w.made ≡ g.made
    → ((s : BucketSpot) → bucket_at w.buckets s
    ≡ filled_if (has_spot spots s) (opened_in initial (second_of g.made now) s) (bucket_at g.buckets s))
    → (e : ℕ) (s : BucketSpot) → filled_at fs e s
    ≡ filled_if (e == k && (has_spot spots s || (is_none (made_at es e) && aggregate s)))
    (opened_in initial (second_at fs e now) s) (filled_at es e s)
entered_filled k initial now spots g w aggregate es fs there h made is e s =
    let self : (k == k) ≡ true = number_key.itself k in
    let here : generation_at fs k ≡ Some w = h k ∙ ap (λ b. cond b (Some w) (generation_at es k)) self in
    let second : second_at fs k now ≡ second_of g.made now = second_there fs k w now here
    ∙ ap (λ m. second_of m now) made in
    filled_then k (Some w) es fs h e s
    ∙ by_key e k (λ n b. cond b (bucket_at w.buckets s) (filled_at es n s)
    ≡ filled_if (b && (has_spot spots s || (is_none (made_at es n) && aggregate s)))
    (opened_in initial (second_at fs n now) s) (filled_at es n s))
    (rw (second, there) (is s
    ∙ ap (λ b. filled_if b (opened_in initial (second_of g.made now) s) (bucket_at g.buckets s))
    (or_none (has_spot spots s) (aggregate s))))
    (λ t. filled_other (opened_in initial (second_at fs e now) s) (filled_at es e s))

opened_both : (a b : Bool) (new : Filled)
    → filled_if a new (filled_if b new None) ≡ filled_if (a || (true && b)) new None
opened_both true true new = refl
opened_both true false new = refl
opened_both false true new = refl
opened_both false false new = refl

-- for generations after one was made for a seat: the buckets of each
pub made_filled : (k initial now : ℕ) (spots : List BucketSpot) (w : Generation) (aggregate : BucketSpot → Bool)
    (es fs : List (ℕ × Generation))
    → generation_at es k ≡ None → HasAnother k (Some w) es fs → w.made ≡ now
    → ((s : BucketSpot) → bucket_at w.buckets s
    ≡ filled_if (has_spot spots s) (opened_in initial (second_of now now) s)
    (filled_if (aggregate s) (opened_in initial 0 s) None))
    → (e : ℕ) (s : BucketSpot) → filled_at fs e s
    ≡ filled_if (e == k && (has_spot spots s || (is_none (made_at es e) && aggregate s)))
    (opened_in initial (second_at fs e now) s) (filled_at es e s)
made_filled k initial now spots w aggregate es fs none h made is e s =
    let self : (k == k) ≡ true = number_key.itself k in
    let here : generation_at fs k ≡ Some w = h k ∙ ap (λ b. cond b (Some w) (generation_at es k)) self in
    let first : second_of now now ≡ 0 = omega arith in
    let second : second_at fs k now ≡ 0 = second_there fs k w now here ∙ ap (λ m. second_of m now) made ∙ first in
    filled_then k (Some w) es fs h e s
    ∙ by_key e k (λ n b. cond b (bucket_at w.buckets s) (filled_at es n s)
    ≡ filled_if (b && (has_spot spots s || (is_none (made_at es n) && aggregate s)))
    (opened_in initial (second_at fs n now) s) (filled_at es n s))
    (rw (second, none) ((rw first at (is s)) ∙ opened_both (has_spot spots s) (aggregate s) (opened_in initial 0 s)))
    (λ t. filled_other (opened_in initial (second_at fs e now) s) (filled_at es e s))

-- for generations of which one has gone
pub gone_made : (idle newest : ℕ) (es fs : List (ℕ × Generation)) → HasAnother idle None es fs
    → (idle == newest) ≡ false → held_at es idle ≡ 0
    → (e : ℕ) → made_at fs e ≡ kept_if (is_left es idle newest e) (made_at es e)
gone_made idle newest es fs h old free e =
    made_then idle None es fs h e
    ∙ by_key e idle (λ n b. cond b None (made_at es n)
    ≡ kept_if (not b || (n == newest || not (held_at es n == 0))) (made_at es n)) (rw (old, free) refl) (λ t. refl)

pub gone_held : (idle : ℕ) (es fs : List (ℕ × Generation)) → HasAnother idle None es fs → held_at es idle ≡ 0 → (e : ℕ)
    → held_at fs e ≡ held_at es e
gone_held idle es fs h free e = held_then idle None es fs h e ∙ same_there e idle (held_at es) 0 (sym free)

pub gone_filled : (idle newest : ℕ) (es fs : List (ℕ × Generation)) → HasAnother idle None es fs
    → (idle == newest) ≡ false → held_at es idle ≡ 0
    → (e : ℕ) (s : BucketSpot) → filled_at fs e s ≡ kept_if (is_left es idle newest e) (filled_at es e s)
gone_filled idle newest es fs h old free e s =
    filled_then idle None es fs h e s
    ∙ by_key e idle (λ n b. cond b None (filled_at es n s)
    ≡ kept_if (not b || (n == newest || not (held_at es n == 0))) (filled_at es n s)) (rw (old, free) refl) (λ t. refl)

or_true : (a b : Bool) → b ≡ true → (a || b) ≡ true
or_true true b e = refl
or_true false b e = e

-- for generations of which none goes
pub all_left : (idle newest : ℕ) (es : List (ℕ × Generation)) → ((idle == newest) || not (held_at es idle == 0)) ≡ true
    → (e : ℕ) → is_left es idle newest e ≡ true
all_left idle newest es stay e = by_key e idle (λ n b. (not b || (n == newest || not (held_at es n == 0))) ≡ true) stay
    (λ t. refl)

-- for the buckets of a generation that was made for a seat
pub opened_alike : (h : Bool) (i j m now : ℕ) (s : BucketSpot) (a b : Option Filled) → i ≡ j → m ≡ now → a ≡ b
    → filled_if h (opened_in i (second_of m now) s) a ≡ filled_if h (opened_in j (second_of now now) s) b
opened_alike h i j m now s a b p q r = rw (p, q, r) refl
