-- Laws of the living processes.
use Rattle.std.proofs.Common.{◌≡◌, ℕ, suc, ◌+◌, ◌≤◌, ◌<◌, List, [], ◌∷◌, ◌++◌, map, length, Bool, true, false, not, if◌then◌else◌, nat_lt, ◌==◌, refl, sym, arith, ap, ◌∙◌, ⊎_elim, Some, None, is_some, get_or, subst, slice_get}
use Rattle.std.specs.declared.option.Option.{Option}
use Rattle.std.proofs.lemmas.Bool.{cases_Bool, lt-ltb, le-ltb, ltb-true, ltb-false}
use Rattle.sq_machine.specs.Channels.{channel_name, least_free, settled, times_open}
use Rattle.sq_channel.proofs.RisingLaws.{above_more, if_false, if_true}
use Rattle.sq_machine.specs.Living.{asked_row, find_proc, free_numbers, has_free, lives, living_number, sent, settled_in, some_free, target, times_in, with_proc, without, Living}
use Rattle.sq_machine.specs.Rising.{AreAbove, Rises, place_among}

-- each process has a number below k
abbrev pub Lower : ℕ → List Living → Type 0
Lower k [] = Unit {0}
Lower k (r ∷ rows) = (r.number < k) × Lower k rows

-- each process has a number above k
abbrev pub Higher : ℕ → List Living → Type 0
Higher k rows = AreAbove k (map living_number rows)

-- process k, those before it, and those after it
pub record Around (k : ℕ) (rows : List Living) : Type 0 where
  pub before : List Living
  pub row : Living
  pub after : List Living
  pub are : rows ≡ before ++ row ∷ after
  pub number : row.number ≡ k
  pub lower : Lower k before
  pub higher : Higher k after

pub equal : (a b : ℕ) → (a == b) ≡ true → a ≡ b
equal a b e = grind (arith, e)

pub apart : (a b : ℕ) → a < b → (b == a) ≡ false
apart a b l = grind (arith, l)

pub apart_up : (a b : ℕ) → b < a → (b == a) ≡ false
apart_up a b l = grind (arith, l)

pub same : (a b : ℕ) → a ≡ b → (b == a) ≡ true
same a b e = grind (arith, e)

-- a row that was opened is the one at its place
pub viewed : (rows : List Living) (i j : ℕ) (x y : Living) → x ≡ y → y ≡ get_or rows i y → i ≡ j → x ≡ get_or rows j x
viewed rows i j x y v at p = v ∙ at ∙ ap (λ k. get_or rows k y) p ∙ ap (get_or rows j) (sym v)

-- who lives among processes above j has a number above j
pub lives_above : (j k : ℕ) (rows : List Living) → Higher j rows → lives k rows ≡ true → j < k
lives_above j k [] a e = absurd cc
lives_above j k (r ∷ rows) a e =
    ⊎_elim (λ y. rw (equal k r.number y) a.0)
    (λ y. lives_above j k rows a.1
    (sym (ap is_some (if_false (k == r.number) (Some r.process) (find_proc k rows) y)) ∙ e))
    (cases_Bool (k == r.number))

pub around : (k : ℕ) (rows : List Living) → Rises (map living_number rows) → lives k rows ≡ true → Around k rows
around k [] rises e = absurd cc
around k (r ∷ rows) rises e =
    ⊎_elim (λ y. here (equal k r.number y))
    (λ y. there (sym (ap is_some (if_false (k == r.number) (Some r.process) (find_proc k rows) y)) ∙ e)
    (around k rows rises.1)) (cases_Bool (k == r.number))
  where
    here : k ≡ r.number → Around k (r ∷ rows)
    here y = record {
      before = [];
      row = r;
      after = rows;
      are = refl;
      number = sym y;
      lower = tt;
      higher = rw y rises.0;
    }

    there : lives k rows ≡ true → (lives k rows ≡ true → Around k rows) → Around k (r ∷ rows)
    there e more = let rest = more e in
        record {
          before = r ∷ rest.before;
          row = rest.row;
          after = rest.after;
          are = ap (λ z. r ∷ z) rest.are;
          number = rest.number;
          lower = (lives_above r.number k rows rises.0 e, rest.lower);
          higher = rest.higher;
        }

-- the processes below k, and those above it
pub record Gap (k : ℕ) (rows : List Living) : Type 0 where
  pub before : List Living
  pub after : List Living
  pub are : rows ≡ before ++ after
  pub lower : Lower k before
  pub higher : Higher k after

pub gap : (k : ℕ) (rows : List Living) → Rises (map living_number rows) → lives k rows ≡ false → Gap k rows
gap k [] rises e = record { before = []; after = []; are = refl; lower = tt; higher = tt }
gap k (r ∷ rows) rises e =
    ⊎_elim (λ y. absurd cc) (λ y. ⊎_elim
    (λ l. below (ltb-true r.number k l)
    (gap k rows rises.1 (sym (ap is_some (if_false (k == r.number) (Some r.process) (find_proc k rows) y)) ∙ e)))
    (λ l. above (strictly r.number k (ltb-false r.number k l) y)) (cases_Bool (nat_lt r.number k)))
    (cases_Bool (k == r.number))
  where
    strictly : (a b : ℕ) → b ≤ a → (b == a) ≡ false → b < a
    strictly a b le y = grind (arith, le, y)

    below : r.number < k → Gap k rows → Gap k (r ∷ rows)
    below l rest = record {
      before = r ∷ rest.before;
      after = rest.after;
      are = ap (λ z. r ∷ z) rest.are;
      lower = (l, rest.lower);
      higher = rest.higher;
    }

    above : k < r.number → Gap k (r ∷ rows)
    above l = record {
      before = [];
      after = r ∷ rows;
      are = refl;
      lower = tt;
      higher = (l, above_more k r.number (map living_number rows) (omega arith) rises.0);
    }

-- the place of process k
pub place_around : (k : ℕ) (before rest : List Living) → Lower k before → place_among k (map living_number rest) ≡ 0
    → place_among k (map living_number (before ++ rest)) ≡ length before
place_around k [] rest low e = e
place_around k (b ∷ before) rest low e =
    if_true (nat_lt b.number k) (suc (place_among k (map living_number (before ++ rest)))) 0 (lt-ltb b.number k low.0)
    ∙ ap suc (place_around k before rest low.1 e)

pub place_row : (k : ℕ) (r : Living) (rest : List Living) → r.number ≡ k
    → place_among k (map living_number (r ∷ rest)) ≡ 0
place_row k r rest e = if_false (nat_lt r.number k) (suc (place_among k (map living_number rest))) 0
    (le-ltb r.number k (omega (arith, e)))

pub free_append : (xs ys : List Living) → free_numbers (xs ++ ys) ≡ free_numbers xs ++ free_numbers ys
free_append [] ys = refl
free_append (x ∷ xs) ys = by_test (has_free x) (free_append xs ys)
  where
    by_test : (b : Bool) → free_numbers (xs ++ ys) ≡ free_numbers xs ++ free_numbers ys
        → (if b then x.number ∷ free_numbers (xs ++ ys) else free_numbers (xs ++ ys))
        ≡ (if b then x.number ∷ free_numbers xs else free_numbers xs) ++ free_numbers ys
    by_test true e = ap (λ z. x.number ∷ z) e
    by_test false e = e

pub free_above : (k : ℕ) (rows : List Living) → Higher k rows → AreAbove k (free_numbers rows)
free_above k [] a = tt
free_above k (r ∷ rows) a = by_test (has_free r) (free_above k rows a.1)
  where
    by_test : (b : Bool) → AreAbove k (free_numbers rows)
        → AreAbove k (if b then r.number ∷ free_numbers rows else free_numbers rows)
    by_test true more = (a.0, more)
    by_test false more = more

pub rises_free : (rows : List Living) → Rises (map living_number rows) → Rises (free_numbers rows)
rises_free [] r = tt
rises_free (x ∷ rows) r = by_test (has_free x) (rises_free rows r.1)
  where
    by_test : (b : Bool) → Rises (free_numbers rows)
        → Rises (if b then x.number ∷ free_numbers rows else free_numbers rows)
    by_test true more = (free_above x.number rows r.0, more)
    by_test false more = more

-- the place of process k among those with a free channel
pub place_free : (k : ℕ) (before : List Living) (rest : List ℕ) → Lower k before → place_among k rest ≡ 0
    → place_among k (free_numbers before ++ rest) ≡ length (free_numbers before)
place_free k [] rest low e = e
place_free k (b ∷ before) rest low e = by_test (has_free b) (place_free k before rest low.1 e)
  where
    by_test : (c : Bool) → place_among k (free_numbers before ++ rest) ≡ length (free_numbers before)
        → place_among k ((if c then b.number ∷ free_numbers before else free_numbers before) ++ rest)
        ≡ length (if c then b.number ∷ free_numbers before else free_numbers before)
    by_test true more = if_true (nat_lt b.number k) (suc (place_among k (free_numbers before ++ rest))) 0
        (lt-ltb b.number k low.0) ∙ ap suc more
    by_test false more = more

-- the first process with a free channel
pub some_free_law : (rows : List Living) → some_free rows ≡ not (length (free_numbers rows) == 0)
some_free_law [] = refl
some_free_law (r ∷ rows) = by_test (has_free r) (some_free_law rows)
  where
    by_test : (b : Bool) → some_free rows ≡ not (length (free_numbers rows) == 0)
        → (if b then true else some_free rows)
        ≡ not (length (if b then r.number ∷ free_numbers rows else free_numbers rows) == 0)
    by_test true e = grind arith
    by_test false e = e

-- the first with a free channel, and what stands around it
pub record First (rows : List Living) : Type 0 where
  pub before : List Living
  pub row : Living
  pub after : List Living
  pub are : rows ≡ before ++ row ∷ after
  pub none : free_numbers before ≡ []
  pub free : has_free row ≡ true
  pub lower : Lower row.number before

pub first : (rows : List Living) → Rises (map living_number rows) → some_free rows ≡ true → First rows
first [] rises e = absurd cc
first (r ∷ rows) rises e = ⊎_elim here
    (λ y. there y (first rows rises.1 (sym (if_false (has_free r) true (some_free rows) y) ∙ e)))
    (cases_Bool (has_free r))
  where
    here : has_free r ≡ true → First (r ∷ rows)
    here y = record { before = []; row = r; after = rows; are = refl; none = refl; free = y; lower = tt }

    higher : (n : ℕ) (before : List Living) (row : Living) (after : List Living) → Higher n (before ++ row ∷ after)
        → n < row.number
    higher n [] row after a = a.0
    higher n (b ∷ before) row after a = higher n before row after a.1

    there : has_free r ≡ false → First rows → First (r ∷ rows)
    there y rest = record {
      before = r ∷ rest.before;
      row = rest.row;
      after = rest.after;
      are = ap (λ z. r ∷ z) rest.are;
      none = if_false (has_free r) (r.number ∷ free_numbers rest.before) (free_numbers rest.before) y ∙ rest.none;
      free = rest.free;
      lower = (higher r.number rest.before rest.row rest.after (subst (Higher r.number) rest.are rises.0), rest.lower);
    }

-- what a send does to them
pub sent_first : (q : ℕ) (before : List Living) (row : Living) (after : List Living) → free_numbers before ≡ []
    → has_free row ≡ true
    → sent q (before ++ row ∷ after) ≡ before ++ asked_row q row ∷ after
sent_first q [] row after n f = if_true (has_free row) (asked_row q row ∷ after) (row ∷ sent q after) f
sent_first q (b ∷ before) row after n f = ⊎_elim (λ y. absurd cc)
    (λ y. if_false (has_free b) (asked_row q b ∷ before ++ row ∷ after) (b ∷ sent q (before ++ row ∷ after)) y
    ∙ ap (λ z. b ∷ z) (sent_first q before row after
    (sym (if_false (has_free b) (b.number ∷ free_numbers before) (free_numbers before) y) ∙ n) f))
    (cases_Bool (has_free b))

pub target_first : (before : List Living) (row : Living) (after : List Living) → free_numbers before ≡ []
    → has_free row ≡ true
    → target (before ++ row ∷ after)
    ≡ Some (row.number, channel_name row.process.numbered (least_free row.process.slots))
target_first [] row after n f = if_true (has_free row)
    (Some (row.number, channel_name row.process.numbered (least_free row.process.slots))) (target after) f
target_first (b ∷ before) row after n f = ⊎_elim (λ y. absurd cc)
    (λ y. if_false (has_free b) (Some (b.number, channel_name b.process.numbered (least_free b.process.slots)))
    (target (before ++ row ∷ after)) y
    ∙ target_first before row after
    (sym (if_false (has_free b) (b.number ∷ free_numbers before) (free_numbers before) y) ∙ n) f)
    (cases_Bool (has_free b))

pub times_around : (q : ℕ) (before : List Living) (row : Living) (after : List Living)
    → times_in q (before ++ row ∷ after) ≡ times_in q before + (times_open q row.process.slots + times_in q after)
times_around q [] row after = omega arith
times_around q (b ∷ before) row after = let r = times_around q before row after in omega arith

-- what a reply to process k does to them
pub settled_lower : (k q : ℕ) (before rest : List Living) → Lower k before
    → settled_in k q (before ++ rest) ≡ before ++ settled_in k q rest
settled_lower k q [] rest low = refl
settled_lower k q (b ∷ before) rest low = head_ (k == b.number) (apart b.number k low.0)
    ∙ ap (λ z. b ∷ z) (settled_lower k q before rest low.1)
  where
    head_ : (t : Bool) → t ≡ false
        → (if t then record b { process = record b.process { slots = settled q b.process.slots } } else b)
        ∷ settled_in k q (before ++ rest) ≡ b ∷ settled_in k q (before ++ rest)
    head_ true e = cc
    head_ false e = refl

pub settled_higher : (k q : ℕ) (after : List Living) → Higher k after → settled_in k q after ≡ after
settled_higher k q [] high = refl
settled_higher k q (b ∷ after) high = head_ (k == b.number) (apart_up b.number k high.0)
    ∙ ap (λ z. b ∷ z) (settled_higher k q after high.1)
  where
    head_ : (t : Bool) → t ≡ false
        → (if t then record b { process = record b.process { slots = settled q b.process.slots } } else b)
        ∷ settled_in k q after ≡ b ∷ settled_in k q after
    head_ true e = cc
    head_ false e = refl

pub without_lower : (k : ℕ) (before rest : List Living) → Lower k before
    → without k (before ++ rest) ≡ before ++ without k rest
without_lower k [] rest low = refl
without_lower k (b ∷ before) rest low = if_false (k == b.number) (without k (before ++ rest))
    (b ∷ without k (before ++ rest)) (apart b.number k low.0) ∙ ap (λ z. b ∷ z) (without_lower k before rest low.1)

pub without_higher : (k : ℕ) (after : List Living) → Higher k after → without k after ≡ after
without_higher k [] high = refl
without_higher k (b ∷ after) high = if_false (k == b.number) (without k after) (b ∷ without k after)
    (apart_up b.number k high.0) ∙ ap (λ z. b ∷ z) (without_higher k after high.1)

pub find_lower : (k : ℕ) (before rest : List Living) → Lower k before → find_proc k (before ++ rest) ≡ find_proc k rest
find_lower k [] rest low = refl
find_lower k (b ∷ before) rest low = if_false (k == b.number) (Some b.process) (find_proc k (before ++ rest))
    (apart b.number k low.0) ∙ find_lower k before rest low.1

pub with_lower : (p : Living) (before rest : List Living) → Lower p.number before
    → with_proc p (before ++ rest) ≡ before ++ with_proc p rest
with_lower p [] rest low = refl
with_lower p (b ∷ before) rest low = if_true (nat_lt b.number p.number) (b ∷ with_proc p (before ++ rest))
    (p ∷ b ∷ (before ++ rest)) (lt-ltb b.number p.number low.0) ∙ ap (λ z. b ∷ z) (with_lower p before rest low.1)

pub with_higher : (p : Living) (after : List Living) → Higher p.number after → with_proc p after ≡ p ∷ after
with_higher p [] high = refl
with_higher p (b ∷ after) high = if_false (nat_lt b.number p.number) (b ∷ with_proc p after) (p ∷ b ∷ after)
    (le-ltb b.number p.number (omega (arith, high.0)))

-- numbers that rise, around a place
pub rises_without : (before : List Living) (row : Living) (after : List Living)
    → Rises (map living_number (before ++ row ∷ after)) → Rises (map living_number (before ++ after))
rises_without [] row after r = r.1
rises_without (b ∷ before) row after r = (less b.number before row after r.0, rises_without before row after r.1)
  where
    less : (n : ℕ) (before : List Living) (row : Living) (after : List Living) → Higher n (before ++ row ∷ after)
        → Higher n (before ++ after)
    less n [] row after a = a.1
    less n (b ∷ before) row after a = (a.0, less n before row after a.1)

pub rises_with : (p : Living) (before after : List Living) → Lower p.number before → Higher p.number after
    → Rises (map living_number (before ++ after)) → Rises (map living_number (before ++ p ∷ after))
rises_with p [] after low high r = (high, r)
rises_with p (b ∷ before) after low high r = (
  more b.number before after low.0 r.0,
  rises_with p before after low.1 high r.1,
)
  where
    more : (n : ℕ) (before after : List Living) → n < p.number → Higher n (before ++ after)
        → Higher n (before ++ p ∷ after)
    more n [] after l a = (l, a)
    more n (b ∷ before) after l a = (a.0, more n before after l a.1)

pub rises_same : (before : List Living) (row row' : Living) (after : List Living) → row'.number ≡ row.number
    → Rises (map living_number (before ++ row ∷ after)) → Rises (map living_number (before ++ row' ∷ after))
rises_same before row row' after e r = subst Rises (numbers before) r
  where
    numbers : (before : List Living)
        → map living_number (before ++ row ∷ after) ≡ map living_number (before ++ row' ∷ after)
    numbers [] = ap (λ n. n ∷ map living_number after) (sym e)
    numbers (b ∷ before) = ap (λ z. b.number ∷ z) (numbers before)

-- what the place holds tells whether k lives
abbrev pub number_is : ℕ → Option Living → Bool
number_is k None = false
number_is k (Some r) = k == r.number

pub lives_place : (k : ℕ) (rows : List Living) → Rises (map living_number rows)
    → lives k rows ≡ number_is k (slice_get rows (place_among k (map living_number rows)))
lives_place k [] rises = refl
lives_place k (r ∷ rows) rises =
    ⊎_elim (λ y. less (ltb-true r.number k y) y (lives_place k rows rises.1))
    (λ y. ⊎_elim (λ e. here (ltb-false r.number k y) y e)
    (λ e. more (strictly k r.number (ltb-false r.number k y) e) y e) (cases_Bool (k == r.number)))
    (cases_Bool (nat_lt r.number k))
  where
    strictly : (a b : ℕ) → a ≤ b → (a == b) ≡ false → a < b
    strictly a b le e = grind (arith, le, e)

    nobody : (rows : List Living) → Higher k rows → lives k rows ≡ false
    nobody rows high = ⊎_elim (λ y. absurd (omega (arith, lives_above k k rows high y))) (λ y. y)
        (cases_Bool (lives k rows))

    at_ : (n : ℕ) → place_among k (map living_number (r ∷ rows)) ≡ n
        → number_is k (slice_get (r ∷ rows) (place_among k (map living_number (r ∷ rows))))
        ≡ number_is k (slice_get (r ∷ rows) n)
    at_ n e = ap (λ i. number_is k (slice_get (r ∷ rows) i)) e

    less : r.number < k → nat_lt r.number k ≡ true
        → lives k rows ≡ number_is k (slice_get rows (place_among k (map living_number rows)))
        → lives k (r ∷ rows) ≡ number_is k (slice_get (r ∷ rows) (place_among k (map living_number (r ∷ rows))))
    less l y e = ap is_some (if_false (k == r.number) (Some r.process) (find_proc k rows) (apart r.number k l)) ∙ e
        ∙ sym (at_ (suc (place_among k (map living_number rows)))
        (if_true (nat_lt r.number k) (suc (place_among k (map living_number rows))) 0 y))

    here : k ≤ r.number → nat_lt r.number k ≡ false → (k == r.number) ≡ true
        → lives k (r ∷ rows) ≡ number_is k (slice_get (r ∷ rows) (place_among k (map living_number (r ∷ rows))))
    here l y e = ap is_some (if_true (k == r.number) (Some r.process) (find_proc k rows) e)
        ∙ sym (at_ 0 (if_false (nat_lt r.number k) (suc (place_among k (map living_number rows))) 0 y) ∙ e)

    more : k < r.number → nat_lt r.number k ≡ false → (k == r.number) ≡ false
        → lives k (r ∷ rows) ≡ number_is k (slice_get (r ∷ rows) (place_among k (map living_number (r ∷ rows))))
    more l y e = ap is_some (if_false (k == r.number) (Some r.process) (find_proc k rows) e)
        ∙ nobody rows (above_more k r.number (map living_number rows) (omega arith) rises.0)
        ∙ sym (at_ 0 (if_false (nat_lt r.number k) (suc (place_among k (map living_number rows))) 0 y) ∙ e)
