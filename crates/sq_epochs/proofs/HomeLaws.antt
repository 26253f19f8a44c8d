-- Laws of homes and of due stops by number.
use Rattle.std.proofs.Common.{◌≡◌, ℕ, suc, ◌+◌, ◌≤◌, ◌<◌, List, [], ◌∷◌, ◌++◌, map, length, Bool, true, false, not, cond, ◌||◌, if◌then◌else◌, nat_lt, ◌==◌, refl, sym, subst, arith, ap, ◌∙◌, Some, None, is_some}
use Rattle.std.specs.List.{insert, remove}
use Rattle.std.specs.Option.{option_or}
use Rattle.std.specs.declared.option.Option.{Option}
use Rattle.std.proofs.lemmas.Bool.{lt-ltb, le-ltb}
use Rattle.sq_channel.proofs.RisingLaws.{if_false, if_true, rises_insert}
use Rattle.sq_machine.specs.DueActs.{ClassId}
use Rattle.sq_machine.specs.Rising.{AreAbove, AreBelow, Rises, place_among, times_of}
use Rattle.sq_epochs.specs.HomeStates.{AreHomes, Home, home_in, home_number, is_among, is_of_epoch, other_homes, procs_of, with_number, with_numbers, without_home}

equal : (a b : ℕ) → (a == b) ≡ true → a ≡ b
equal a b e = grind (arith, e)

same : (a b : ℕ) → a ≡ b → (a == b) ≡ true
same a b e = grind (arith, e)

apart : (a b : ℕ) → a < b → (a == b) ≡ false
apart a b l = grind (arith, l)

turned : (a b : ℕ) → (a == b) ≡ (b == a)
turned a b = grind arith

-- a number put to the place that was found
pub insert_number : (k : ℕ) (ns : List ℕ) → insert ns (place_among k ns) k ≡ with_number k ns
insert_number k [] = refl
insert_number k (n ∷ ns) = by_test (nat_lt n k) (insert_number k ns)
  where
    by_test : (b : Bool) → insert ns (place_among k ns) k ≡ with_number k ns
        → insert (n ∷ ns) (if b then suc (place_among k ns) else 0) k ≡ (if b then n ∷ with_number k ns else k ∷ n ∷ ns)
    by_test true e = ap (λ z. n ∷ z) e
    by_test false e = refl

pub length_with : (k : ℕ) (ns : List ℕ) → length (with_number k ns) ≡ suc (length ns)
length_with k [] = refl
length_with k (n ∷ ns) = by_test (nat_lt n k) (length_with k ns)
  where
    by_test : (b : Bool) → length (with_number k ns) ≡ suc (length ns)
        → length (if b then n ∷ with_number k ns else k ∷ n ∷ ns) ≡ suc (suc (length ns))
    by_test true e = ap suc e
    by_test false e = refl

-- how often a number stands among them then
pub times_with : (j k : ℕ) (ns : List ℕ)
    → times_of j (with_number k ns) ≡ (if j == k then suc (times_of j ns) else times_of j ns)
times_with j k [] = refl
times_with j k (n ∷ ns) = front (nat_lt n k) ∙ by_test (nat_lt n k) (j == n) (j == k) (times_with j k ns)
  where
    front : (b : Bool) → times_of j (if b then n ∷ with_number k ns else k ∷ n ∷ ns)
        ≡ (if b then (if j == n then suc (times_of j (with_number k ns)) else times_of j (with_number k ns))
        else (if j == k then suc (times_of j (n ∷ ns)) else times_of j (n ∷ ns)))
    front true = refl
    front false = refl

    by_test : (b d e : Bool) → times_of j (with_number k ns) ≡ (if e then suc (times_of j ns) else times_of j ns)
        → (if b then (if d then suc (times_of j (with_number k ns)) else times_of j (with_number k ns))
        else (if e then suc (if d then suc (times_of j ns) else times_of j ns)
        else (if d then suc (times_of j ns) else times_of j ns)))
        ≡ (if e then suc (if d then suc (times_of j ns) else times_of j ns)
        else (if d then suc (times_of j ns) else times_of j ns))
    by_test false d e h = refl
    by_test true true true h = ap suc h
    by_test true true false h = ap suc h
    by_test true false true h = h
    by_test true false false h = h

-- whether it stands among them
pub among_with : (j k : ℕ) (ns : List ℕ) → is_among j (with_number k ns) ≡ (j == k || is_among j ns)
among_with j k [] = refl
among_with j k (n ∷ ns) = front (nat_lt n k)
    ∙ by_test (nat_lt n k) (j == n) (j == k) (is_among j ns) (is_among j (with_number k ns)) (among_with j k ns)
  where
    front : (b : Bool) → is_among j (if b then n ∷ with_number k ns else k ∷ n ∷ ns)
        ≡ (if b then (j == n || is_among j (with_number k ns)) else (j == k || (j == n || is_among j ns)))
    front true = refl
    front false = refl

    by_test : (b d e f g : Bool) → g ≡ (e || f) → (if b then (d || g) else (e || (d || f))) ≡ (e || (d || f))
    by_test false d e f g h = refl
    by_test true true true f g h = refl
    by_test true true false f g h = refl
    by_test true false e f g h = h

pub among_all : (j : ℕ) (ks ns : List ℕ) → is_among j (with_numbers ks ns) ≡ (is_among j ks || is_among j ns)
among_all j [] ns = refl
among_all j (k ∷ ks) ns = among_all j ks (with_number k ns) ∙ ap (λ z. is_among j ks || z) (among_with j k ns)
    ∙ moved (is_among j ks) (j == k) (is_among j ns)
  where
    moved : (a b d : Bool) → (a || (b || d)) ≡ ((b || a) || d)
    moved true true d = refl
    moved true false d = refl
    moved false true d = refl
    moved false false d = refl

pub below_with : (m k : ℕ) (ns : List ℕ) → k < m → AreBelow m ns → AreBelow m (with_number k ns)
below_with m k [] l a = (l, tt)
below_with m k (n ∷ ns) l a = by_test (nat_lt n k) (below_with m k ns l a.1)
  where
    by_test : (b : Bool) → AreBelow m (with_number k ns) → AreBelow m (if b then n ∷ with_number k ns else k ∷ n ∷ ns)
    by_test true more = (a.0, more)
    by_test false more = (l, a)

pub below_all : (m : ℕ) (ks ns : List ℕ) → AreBelow m ks → AreBelow m ns → AreBelow m (with_numbers ks ns)
below_all m [] ns a b = b
below_all m (k ∷ ks) ns a b = below_all m ks (with_number k ns) a.1 (below_with m k ns a.0 b)

pub above_with : (m k : ℕ) (ns : List ℕ) → m < k → AreAbove m ns → AreAbove m (with_number k ns)
above_with m k [] l a = (l, tt)
above_with m k (n ∷ ns) l a = by_test (nat_lt n k) (above_with m k ns l a.1)
  where
    by_test : (b : Bool) → AreAbove m (with_number k ns) → AreAbove m (if b then n ∷ with_number k ns else k ∷ n ∷ ns)
    by_test true more = (a.0, more)
    by_test false more = (l, a)

pub above_all : (m : ℕ) (ks ns : List ℕ) → AreAbove m ks → AreAbove m ns → AreAbove m (with_numbers ks ns)
above_all m [] ns a b = b
above_all m (k ∷ ks) ns a b = above_all m ks (with_number k ns) a.1 (above_with m k ns a.0 b)

-- the processes of an epoch, one home further
pub procs_step : (e : ℕ) (h : Home) (hs : List Home) (ns : List ℕ)
    → with_numbers (procs_of e (h ∷ hs)) ns
    ≡ with_numbers (procs_of e hs) (if is_of_epoch e h then with_number h.proc ns else ns)
procs_step e h hs ns = by_test (is_of_epoch e h)
  where
    by_test : (b : Bool) → with_numbers (if b then h.proc ∷ procs_of e hs else procs_of e hs) ns
        ≡ with_numbers (procs_of e hs) (if b then with_number h.proc ns else ns)
    by_test true = refl
    by_test false = refl

-- who has a home among homes above j has a number above j
pub home_above : (j k : ℕ) (hs : List Home) → AreAbove j (map home_number hs) → is_some (home_in k hs) ≡ true → j < k
home_above j k [] a is = absurd cc
home_above j k (h ∷ hs) a is = by_test (k == h.proc) refl is (home_above j k hs a.1)
  where
    by_test : (b : Bool) → (k == h.proc) ≡ b → is_some (if b then Some h.place else home_in k hs) ≡ true
        → (is_some (home_in k hs) ≡ true → j < k) → j < k
    by_test true t is more = let e = equal k h.proc t in let l = a.0 in omega arith
    by_test false t is more = more is

-- where the first home is of process h, each later one is of another
pub home_first : (h : Home) (hs : List Home) → is_some (home_in h.proc (h ∷ hs)) ≡ true
home_first h hs = ap is_some (if_true (h.proc == h.proc) (Some h.place) (home_in h.proc hs) (same h.proc h.proc refl))

pub home_later : (k : ℕ) (h : Home) (hs : List Home) → Rises (map home_number (h ∷ hs)) → is_some (home_in k hs) ≡ true
    → ((k == h.proc) ≡ false) × (home_in k (h ∷ hs) ≡ home_in k hs)
home_later k h hs r is =
    let l = home_above h.proc k hs r.0 is in
    let other : (k == h.proc) ≡ false = turned k h.proc ∙ apart h.proc k l in
    (other, if_false (k == h.proc) (Some h.place) (home_in k hs) other)

-- a stop more, or none: the processes behind it are still without one
pub apart_step : (h : Home) (hs : List Home) (ns : List ℕ) (b : Bool) → Rises (map home_number (h ∷ hs))
    → ((k : ℕ) → is_some (home_in k (h ∷ hs)) ≡ true → times_of k ns ≡ 0)
    → (k : ℕ) → is_some (home_in k hs) ≡ true → times_of k (if b then with_number h.proc ns else ns) ≡ 0
apart_step h hs ns b r none k is = by_test b
  where
    later : ((k == h.proc) ≡ false) × (home_in k (h ∷ hs) ≡ home_in k hs)
    later = home_later k h hs r is

    before : times_of k ns ≡ 0
    before = none k (ap is_some later.1 ∙ is)

    by_test : (b : Bool) → times_of k (if b then with_number h.proc ns else ns) ≡ 0
    by_test true = times_with k h.proc ns ∙ if_false (k == h.proc) (suc (times_of k ns)) (times_of k ns) later.0
        ∙ before
    by_test false = before

pub length_if : (b : Bool) (k : ℕ) (ns : List ℕ) → length (if b then with_number k ns else ns) ≤ suc (length ns)
length_if true k ns = let e = length_with k ns in omega arith
length_if false k ns = omega arith

pub below_more : (m n : ℕ) (ks : List ℕ) → m ≤ n → AreBelow m ks → AreBelow n ks
below_more m n [] l a = tt
below_more m n (k ∷ ks) l a = (let b = a.0 in omega arith, below_more m n ks l a.1)

-- what all are below, and what all are above, stands nowhere
pub times_below : (k : ℕ) (ns : List ℕ) → AreBelow k ns → times_of k ns ≡ 0
times_below k [] a = refl
times_below k (n ∷ ns) a = if_false (k == n) (suc (times_of k ns)) (times_of k ns) (turned k n ∙ apart n k a.0)
    ∙ times_below k ns a.1

pub times_above : (k : ℕ) (ns : List ℕ) → AreAbove k ns → times_of k ns ≡ 0
times_above k [] a = refl
times_above k (n ∷ ns) a = if_false (k == n) (suc (times_of k ns)) (times_of k ns) (apart k n a.0)
    ∙ times_above k ns a.1

-- who has a home among homes below m has a number below m
pub home_below : (m k : ℕ) (hs : List Home) → AreBelow m (map home_number hs) → is_some (home_in k hs) ≡ true → k < m
home_below m k [] a is = absurd cc
home_below m k (h ∷ hs) a is = by_test (k == h.proc) refl is (home_below m k hs a.1)
  where
    by_test : (b : Bool) → (k == h.proc) ≡ b → is_some (if b then Some h.place else home_in k hs) ≡ true
        → (is_some (home_in k hs) ≡ true → k < m) → k < m
    by_test true t is more = let e = equal k h.proc t in let l = a.0 in omega arith
    by_test false t is more = more is

-- a home more at the end
pub above_push : (j : ℕ) (h : Home) (hs : List Home) → j < h.proc → AreAbove j (map home_number hs)
    → AreAbove j (map home_number (hs ++ h ∷ []))
above_push j h [] l a = (l, tt)
above_push j h (x ∷ hs) l a = (a.0, above_push j h hs l a.1)

pub rises_push : (h : Home) (hs : List Home) → AreBelow h.proc (map home_number hs) → Rises (map home_number hs)
    → Rises (map home_number (hs ++ h ∷ []))
rises_push h [] b r = (tt, tt)
rises_push h (x ∷ hs) b r = (above_push x.proc h hs b.0 r.0, rises_push h hs b.1 r.1)

pub below_push : (m : ℕ) (h : Home) (hs : List Home) → h.proc < m → AreBelow m (map home_number hs)
    → AreBelow m (map home_number (hs ++ h ∷ []))
below_push m h [] l b = (l, tt)
below_push m h (x ∷ hs) l b = (b.0, below_push m h hs l b.1)

pub home_push : (k : ℕ) (h : Home) (hs : List Home)
    → home_in k (hs ++ h ∷ []) ≡ option_or (home_in k hs) (if k == h.proc then Some h.place else None)
home_push k h [] = refl
home_push k h (x ∷ hs) = by_test (k == x.proc) (home_push k h hs)
  where
    by_test : (b : Bool) → home_in k (hs ++ h ∷ [])
        ≡ option_or (home_in k hs) (if k == h.proc then Some h.place else None)
        → (if b then Some x.place else home_in k (hs ++ h ∷ []))
        ≡ option_or (if b then Some x.place else home_in k hs) (if k == h.proc then Some h.place else None)
    by_test true more = refl
    by_test false more = more

pub homes_more : (g n : ℕ) (hs : List Home) (ss : List ℕ) (p : ClassId) → n ≡ suc g → AreHomes g hs ss
    → AreHomes n (hs ++ record { proc = n; place = p } ∷ []) ss
homes_more g n hs ss p e are = record {
  rise = rises_push h hs (below_more (suc g) n (map home_number hs) (omega (arith, e)) are.born) are.rise;
  above = above_push 0 h hs (omega (arith, e)) are.above;
  born = below_push (suc n) h hs (omega arith)
      (below_more (suc g) (suc n) (map home_number hs) (omega (arith, e)) are.born);
  stops_rise = are.stops_rise;
  stops_above = are.stops_above;
  stops_born = below_more (suc g) (suc n) ss (omega (arith, e)) are.stops_born;
  apart = λ k is. by_test k (k == n) refl (home_in k hs) refl (ap is_some (sym (home_push k h hs)) ∙ is);
}
  where
    h : Home
    h = record { proc = n; place = p }

    nowhere : times_of n ss ≡ 0
    nowhere = times_below n ss (below_more (suc g) n ss (omega (arith, e)) are.stops_born)

    by_test : (k : ℕ) (b : Bool) → (k == n) ≡ b → (o : Option ClassId) → home_in k hs ≡ o
        → is_some (option_or o (if b then Some p else None)) ≡ true → times_of k ss ≡ 0
    by_test k b t (Some x) o is = are.apart k (ap is_some o)
    by_test k true t None o is = ap (λ z. times_of z ss) (equal k n t) ∙ nowhere
    by_test k false t None o is = absurd cc

-- a process that stands at its place, taken out
pub without_above : (k j : ℕ) (hs : List Home) → k ≤ j → AreAbove j (map home_number hs) → without_home k hs ≡ hs
without_above k j [] l a = refl
without_above k j (h ∷ hs) l a =
    let low = a.0 in
    if_false (k == h.proc) (without_home k hs) (h ∷ without_home k hs) (apart k h.proc (omega arith))
    ∙ ap (λ z. h ∷ z) (without_above k j hs l a.1)

pub record Taken (k : ℕ) (hs : List Home) : Type 0 where
  pub within : place_among k (map home_number hs) < length hs
  pub rows_are : remove hs (place_among k (map home_number hs)) ≡ without_home k hs
  pub fewer : suc (length (without_home k hs)) ≡ length hs

pub taken : (k : ℕ) (hs : List Home) → Rises (map home_number hs) → is_some (home_in k hs) ≡ true → Taken k hs
taken k [] r is = absurd cc
taken k (h ∷ hs) r is = by_test (k == h.proc) refl is (taken k hs r.1)
  where
    by_test : (b : Bool) → (k == h.proc) ≡ b → is_some (if b then Some h.place else home_in k hs) ≡ true
        → (is_some (home_in k hs) ≡ true → Taken k hs) → Taken k (h ∷ hs)
    by_test true t is more =
        let e : k ≡ h.proc = equal k h.proc t in
        let place : place_among k (map home_number (h ∷ hs)) ≡ 0 =
        if_false (nat_lt h.proc k) (suc (place_among k (map home_number hs))) 0 (le-ltb h.proc k (omega arith)) in
        let left : without_home k (h ∷ hs) ≡ hs = if_true (k == h.proc) (without_home k hs) (h ∷ without_home k hs) t
        ∙ without_above k h.proc hs (omega arith) r.0 in
        record {
          within = omega (arith, place);
          rows_are = ap (remove (h ∷ hs)) place ∙ sym left;
          fewer = ap (λ z. suc (length z)) left;
        }
    by_test false t is more =
        let rest = more is in
        let low = home_above h.proc k hs r.0 is in
        let place : place_among k (map home_number (h ∷ hs)) ≡ suc (place_among k (map home_number hs)) =
        if_true (nat_lt h.proc k) (suc (place_among k (map home_number hs))) 0 (lt-ltb h.proc k low) in
        let left : without_home k (h ∷ hs) ≡ h ∷ without_home k hs =
        if_false (k == h.proc) (without_home k hs) (h ∷ without_home k hs) t in
        record {
          within = let w = rest.within in omega (arith, place);
          rows_are = ap (remove (h ∷ hs)) place ∙ ap (λ z. h ∷ z) rest.rows_are ∙ sym left;
          fewer = ap (λ z. suc (length z)) left ∙ ap suc rest.fewer;
        }

pub above_without : (j k : ℕ) (hs : List Home) → AreAbove j (map home_number hs)
    → AreAbove j (map home_number (without_home k hs))
above_without j k [] a = tt
above_without j k (h ∷ hs) a = by_test (k == h.proc) (above_without j k hs a.1)
  where
    by_test : (b : Bool) → AreAbove j (map home_number (without_home k hs))
        → AreAbove j (map home_number (if b then without_home k hs else h ∷ without_home k hs))
    by_test true more = more
    by_test false more = (a.0, more)

pub rises_without : (k : ℕ) (hs : List Home) → Rises (map home_number hs) → Rises (map home_number (without_home k hs))
rises_without k [] r = tt
rises_without k (h ∷ hs) r = by_test (k == h.proc) (rises_without k hs r.1)
  where
    by_test : (b : Bool) → Rises (map home_number (without_home k hs))
        → Rises (map home_number (if b then without_home k hs else h ∷ without_home k hs))
    by_test true more = more
    by_test false more = (above_without h.proc k hs r.0, more)

pub below_without : (m k : ℕ) (hs : List Home) → AreBelow m (map home_number hs)
    → AreBelow m (map home_number (without_home k hs))
below_without m k [] a = tt
below_without m k (h ∷ hs) a = by_test (k == h.proc) (below_without m k hs a.1)
  where
    by_test : (b : Bool) → AreBelow m (map home_number (without_home k hs))
        → AreBelow m (map home_number (if b then without_home k hs else h ∷ without_home k hs))
    by_test true more = more
    by_test false more = (a.0, more)

-- where a process has its home then
pub home_without : (j k : ℕ) (hs : List Home) → home_in j (without_home k hs) ≡ (if k == j then None else home_in j hs)
home_without j k [] = both (k == j)
  where
    both : (b : Bool) → ◌≡◌ {A = Option ClassId} None (if b then None else None)
    both true = refl
    both false = refl
home_without j k (h ∷ hs) = by_test (k == h.proc) refl (j == h.proc) refl (home_without j k hs)
  where
    by_test : (b : Bool) → (k == h.proc) ≡ b → (d : Bool) → (j == h.proc) ≡ d
        → home_in j (without_home k hs) ≡ (if k == j then None else home_in j hs)
        → home_in j (if b then without_home k hs else h ∷ without_home k hs)
        ≡ (if k == j then None else (if d then Some h.place else home_in j hs))
    by_test true t true s more =
        let one : (k == j) ≡ true = same k j (equal k h.proc t ∙ sym (equal j h.proc s)) in
        more ∙ if_true (k == j) None (home_in j hs) one ∙ sym (if_true (k == j) None (Some h.place) one)
    by_test true t false s more = more
    by_test false t true s more =
        let other : (k == j) ≡ false = ap (λ n. k == n) (equal j h.proc s) ∙ t in
        if_true (j == h.proc) (Some h.place) (home_in j (without_home k hs)) s
        ∙ sym (if_false (k == j) None (Some h.place) other)
    by_test false t false s more = if_false (j == h.proc) (Some h.place) (home_in j (without_home k hs)) s ∙ more

-- numbers with one more that stands nowhere among them rise
pub rises_more : (k : ℕ) (ns : List ℕ) → times_of k ns ≡ 0 → Rises ns → Rises (with_number k ns)
rises_more k ns none r = subst Rises (insert_number k ns) (rises_insert k ns none r)

pub rises_if : (due : Bool) (k : ℕ) (ns : List ℕ) → times_of k ns ≡ 0 → Rises ns
    → Rises (if due then with_number k ns else ns)
rises_if true k ns none r = rises_more k ns none r
rises_if false k ns none r = r

below_if : (due : Bool) (m k : ℕ) (ns : List ℕ) → k < m → AreBelow m ns
    → AreBelow m (if due then with_number k ns else ns)
below_if true m k ns l a = below_with m k ns l a
below_if false m k ns l a = a

above_if : (due : Bool) (m k : ℕ) (ns : List ℕ) → m < k → AreAbove m ns
    → AreAbove m (if due then with_number k ns else ns)
above_if true m k ns l a = above_with m k ns l a
above_if false m k ns l a = a

times_if : (due : Bool) (j k : ℕ) (ns : List ℕ) → (j == k) ≡ false
    → times_of j (if due then with_number k ns else ns) ≡ times_of j ns
times_if true j k ns e = times_with j k ns ∙ if_false (j == k) (suc (times_of j ns)) (times_of j ns) e
times_if false j k ns e = refl

pub homes_less : (g k : ℕ) (hs : List Home) (ss : List ℕ) (due : Bool) → AreHomes g hs ss
    → is_some (home_in k hs) ≡ true → AreHomes g (without_home k hs) (if due then with_number k ss else ss)
homes_less g k hs ss due are is = record {
  rise = rises_without k hs are.rise;
  above = above_without 0 k hs are.above;
  born = below_without (suc g) k hs are.born;
  stops_rise = rises_if due k ss (are.apart k is) are.stops_rise;
  stops_above = above_if due 0 k ss (home_above 0 k hs are.above is) are.stops_above;
  stops_born = below_if due (suc g) k ss (home_below (suc g) k hs are.born is) are.stops_born;
  apart = λ j at. by_test j (k == j) refl (ap is_some (sym (home_without j k hs)) ∙ at);
}
  where
    by_test : (j : ℕ) (b : Bool) → (k == j) ≡ b → is_some (if b then None else home_in j hs) ≡ true
        → times_of j (if due then with_number k ss else ss) ≡ 0
    by_test j true t at = absurd cc
    by_test j false t at = times_if due j k ss (turned j k ∙ t) ∙ are.apart j at

-- the homes of other epochs
pub above_other : (j e : ℕ) (hs : List Home) → AreAbove j (map home_number hs)
    → AreAbove j (map home_number (other_homes e hs))
above_other j e [] a = tt
above_other j e (h ∷ hs) a = by_test (is_of_epoch e h) (above_other j e hs a.1)
  where
    by_test : (b : Bool) → AreAbove j (map home_number (other_homes e hs))
        → AreAbove j (map home_number (cond (not b) (h ∷ other_homes e hs) (other_homes e hs)))
    by_test true more = more
    by_test false more = (a.0, more)

pub rises_other : (e : ℕ) (hs : List Home) → Rises (map home_number hs) → Rises (map home_number (other_homes e hs))
rises_other e [] r = tt
rises_other e (h ∷ hs) r = by_test (is_of_epoch e h) (rises_other e hs r.1)
  where
    by_test : (b : Bool) → Rises (map home_number (other_homes e hs))
        → Rises (map home_number (cond (not b) (h ∷ other_homes e hs) (other_homes e hs)))
    by_test true more = more
    by_test false more = (above_other h.proc e hs r.0, more)

pub below_other : (m e : ℕ) (hs : List Home) → AreBelow m (map home_number hs)
    → AreBelow m (map home_number (other_homes e hs))
below_other m e [] a = tt
below_other m e (h ∷ hs) a = by_test (is_of_epoch e h) (below_other m e hs a.1)
  where
    by_test : (b : Bool) → AreBelow m (map home_number (other_homes e hs))
        → AreBelow m (map home_number (cond (not b) (h ∷ other_homes e hs) (other_homes e hs)))
    by_test true more = more
    by_test false more = (a.0, more)

above_procs : (j e : ℕ) (hs : List Home) → AreAbove j (map home_number hs) → AreAbove j (procs_of e hs)
above_procs j e [] a = tt
above_procs j e (h ∷ hs) a = by_test (is_of_epoch e h) (above_procs j e hs a.1)
  where
    by_test : (b : Bool) → AreAbove j (procs_of e hs) → AreAbove j (if b then h.proc ∷ procs_of e hs else procs_of e hs)
    by_test true more = (a.0, more)
    by_test false more = more

below_procs : (m e : ℕ) (hs : List Home) → AreBelow m (map home_number hs) → AreBelow m (procs_of e hs)
below_procs m e [] a = tt
below_procs m e (h ∷ hs) a = by_test (is_of_epoch e h) (below_procs m e hs a.1)
  where
    by_test : (b : Bool) → AreBelow m (procs_of e hs) → AreBelow m (if b then h.proc ∷ procs_of e hs else procs_of e hs)
    by_test true more = (a.0, more)
    by_test false more = more

-- who has a home in another epoch is not among the processes of this one
pub times_other : (k e : ℕ) (hs : List Home) → Rises (map home_number hs)
    → is_some (home_in k (other_homes e hs)) ≡ true → times_of k (procs_of e hs) ≡ 0
times_other k e [] r is = refl
times_other k e (h ∷ hs) r is = by_epoch (is_of_epoch e h) is (times_other k e hs r.1)
  where
    by_number : (b : Bool) → (k == h.proc) ≡ b
        → is_some (if b then Some h.place else home_in k (other_homes e hs)) ≡ true
        → (is_some (home_in k (other_homes e hs)) ≡ true → times_of k (procs_of e hs) ≡ 0)
        → times_of k (procs_of e hs) ≡ 0
    by_number true t is more = times_above k (procs_of e hs)
        (above_procs k e hs (subst (λ n. AreAbove n (map home_number hs)) (sym (equal k h.proc t)) r.0))
    by_number false t is more = more is

    by_epoch : (b : Bool) → is_some (home_in k (cond (not b) (h ∷ other_homes e hs) (other_homes e hs))) ≡ true
        → (is_some (home_in k (other_homes e hs)) ≡ true → times_of k (procs_of e hs) ≡ 0)
        → times_of k (if b then h.proc ∷ procs_of e hs else procs_of e hs) ≡ 0
    by_epoch true is more =
        let l = home_above h.proc k (other_homes e hs) (above_other h.proc e hs r.0) is in
        if_false (k == h.proc) (suc (times_of k (procs_of e hs))) (times_of k (procs_of e hs))
        (turned k h.proc ∙ apart h.proc k l) ∙ more is
    by_epoch false is more = by_number (k == h.proc) refl is more

pub times_all : (j : ℕ) (ks ns : List ℕ) → times_of j (with_numbers ks ns) ≡ times_of j ks + times_of j ns
times_all j [] ns = omega arith
times_all j (k ∷ ks) ns = times_all j ks (with_number k ns) ∙ ap (λ z. times_of j ks + z) (times_with j k ns)
    ∙ by_test (j == k)
  where
    by_test : (b : Bool) → times_of j ks + (if b then suc (times_of j ns) else times_of j ns)
        ≡ (if b then suc (times_of j ks) else times_of j ks) + times_of j ns
    by_test true = omega arith
    by_test false = refl

pub length_all : (ks ns : List ℕ) → length (with_numbers ks ns) ≡ length ks + length ns
length_all [] ns = omega arith
length_all (k ∷ ks) ns = let e = length_all ks (with_number k ns) in let f = length_with k ns in omega arith

pub length_other : (e : ℕ) (hs : List Home) → length (other_homes e hs) + length (procs_of e hs) ≡ length hs
length_other e [] = omega arith
length_other e (h ∷ hs) = by_test (is_of_epoch e h) (length_other e hs)
  where
    by_test : (b : Bool) → length (other_homes e hs) + length (procs_of e hs) ≡ length hs
        → length (cond (not b) (h ∷ other_homes e hs) (other_homes e hs))
        + length (if b then h.proc ∷ procs_of e hs else procs_of e hs) ≡ suc (length hs)
    by_test true more = omega (arith, more)
    by_test false more = omega (arith, more)

-- stops with those of an epoch's processes rise
pub rises_all : (e : ℕ) (hs : List Home) (ns : List ℕ) → Rises (map home_number hs) → Rises ns
    → ((k : ℕ) → is_some (home_in k hs) ≡ true → times_of k ns ≡ 0) → Rises (with_numbers (procs_of e hs) ns)
rises_all e [] ns r s none = s
rises_all e (h ∷ hs) ns r s none =
    subst Rises (sym (procs_step e h hs ns))
    (rises_all e hs (if is_of_epoch e h then with_number h.proc ns else ns) r.1
    (rises_if (is_of_epoch e h) h.proc ns (none h.proc (home_first h hs)) s)
    (apart_step h hs ns (is_of_epoch e h) r none))

pub homes_dropped : (g e : ℕ) (hs : List Home) (ss : List ℕ) → AreHomes g hs ss
    → AreHomes g (other_homes e hs) (with_numbers (procs_of e hs) ss)
homes_dropped g e hs ss are = record {
  rise = rises_other e hs are.rise;
  above = above_other 0 e hs are.above;
  born = below_other (suc g) e hs are.born;
  stops_rise = rises_all e hs ss are.rise are.stops_rise are.apart;
  stops_above = above_all 0 (procs_of e hs) ss (above_procs 0 e hs are.above) are.stops_above;
  stops_born = below_all (suc g) (procs_of e hs) ss (below_procs (suc g) e hs are.born) are.stops_born;
  apart = λ k is. times_all k (procs_of e hs) ss
      ∙ (let a = times_other k e hs are.rise is in let b = are.apart k (home_was k e hs is) in omega arith);
}
  where
    home_was : (k e : ℕ) (hs : List Home) → is_some (home_in k (other_homes e hs)) ≡ true
        → is_some (home_in k hs) ≡ true
    home_was k e [] is = is
    home_was k e (h ∷ hs) is = by_number (k == h.proc) (is_of_epoch e h) refl is (home_was k e hs)
      where
        by_number : (b d : Bool) → (k == h.proc) ≡ b
            → is_some (home_in k (cond (not d) (h ∷ other_homes e hs) (other_homes e hs))) ≡ true
            → (is_some (home_in k (other_homes e hs)) ≡ true → is_some (home_in k hs) ≡ true)
            → is_some (if b then Some h.place else home_in k hs) ≡ true
        by_number true d t is more = refl
        by_number false true t is more = more is
        by_number false false t is more = more
            (ap is_some (sym (if_false (k == h.proc) (Some h.place) (home_in k (other_homes e hs)) t)) ∙ is)
