-- Places for the close of each open connection and the death of each living process.
use Rattle.std.proofs.Common.{◌≡◌, ◌∙◌, ◌==◌, ◌+◌, ◌-◌, ◌<◌, ℕ, suc, ◌≤◌, List, [], ◌∷◌, map, length, Bool, true, false, ◌||◌, Option, None, Some, is_some, nat_eq, if◌then◌else◌, refl, ap, sym, subst, arith}
use Rattle.std.specs.List.{AllByRecursion, IsDistinct}
use Rattle.std.specs.Set.{is_member}
use Rattle.std.proofs.lemmas.Bool.{eqb-true}
use Rattle.std.proofs.lemmas.Cmp.{nat_eq_equiv}
use Rattle.std.proofs.lemmas.Map.Keys.{IsDistinct-cons, IsDistinct-from_apart}
use Rattle.std.proofs.lemmas.Map.Made.{length-le_from_is_member}
use Rattle.sq_machine.specs.DueActs.{ClassId}
use Rattle.sq_model.specs.CheckRows.{Held}
use Rattle.sq_epochs.specs.HomeStates.{Home, home_in, home_number}
use Rattle.sq_model.specs.Changes.{if_live, with_checks}
use Rattle.sq_model.specs.States.{IsSame, State}
use Rattle.sq_engine.specs.EngineViews.{EngineView, state_of}
use Rattle.sq_notes.specs.Calling.{load_of}
use Rattle.sq_desk.specs.Desks.{HasSpare}

-- where each living process is among these, and there is a place for each of these and each connection
pub places_listed : (spare : ℕ) (s : State) (ns : List ℕ)
    → ((k : ℕ) → is_some (s.home k) ≡ true → is_member nat_eq ns k ≡ true) → s.conns + length ns ≤ spare
    → HasSpare spare s
places_listed spare s ns among room = λ ks distinct homes.
    let few : length ks ≤ length ns =
    length-le_from_is_member nat_eq_equiv ks ns distinct (λ k here. among k (homes k here)) in
    omega (arith, few, room)

-- fewer connections and processes, and as many places
pub places_fewer : (spare more : ℕ) (s t : State) → t.conns ≤ s.conns
    → ((k : ℕ) → is_some (t.home k) ≡ true → is_some (s.home k) ≡ true) → spare ≤ more → HasSpare spare s
    → HasSpare more t
places_fewer spare more s t conns homes le places = λ ks distinct here.
    let was : s.conns + length ks ≤ spare = places ks distinct (λ k m. homes k (here k m)) in
    omega (arith, was, conns, le)

-- so it is of states that are the same
pub places_same : (spare : ℕ) (s t : State) → IsSame t s → HasSpare spare s → HasSpare spare t
places_same spare s t same places =
    places_fewer spare spare s t (subst (λ (n : ℕ). n ≤ s.conns) (sym same.conns_are) (omega arith))
    (λ k e. ap is_some (sym (same.homes_are k)) ∙ e) (omega arith) places

-- the numbers of the living processes
abbrev pub procs_in : EngineView → List ℕ
procs_in v = map home_number v.epochs.homes

home_listed : (k : ℕ) (homes : List Home) → is_some (home_in k homes) ≡ true
    → is_member nat_eq (map home_number homes) k ≡ true
home_listed k [] e = absurd (cc)
home_listed k (h ∷ homes) e = by (k == h.proc) (home_listed k homes) e
  where
    by : (b : Bool) → (is_some (home_in k homes) ≡ true → is_member nat_eq (map home_number homes) k ≡ true)
        → is_some (if b then Some h.place else home_in k homes) ≡ true
        → (b || is_member nat_eq (map home_number homes) k) ≡ true
    by true more e = refl
    by false more e = more e

pub homes_listed : (v : EngineView) (k : ℕ) → is_some ((state_of v).home k) ≡ true
    → is_member nat_eq (procs_in v) k ≡ true
homes_listed v k e = home_listed k v.epochs.homes e

procs_count : (homes : List Home) → length (map home_number homes) ≡ length homes
procs_count [] = refl
procs_count (h ∷ homes) = ap suc (procs_count homes)

-- an engine whose load has places: so has a state with no more connections and processes
pub places_load : (spare : ℕ) (v : EngineView) (t : State) → t.conns ≤ (state_of v).conns
    → ((k : ℕ) → is_some (t.home k) ≡ true → is_some ((state_of v).home k) ≡ true) → load_of v ≤ spare
    → HasSpare spare t
places_load spare v t conns homes le =
    places_listed spare t (procs_in v) (λ k e. homes_listed v k (homes k e))
    (let count : length (procs_in v) ≡ length v.epochs.homes = procs_count v.epochs.homes in
    let few : t.conns ≤ length v.conns.links = conns in
    omega (arith, count, few, le))

-- one connection more
pub places_open : (spare : ℕ) (v : EngineView) (t : State) → t.conns ≡ suc (state_of v).conns
    → ((k : ℕ) → t.home k ≡ (state_of v).home k) → suc (load_of v) ≤ spare → HasSpare spare t
places_open spare v t conns homes le =
    places_listed spare t (procs_in v) (λ k e. homes_listed v k (ap is_some (sym (homes k)) ∙ e))
    (let count : length (procs_in v) ≡ length v.epochs.homes = procs_count v.epochs.homes in
    let few : t.conns ≡ suc (length v.conns.links) = conns in
    omega (arith, count, few, le))

-- one process more
pub places_started : (spare : ℕ) (v : EngineView) (t : State) (n : ℕ) (p : ClassId) → t.conns ≡ (state_of v).conns
    → ((k : ℕ) → t.home k ≡ (if k == n then Some p else (state_of v).home k))
    → suc (load_of v) ≤ spare → HasSpare spare t
places_started spare v t n p conns homes le =
    places_listed spare t (n ∷ procs_in v) (λ k e. by k (k == n) refl (ap is_some (sym (homes k)) ∙ e))
    (let count : length (procs_in v) ≡ length v.epochs.homes = procs_count v.epochs.homes in
    let few : t.conns ≡ length v.conns.links = conns in
    omega (arith, count, few, le))
  where
    by : (k : ℕ) (b : Bool) → (k == n) ≡ b → is_some (if b then Some p else (state_of v).home k) ≡ true
        → (b || is_member nat_eq (procs_in v) k) ≡ true
    by k true is e = refl
    by k false is e = homes_listed v k e

-- a connection closed, in one of the places
pub places_closed : (spare less : ℕ) (s t : State) → 0 < s.conns → t.conns ≡ s.conns - 1
    → ((k : ℕ) → is_some (t.home k) ≡ true → is_some (s.home k) ≡ true) → spare ≤ suc less → HasSpare spare s
    → HasSpare less t
places_closed spare less s t some conns homes le places = λ ks distinct here.
    let was : s.conns + length ks ≤ spare = places ks distinct (λ k m. homes k (here k m)) in
    omega (arith, was, conns, some, le)

-- a process died, in one of the places
pub places_died : (spare less k : ℕ) (s t : State) → is_some (s.home k) ≡ true → t.conns ≡ s.conns
    → ((j : ℕ) → t.home j ≡ (if k == j then None else s.home j)) → spare ≤ suc less → HasSpare spare s
    → HasSpare less t
places_died spare less k s t lives conns homes le places = λ ks distinct here.
    let was : s.conns + length (k ∷ ks) ≤ spare =
    places (k ∷ ks) (IsDistinct-cons nat_eq k ks (apart ks (λ j m. here j m)) distinct)
    (λ j m. among ks here j (nat_eq j k) refl m) in
    let more : length (k ∷ ks) ≡ suc (length ks) = refl in
    omega (arith, was, more, conns, le)
  where
    gone : (j : ℕ) → is_some (t.home j) ≡ true → (k == j) ≡ false
    gone j e = by (k == j) refl (ap is_some (sym (homes j)) ∙ e)
      where
        by : (b : Bool) → (k == j) ≡ b → is_some (if b then None else s.home j) ≡ true → b ≡ false
        by true is e = absurd (cc)
        by false is e = refl

    stays : (j : ℕ) → is_some (t.home j) ≡ true → is_some (s.home j) ≡ true
    stays j e = ap (λ (b : Bool). is_some (if b then None else s.home j)) (sym (gone j e)) ∙ ap is_some (sym (homes j))
        ∙ e

    apart : (ks : List ℕ) → ((j : ℕ) → is_member nat_eq ks j ≡ true → is_some (t.home j) ≡ true)
        → AllByRecursion (λ j. nat_eq k j ≡ false) ks
    apart [] here = tt
    apart (j ∷ ks) here = (gone j (here j (first j ks)), apart ks (λ i m. here i (later i j ks m)))
      where
        first : (j : ℕ) (ks : List ℕ) → is_member nat_eq (j ∷ ks) j ≡ true
        first j ks = ap (λ (b : Bool). b || is_member nat_eq ks j) (nat_eq_equiv.refl j)

        later : (i j : ℕ) (ks : List ℕ) → is_member nat_eq ks i ≡ true → is_member nat_eq (j ∷ ks) i ≡ true
        later i j ks m = by (nat_eq i j)
          where
            by : (b : Bool) → (b || is_member nat_eq ks i) ≡ true
            by true = refl
            by false = m

    among : (ks : List ℕ) → ((j : ℕ) → is_member nat_eq ks j ≡ true → is_some (t.home j) ≡ true) → (j : ℕ) (b : Bool)
        → nat_eq j k ≡ b → (b || is_member nat_eq ks j) ≡ true → is_some (s.home j) ≡ true
    among ks here j true is m = ap (λ (i : ℕ). is_some (s.home i)) (eqb-true j k is) ∙ lives
    among ks here j false is m = stays j (here j m)

-- a place whose epoch lives was one
pub live_home : (lives : ℕ → Bool) (p : Option ClassId) → is_some (if_live lives p) ≡ true → is_some p ≡ true
live_home lives None e = e
live_home lives (Some p) e = refl

-- where epochs end, no process is there that was not
pub homes_left : (checks : List Held) (s : State) (k : ℕ) → is_some ((with_checks checks s).home k) ≡ true
    → is_some (s.home k) ≡ true
homes_left checks s k e = live_home _ (s.home k) e

none_distinct : IsDistinct nat_eq []
none_distinct = IsDistinct-from_apart nat_eq [] (λ i j d p q. absurd (let h : j < 0 = q in omega (arith, h)))

-- there is a place for a close, where a connection is open
pub place_for_close : (spare : ℕ) (s : State) → 0 < s.conns → HasSpare spare s → 0 < spare
place_for_close spare s some places =
    let was : s.conns + 0 ≤ spare = places [] none_distinct (λ k m. absurd (cc)) in
    omega (arith, some, was)

-- there is a place for a death, where a process lives
pub place_for_death : (spare k : ℕ) (s : State) → is_some (s.home k) ≡ true → HasSpare spare s → 0 < spare
place_for_death spare k s lives places =
    let was : s.conns + 1 ≤ spare =
    places (k ∷ []) (IsDistinct-cons nat_eq k [] tt none_distinct) (λ j m. by j (nat_eq j k) refl m) in
    omega (arith, was)
  where
    by : (j : ℕ) (b : Bool) → nat_eq j k ≡ b → (b || false) ≡ true → is_some (s.home j) ≡ true
    by j true is m = ap (λ (i : ℕ). is_some (s.home i)) (eqb-true j k is) ∙ lives
    by j false is m = absurd (cc)
