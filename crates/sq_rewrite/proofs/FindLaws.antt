-- The process of a number, and the question on each of its channels,
-- before and after a send, a reply, an end and a start.
use Rattle.std.proofs.Common.{◌≡◌, ◌∙◌, ◌==◌, ◌<◌, Bool, true, false, ℕ, zero, suc, List, [], ◌∷◌, length, map, max, replicate, Option, None, Some, if◌then◌else◌, is_some, nat_lt, refl, ap, sym, arith}
use Rattle.std.proofs.lemmas.Bool.Decides.{nat_tests}
use Rattle.std.proofs.lemmas.List.{length-replicate}
use Rattle.std.specs.Option.{option_map}
use Rattle.sq_channel.proofs.SlotLaws.{length_asked, length_settled}
use Rattle.sq_machine.specs.Channels.{Channels, asked, channel_name, free_count, freed, least_free, settled, slot_at, slot_of}
use Rattle.sq_machine.specs.Farms.{AreOfClass, fresh}
use Rattle.sq_machine.specs.Living.{Living, find_proc, has_free, is_target, living_number, sent, settled_in, target, with_proc, without}
use Rattle.sq_machine.specs.Rising.{AreAbove, AreBelow, Rises}
use Rattle.sq_rewrite.specs.Transcripts.{same_channel}
use Rattle.sq_rewrite.proofs.OpenLaws.{low_target}
use Rattle.sq_rewrite.proofs.RowLaws.{apart_from, equal, itself}

-- a process with one question more, and with one less
abbrev pub asked_by : ℕ → Channels → Channels
asked_by q p = record p { slots = asked q p.slots }

abbrev pub settled_from : ℕ → Channels → Channels
settled_from q p = record p { slots = settled q p.slots }

-- after a send
pub find_sent : (j q : ℕ) (rows : List Living) → Rises (map living_number rows)
    → find_proc j (sent q rows)
    ≡ (if is_target j (target rows) then option_map (asked_by q) (find_proc j rows) else find_proc j rows)
find_sent j q [] rises = refl
find_sent j q (r ∷ rows) rises = (elim (has_free r) as
    (λ y. has_free r ≡ y → find_proc j (sent q (r ∷ rows))
    ≡ (if is_target j (target (r ∷ rows)) then option_map (asked_by q) (find_proc j (r ∷ rows))
    else find_proc j (r ∷ rows))) [
      | true ↦ λ t. rw t (here (j == r.number))
      | false ↦ λ t. rw t ((elim (j == r.number) as
          (λ y. (j == r.number) ≡ y
          → (if j == r.number then Some r.process else find_proc j (sent q rows))
          ≡ (if is_target j (target rows)
          then option_map (asked_by q) (if j == r.number then Some r.process else find_proc j rows)
          else (if j == r.number then Some r.process else find_proc j rows))) [
            | true ↦ λ u. let none : is_target j (target rows) ≡ false =
                rw (equal j r.number u) (low_target r.number rows rises.0) in rw (u, none) refl
            | false ↦ λ u. rw u (find_sent j q rows rises.1)
          ]) refl)
    ]) refl
  where
    here : (b : Bool)
        → (if b then Some (record r.process { slots = asked q r.process.slots }) else find_proc j rows)
        ≡ (if b then option_map (asked_by q) (if b then Some r.process else find_proc j rows)
        else (if b then Some r.process else find_proc j rows))
    here true = refl
    here false = refl

-- no process below all has a place
low_find : (k : ℕ) (rows : List Living) → AreAbove k (map living_number rows) → find_proc k rows ≡ None
low_find k [] a = refl
low_find k (r ∷ rows) a = rw (other k r.number a.0) (low_find k rows a.1)
  where
    other : (x y : ℕ) → x < y → (x == y) ≡ false
    other x y l = grind (arith, l)

-- the process that gets the next question
pub record TargetIs (rows : List Living) (k : ℕ) (channel : Option ℕ) : Type 0 where
  pub process : Channels
  pub found : find_proc k rows ≡ Some process
  pub free : nat_lt 0 (free_count process.slots) ≡ true
  pub channel_is : channel ≡ channel_name process.numbered (least_free process.slots)

inside : {x y : ℕ × Option ℕ} → Some x ≡ Some y → x ≡ y
inside e = cc

pub target_is : (rows : List Living) (k : ℕ) (channel : Option ℕ) → Rises (map living_number rows)
    → target rows ≡ Some (k, channel) → TargetIs rows k channel
target_is [] k channel rises e = absurd cc
target_is (r ∷ rows) k channel rises e = by_free (has_free r) refl e (λ f. target_is rows k channel rises.1 f)
  where
    first : (j : ℕ) (c : Option ℕ) → has_free r ≡ true
        → ◌≡◌ {A = ℕ × Option ℕ}
        (r.number, channel_name r.process.numbered (least_free r.process.slots)) (j, c)
        → TargetIs (r ∷ rows) j c
    first j c t p =
        let same : r.number ≡ j = ap (λ (x : ℕ × Option ℕ). x.0) p in
        record {
          process = r.process;
          found = rw (← same, itself r.number) refl;
          free = t;
          channel_is = ap (λ (x : ℕ × Option ℕ). x.1) (sym p);
        }

    later : (b : Bool) → (k == r.number) ≡ b → TargetIs rows k channel → TargetIs (r ∷ rows) k channel
    later true u t =
        let none : find_proc k rows ≡ None = rw (equal k r.number u) (low_find r.number rows rises.0) in
        absurd (let f = sym none ∙ t.found in cc)
    later false u t = record { process = t.process; found = rw u t.found; free = t.free; channel_is = t.channel_is }

    by_free : (b : Bool) → has_free r ≡ b
        → (if b then Some (r.number, channel_name r.process.numbered (least_free r.process.slots)) else target rows)
        ≡ Some (k, channel) → (target rows ≡ Some (k, channel) → TargetIs rows k channel)
        → TargetIs (r ∷ rows) k channel
    by_free true t f more = first k channel t (inside f)
    by_free false t f more = later (k == r.number) refl (more f)

-- after a reply
none_settled : (b : Bool) → ◌≡◌ {A = Option Channels} None (if b then None else None)
none_settled true = refl
none_settled false = refl

pub find_settled : (j k q : ℕ) (rows : List Living)
    → find_proc j (settled_in k q rows)
    ≡ (if j == k then option_map (settled_from q) (find_proc j rows) else find_proc j rows)
find_settled j k q [] = none_settled (j == k)
find_settled j k q (r ∷ rows) = (elim (k == r.number) as
    (λ y. (k == r.number) ≡ y
    → find_proc j (settled_in k q (r ∷ rows))
    ≡ (if j == k then option_map (settled_from q) (find_proc j (r ∷ rows)) else find_proc j (r ∷ rows))) [
      | true ↦ λ t. let same : k ≡ r.number = equal k r.number t in
          rw (t, ← same) (here (j == k) (find_settled j k q rows))
      | false ↦ λ t. rw t (there (j == r.number) (j == k) (apart_from j k r.number t) (find_settled j k q rows))
    ]) refl
  where
    here : (b : Bool) → find_proc j (settled_in k q rows)
        ≡ (if b then option_map (settled_from q) (find_proc j rows) else find_proc j rows)
        → (if b then Some (record r.process { slots = settled q r.process.slots })
        else find_proc j (settled_in k q rows))
        ≡ (if b then option_map (settled_from q) (if b then Some r.process else find_proc j rows)
        else (if b then Some r.process else find_proc j rows))
    here true e = refl
    here false e = e

    there : (d b : Bool) → (d ≡ true → b ≡ false)
        → find_proc j (settled_in k q rows)
        ≡ (if b then option_map (settled_from q) (find_proc j rows) else find_proc j rows)
        → (if d then Some r.process else find_proc j (settled_in k q rows))
        ≡ (if b then option_map (settled_from q) (if d then Some r.process else find_proc j rows)
        else (if d then Some r.process else find_proc j rows))
    there true true f e = let g = f refl in absurd cc
    there true false f e = refl
    there false b f e = e

-- after an end
pub find_without : (j k : ℕ) (rows : List Living)
    → find_proc j (without k rows) ≡ (if j == k then None else find_proc j rows)
find_without j k [] = none_settled (j == k)
find_without j k (r ∷ rows) = (elim (k == r.number) as
    (λ y. (k == r.number) ≡ y
    → find_proc j (without k (r ∷ rows)) ≡ (if j == k then None else find_proc j (r ∷ rows))) [
      | true ↦ λ t. let same : k ≡ r.number = equal k r.number t in
          rw t (find_without j k rows ∙ rw same (here (j == r.number)))
      | false ↦ λ t. rw t (there (j == r.number) (j == k) (apart_from j k r.number t) (find_without j k rows))
    ]) refl
  where
    here : (b : Bool) → (if b then None else find_proc j rows)
        ≡ (if b then None else (if b then Some r.process else find_proc j rows))
    here true = refl
    here false = refl

    there : (d b : Bool) → (d ≡ true → b ≡ false)
        → find_proc j (without k rows) ≡ (if b then None else find_proc j rows)
        → (if d then Some r.process else find_proc j (without k rows))
        ≡ (if b then None else (if d then Some r.process else find_proc j rows))
    there true true f e = let g = f refl in absurd cc
    there true false f e = refl
    there false b f e = e

-- after a start of a process whose number is above all
pub find_started : (j n k : ℕ) (rows : List Living) → AreBelow k (map living_number rows)
    → find_proc j (with_proc (fresh n k) rows) ≡ (if j == k then Some (fresh n k).process else find_proc j rows)
find_started j n k [] b = refl
find_started j n k (r ∷ rows) b = rw (below r.number k b.0)
    (by_test (j == r.number) (j == k) (λ t. other j r.number k b.0 t) (find_started j n k rows b.1))
  where
    below : (x y : ℕ) → x < y → nat_lt x y ≡ true
    below x y l = grind (arith, l)

    other : (x y z : ℕ) → y < z → (x == y) ≡ true → (x == z) ≡ false
    other x y z l t = let same = equal x y t in grind (arith, l, same)

    by_test : (d b : Bool) → (d ≡ true → b ≡ false)
        → find_proc j (with_proc (fresh n k) rows) ≡ (if b then Some (fresh n k).process else find_proc j rows)
        → (if d then Some r.process else find_proc j (with_proc (fresh n k) rows))
        ≡ (if b then Some (fresh n k).process else (if d then Some r.process else find_proc j rows))
    by_test true true f e = let g = f refl in absurd cc
    by_test true false f e = refl
    by_test false b f e = e

pub not_zero : (n : ℕ) → (suc n == 0) ≡ false
not_zero n = grind (arith, nat_tests)

zero_not : (n : ℕ) → (0 == suc n) ≡ false
zero_not n = grind (arith, nat_tests)

next_same : (m n : ℕ) → (suc m == suc n) ≡ (m == n)
next_same m n = grind (arith, nat_tests)

-- a question on a channel after a send
pub slot_asked : (q : ℕ) (slots : List (Option ℕ)) (n : ℕ) → nat_lt 0 (free_count slots) ≡ true
    → slot_at (asked q slots) n ≡ (if n == least_free slots then Some q else slot_at slots n)
slot_asked q [] n f = absurd cc
slot_asked q (None ∷ slots) zero f = refl
slot_asked q (None ∷ slots) (suc n) f = rw (not_zero n) refl
slot_asked q (Some p ∷ slots) zero f = rw (zero_not (least_free slots)) refl
slot_asked q (Some p ∷ slots) (suc n) f = rw (next_same n (least_free slots)) (slot_asked q slots n f)

only_slot : (q : ℕ) (slots : List (Option ℕ)) → length slots ≡ 1 → nat_lt 0 (free_count slots) ≡ true
    → slot_at (asked q slots) 0 ≡ Some q
only_slot q [] e f = absurd cc
only_slot q (None ∷ slots) e f = refl
only_slot q (Some p ∷ []) e f = absurd cc
only_slot q (Some p ∷ (x ∷ slots)) e f = absurd (omega (arith, e))

pub channel_asked : (q : ℕ) (p : Channels) (channel : Option ℕ) → nat_lt 0 (free_count p.slots) ≡ true
    → is_some channel ≡ p.numbered → (p.numbered ≡ false → length p.slots ≡ 1)
    → slot_of (asked q p.slots) channel
    ≡ (if same_channel channel (channel_name p.numbered (least_free p.slots)) then Some q else slot_of p.slots channel)
channel_asked q p channel free named one = by p.numbered channel named one
  where
    by : (b : Bool) (channel : Option ℕ) → is_some channel ≡ b → (b ≡ false → length p.slots ≡ 1)
        → slot_of (asked q p.slots) channel
        ≡ (if same_channel channel (channel_name b (least_free p.slots)) then Some q else slot_of p.slots channel)
    by true None e f = absurd cc
    by false (Some n) e f = absurd cc
    by false None e f = only_slot q p.slots (f refl) free
    by true (Some n) e f = slot_asked q p.slots n free

-- after a reply
slot_settled : (q : ℕ) (slots : List (Option ℕ)) (n : ℕ) → slot_at (settled q slots) n ≡ freed q (slot_at slots n)
slot_settled q [] n = refl
slot_settled q (s ∷ slots) zero = refl
slot_settled q (s ∷ slots) (suc n) = slot_settled q slots n

pub channel_settled : (q : ℕ) (slots : List (Option ℕ)) (channel : Option ℕ)
    → slot_of (settled q slots) channel ≡ freed q (slot_of slots channel)
channel_settled q slots None = slot_settled q slots 0
channel_settled q slots (Some n) = slot_settled q slots n

-- of a process that was just started
slot_none : (m n : ℕ) → slot_at (replicate m None) n ≡ None
slot_none zero n = refl
slot_none (suc m) zero = refl
slot_none (suc m) (suc n) = slot_none m n

pub channel_none : (m : ℕ) (channel : Option ℕ) → slot_of (replicate m None) channel ≡ None
channel_none m None = slot_none m 0
channel_none m (Some n) = slot_none m n

-- each process has the channels of its class
pub class_sent : (n q : ℕ) (rows : List Living) → AreOfClass n rows → AreOfClass n (sent q rows)
class_sent n q [] a = tt
class_sent n q (r ∷ rows) a = by (has_free r) (class_sent n q rows a.2)
  where
    by : (b : Bool) → AreOfClass n (sent q rows)
        → AreOfClass n (if b then record r { process = record r.process { slots = asked q r.process.slots } } ∷ rows
        else r ∷ sent q rows)
    by true e = (length_asked q r.process.slots ∙ a.0, a.1, a.2)
    by false e = (a.0, a.1, e)

pub class_settled : (n k q : ℕ) (rows : List Living) → AreOfClass n rows → AreOfClass n (settled_in k q rows)
class_settled n k q [] a = tt
class_settled n k q (r ∷ rows) a = by (k == r.number) (class_settled n k q rows a.2)
  where
    by : (b : Bool) → AreOfClass n (settled_in k q rows)
        → AreOfClass n ((if b then record r { process = record r.process { slots = settled q r.process.slots } }
        else r) ∷ settled_in k q rows)
    by true e = (length_settled q r.process.slots ∙ a.0, a.1, e)
    by false e = (a.0, a.1, e)

pub class_without : (n k : ℕ) (rows : List Living) → AreOfClass n rows → AreOfClass n (without k rows)
class_without n k [] a = tt
class_without n k (r ∷ rows) a = by (k == r.number) (class_without n k rows a.2)
  where
    by : (b : Bool) → AreOfClass n (without k rows)
        → AreOfClass n (if b then without k rows else r ∷ without k rows)
    by true e = e
    by false e = (a.0, a.1, e)

pub class_started : (n k : ℕ) (rows : List Living) → AreOfClass n rows → AreOfClass n (with_proc (fresh n k) rows)
class_started n k [] a = (length-replicate (max 1 n) None, refl, tt)
class_started n k (r ∷ rows) a = by (nat_lt r.number k) (class_started n k rows a.2)
  where
    by : (b : Bool) → AreOfClass n (with_proc (fresh n k) rows)
        → AreOfClass n (if b then r ∷ with_proc (fresh n k) rows else fresh n k ∷ r ∷ rows)
    by true e = (a.0, a.1, e)
    by false e = (length-replicate (max 1 n) None, refl, a)

pub class_found : (n k : ℕ) (rows : List Living) (p : Channels) → AreOfClass n rows → find_proc k rows ≡ Some p
    → (length p.slots ≡ max 1 n) × (p.numbered ≡ nat_lt 0 n)
class_found n k [] p a e = absurd cc
class_found n k (r ∷ rows) p a e = by (k == r.number) e (λ f. class_found n k rows p a.2 f)
  where
    by : (b : Bool) → (if b then Some r.process else find_proc k rows) ≡ Some p
        → (find_proc k rows ≡ Some p → (length p.slots ≡ max 1 n) × (p.numbered ≡ nat_lt 0 n))
        → (length p.slots ≡ max 1 n) × (p.numbered ≡ nat_lt 0 n)
    by true f more = let same : r.process ≡ p = cc in
        (ap (λ (x : Channels). length x.slots) (sym same) ∙ a.0, ap Channels.numbered (sym same) ∙ a.1)
    by false f more = more f

-- how many processes there are
pub many_sent : (q : ℕ) (rows : List Living) → length (sent q rows) ≡ length rows
many_sent q [] = refl
many_sent q (r ∷ rows) = by (has_free r) (many_sent q rows)
  where
    by : (b : Bool) → length (sent q rows) ≡ length rows
        → length (if b then record r { process = record r.process { slots = asked q r.process.slots } } ∷ rows
        else r ∷ sent q rows) ≡ suc (length rows)
    by true e = refl
    by false e = ap suc e

pub many_settled : (k q : ℕ) (rows : List Living) → length (settled_in k q rows) ≡ length rows
many_settled k q [] = refl
many_settled k q (r ∷ rows) = ap suc (many_settled k q rows)

pub many_started : (n k : ℕ) (rows : List Living) → length (with_proc (fresh n k) rows) ≡ suc (length rows)
many_started n k [] = refl
many_started n k (r ∷ rows) = by (nat_lt r.number k) (many_started n k rows)
  where
    by : (b : Bool) → length (with_proc (fresh n k) rows) ≡ suc (length rows)
        → length (if b then r ∷ with_proc (fresh n k) rows else fresh n k ∷ r ∷ rows) ≡ suc (suc (length rows))
    by true e = ap suc e
    by false e = refl

none_without : (k : ℕ) (rows : List Living) → find_proc k rows ≡ None → without k rows ≡ rows
none_without k [] e = refl
none_without k (r ∷ rows) e = by (k == r.number) e (none_without k rows)
  where
    by : (b : Bool) → (if b then Some r.process else find_proc k rows) ≡ None
        → (find_proc k rows ≡ None → without k rows ≡ rows)
        → (if b then without k rows else r ∷ without k rows) ≡ r ∷ rows
    by true f g = absurd cc
    by false f g = ap (λ l. r ∷ l) (g f)

pub many_without : (k : ℕ) (rows : List Living) (p : Channels) → Rises (map living_number rows)
    → find_proc k rows ≡ Some p → suc (length (without k rows)) ≡ length rows
many_without k [] p rises e = absurd cc
many_without k (r ∷ rows) p rises e = by (k == r.number) refl e (λ f. many_without k rows p rises.1 f)
  where
    by : (b : Bool) → (k == r.number) ≡ b → (if b then Some r.process else find_proc k rows) ≡ Some p
        → (find_proc k rows ≡ Some p → suc (length (without k rows)) ≡ length rows)
        → suc (length (if b then without k rows else r ∷ without k rows)) ≡ suc (length rows)
    by true t f more =
        let none : find_proc k rows ≡ None = rw (equal k r.number t) (low_find r.number rows rises.0) in
        ap (λ (l : List Living). suc (length l)) (none_without k rows none)
    by false t f more = ap suc (more f)
