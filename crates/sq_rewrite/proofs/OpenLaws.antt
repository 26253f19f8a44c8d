-- On which process a question is open, before and after a send, a reply, an end and a start.
use Rattle.std.proofs.Common.{◌≡◌, ◌∙◌, ◌==◌, ◌&&◌, ◌||◌, ◌<◌, not, Bool, true, false, ℕ, zero, suc, List, [], ◌∷◌, map, max, replicate, Option, None, Some, if◌then◌else◌, nat_lt, refl, ap, sym, arith}
use Rattle.std.specs.Option.{option_map}
use Rattle.sq_channel.proofs.RisingLaws.{if_false, if_true}
use Rattle.sq_channel.proofs.SlotLaws.{none_open, open_of_law}
use Rattle.sq_channel.specs.Gots.{got_at, got_by, got_in}
use Rattle.sq_channel.specs.declared.replies.Got.TheVariants as got
use Rattle.sq_base.specs.declared.helpers.Reply.{Reply}
use Rattle.sq_base.specs.Replies.{Answer, reply_of}
use Rattle.sq_farm.specs.Replies.{got_of}
use Rattle.sq_machine.specs.Channels.{Channels, asked, channel_name, free_count, is_open, least_free, settled, slot_of}
use Rattle.sq_machine.specs.Farms.{Stock, fresh}
use Rattle.sq_machine.specs.Living.{Living, asked_row, find_proc, has_free, is_target, lives, living_number, sent, settled_in, slots_by, slots_in, target, times_in, with_proc, without}
use Rattle.sq_machine.specs.Rising.{AreAbove, AreBelow, Rises}
use Rattle.sq_rewrite.proofs.RowLaws.{apart_from, equal, itself}

or_if : (a o : Bool) → (if a then true else o) ≡ (a || o)
or_if true o = refl
or_if false o = refl

-- for a channel more that has a question
open_asked : (p q : ℕ) (slots : List (Option ℕ)) → nat_lt 0 (free_count slots) ≡ true
    → is_open p (asked q slots) ≡ ((p == q) || is_open p slots)
open_asked p q [] free = absurd cc
open_asked p q (None ∷ slots) free = or_if (p == q) (is_open p slots)
open_asked p q (Some n ∷ slots) free = turned (p == n) (p == q) (is_open p (asked q slots)) (is_open p slots)
    (open_asked p q slots free)
  where
    turned : (a b o o' : Bool) → o ≡ (b || o') → (if a then true else o) ≡ (b || (if a then true else o'))
    turned true true o o' e = refl
    turned true false o o' e = refl
    turned false b o o' e = e

none_both : (b : Bool) → false ≡ (not b && false)
none_both true = refl
none_both false = refl

same_one : (a b o : Bool) → b ≡ a → (not a && o) ≡ (not a && (if b then true else o))
same_one true b o e = refl
same_one false true o e = absurd cc
same_one false false o e = refl

other_one : (a b o o' : Bool) → (a ≡ true → b ≡ false) → o ≡ (not b && o')
    → (if a then true else o) ≡ (not b && (if a then true else o'))
other_one true true o o' f e = let g = f refl in absurd cc
other_one true false o o' f e = refl
other_one false b o o' f e = e

-- for a channel that is freed
open_settled : (p q : ℕ) (slots : List (Option ℕ)) → is_open p (settled q slots) ≡ (not (p == q) && is_open p slots)
open_settled p q [] = none_both (p == q)
open_settled p q (None ∷ slots) = open_settled p q slots
open_settled p q (Some n ∷ slots) = (elim (q == n) as
    (λ y. (q == n) ≡ y → is_open p (settled q (Some n ∷ slots)) ≡ (not (p == q) && is_open p (Some n ∷ slots))) [
      | true ↦ λ t. rw t (open_settled p q slots
          ∙ same_one (p == q) (p == n) (is_open p slots) (ap (λ x. p == x) (sym (equal q n t))))
      | false ↦ λ t. rw t (other_one (p == n) (p == q) (is_open p (settled q slots)) (is_open p slots)
          (apart_from p q n t)
          (open_settled p q slots))
    ]) refl

-- for a process below all others: it gets no question while one of them has a free channel
pub low_target : (k : ℕ) (rows : List Living) → AreAbove k (map living_number rows) → is_target k (target rows) ≡ false
low_target k [] a = refl
low_target k (r ∷ rows) a = by_test (has_free r) (channel_name r.process.numbered (least_free r.process.slots))
    (low_target k rows a.1)
  where
    higher : (x y : ℕ) → x < y → (x == y) ≡ false
    higher x y l = grind (arith, l)

    by_test : (b : Bool) (c : Option ℕ) → is_target k (target rows) ≡ false
        → is_target k (if b then Some (r.number, c) else target rows) ≡ false
    by_test true c e = higher k r.number a.0
    by_test false c e = e

-- for a question on a process after a send
pub open_sent : (p j q : ℕ) (rows : List Living) → Rises (map living_number rows)
    → is_open p (slots_in j (sent q rows)) ≡ ((is_target j (target rows) && (p == q)) || is_open p (slots_in j rows))
open_sent p j q [] rises = refl
open_sent p j q (r ∷ rows) rises = (elim (has_free r) as
    (λ y. has_free r ≡ y → is_open p (slots_in j (sent q (r ∷ rows)))
    ≡ ((is_target j (target (r ∷ rows)) && (p == q)) || is_open p (slots_in j (r ∷ rows)))) [
      | true ↦ λ t. rw t (here (j == r.number) (open_asked p q r.process.slots t))
      | false ↦ λ t. rw t ((elim (j == r.number) as
          (λ y. (j == r.number) ≡ y
          → is_open p (slots_by (if j == r.number then Some r.process else find_proc j (sent q rows)))
          ≡ ((is_target j (target rows) && (p == q))
          || is_open p (slots_by (if j == r.number then Some r.process else find_proc j rows)))) [
            | true ↦ λ u. let none : is_target j (target rows) ≡ false =
                rw (equal j r.number u) (low_target r.number rows rises.0) in rw (u, none) refl
            | false ↦ λ u. rw u (open_sent p j q rows rises.1)
          ]) refl)
    ]) refl
  where
    here : (b : Bool) → is_open p (asked q r.process.slots) ≡ ((p == q) || is_open p r.process.slots)
        → is_open p (slots_by (if b then Some (record r.process { slots = asked q r.process.slots })
        else find_proc j rows)) ≡
        ((b && (p == q)) || is_open p (slots_by (if b then Some r.process else find_proc j rows)))
    here true e = e
    here false e = refl

none_replied : (b c : Bool) → false ≡ (if b then (c && false) else false)
none_replied true true = refl
none_replied true false = refl
none_replied false c = refl

-- for a question on a process after a reply
pub open_replied : (p j k q : ℕ) (rows : List Living)
    → is_open p (slots_in j (settled_in k q rows))
    ≡ (if j == k then (not (p == q) && is_open p (slots_in j rows)) else is_open p (slots_in j rows))
open_replied p j k q [] = none_replied (j == k) (not (p == q))
open_replied p j k q (r ∷ rows) = (elim (k == r.number) as
    (λ y. (k == r.number) ≡ y
    → is_open p (slots_in j (settled_in k q (r ∷ rows)))
    ≡ (if j == k then (not (p == q) && is_open p (slots_in j (r ∷ rows))) else is_open p (slots_in j (r ∷ rows)))) [
      | true ↦ λ t. let same : k ≡ r.number = equal k r.number t in
          rw (t, ← same) (here (j == k) (open_replied p j k q rows))
      | false ↦ λ t. rw t (there (j == r.number) (j == k) (apart_from j k r.number t) (open_replied p j k q rows))
    ]) refl
  where
    here : (b : Bool) → is_open p (slots_in j (settled_in k q rows))
        ≡ (if b then (not (p == q) && is_open p (slots_in j rows)) else is_open p (slots_in j rows))
        → is_open p (slots_by (if b then Some (record r.process { slots = settled q r.process.slots })
        else find_proc j (settled_in k q rows)))
        ≡ (if b then (not (p == q) && is_open p (slots_by (if b then Some r.process else find_proc j rows)))
        else is_open p (slots_by (if b then Some r.process else find_proc j rows)))
    here true e = open_settled p q r.process.slots
    here false e = e

    there : (d b : Bool) → (d ≡ true → b ≡ false)
        → is_open p (slots_in j (settled_in k q rows))
        ≡ (if b then (not (p == q) && is_open p (slots_in j rows)) else is_open p (slots_in j rows))
        → is_open p (slots_by (if d then Some r.process else find_proc j (settled_in k q rows)))
        ≡ (if b then (not (p == q) && is_open p (slots_by (if d then Some r.process else find_proc j rows)))
        else is_open p (slots_by (if d then Some r.process else find_proc j rows)))
    there true true f e = let g = f refl in absurd cc
    there true false f e = refl
    there false b f e = e

none_left : (b : Bool) → false ≡ (if b then false else false)
none_left true = refl
none_left false = refl

-- for a question on a process after one ended
pub open_without : (p j k : ℕ) (rows : List Living)
    → is_open p (slots_in j (without k rows)) ≡ (if j == k then false else is_open p (slots_in j rows))
open_without p j k [] = none_left (j == k)
open_without p j k (r ∷ rows) = (elim (k == r.number) as
    (λ y. (k == r.number) ≡ y
    → is_open p (slots_in j (without k (r ∷ rows))) ≡ (if j == k then false else is_open p (slots_in j (r ∷ rows)))) [
      | true ↦ λ t. let same : k ≡ r.number = equal k r.number t in
          rw t (open_without p j k rows ∙ rw same (here (j == r.number)))
      | false ↦ λ t. rw t (there (j == r.number) (j == k) (apart_from j k r.number t) (open_without p j k rows))
    ]) refl
  where
    here : (b : Bool) → (if b then false else is_open p (slots_in j rows))
        ≡ (if b then false else is_open p (slots_by (if b then Some r.process else find_proc j rows)))
    here true = refl
    here false = refl

    there : (d b : Bool) → (d ≡ true → b ≡ false)
        → is_open p (slots_in j (without k rows)) ≡ (if b then false else is_open p (slots_in j rows))
        → is_open p (slots_by (if d then Some r.process else find_proc j (without k rows)))
        ≡ (if b then false else is_open p (slots_by (if d then Some r.process else find_proc j rows)))
    there true true f e = let g = f refl in absurd cc
    there true false f e = refl
    there false b f e = e

none_new : (p n : ℕ) → is_open p (replicate n None) ≡ false
none_new p zero = refl
none_new p (suc n) = none_new p n

alone : (p n k : ℕ) (d : Bool) → is_open p (slots_by (if d then Some (fresh n k).process else None)) ≡ false
alone p n k true = none_new p (max 1 n)
alone p n k false = refl

-- for a question on a process after another one was started, whose number is above all
pub open_started : (p j n k : ℕ) (rows : List Living) → AreBelow k (map living_number rows)
    → is_open p (slots_in j (with_proc (fresh n k) rows)) ≡ is_open p (slots_in j rows)
open_started p j n k [] b = alone p n k (j == k)
open_started p j n k (r ∷ rows) b = rw (below r.number k b.0) (by_test (j == r.number) (open_started p j n k rows b.1))
  where
    below : (x y : ℕ) → x < y → nat_lt x y ≡ true
    below x y l = grind (arith, l)

    by_test : (d : Bool) → is_open p (slots_in j (with_proc (fresh n k) rows)) ≡ is_open p (slots_in j rows)
        → is_open p (slots_by (if d then Some r.process else find_proc j (with_proc (fresh n k) rows)))
        ≡ is_open p (slots_by (if d then Some r.process else find_proc j rows))
    by_test true e = refl
    by_test false e = e

-- for the numbers of the processes
pub numbers_sent : (q : ℕ) (rows : List Living) → map living_number (sent q rows) ≡ map living_number rows
numbers_sent q [] = refl
numbers_sent q (r ∷ rows) = by_test (has_free r) (numbers_sent q rows)
  where
    by_test : (b : Bool) → map living_number (sent q rows) ≡ map living_number rows
        → map living_number (if b then asked_row q r ∷ rows else r ∷ sent q rows) ≡ r.number ∷ map living_number rows
    by_test true e = refl
    by_test false e = ap (λ l. r.number ∷ l) e

pub numbers_replied : (k q : ℕ) (rows : List Living) → map living_number (settled_in k q rows) ≡ map living_number rows
numbers_replied k q [] = refl
numbers_replied k q (r ∷ rows) = by_test (k == r.number) (numbers_replied k q rows)
  where
    by_test : (b : Bool) → map living_number (settled_in k q rows) ≡ map living_number rows
        → map living_number ((if b then record r { process = record r.process { slots = settled q r.process.slots } }
        else r) ∷ settled_in k q rows) ≡ r.number ∷ map living_number rows
    by_test true e = ap (λ l. r.number ∷ l) e
    by_test false e = ap (λ l. r.number ∷ l) e

above_without : (n k : ℕ) (rows : List Living) → AreAbove n (map living_number rows)
    → AreAbove n (map living_number (without k rows))
above_without n k [] a = tt
above_without n k (r ∷ rows) a = by_test (k == r.number) (above_without n k rows a.1)
  where
    by_test : (b : Bool) → AreAbove n (map living_number (without k rows))
        → AreAbove n (map living_number (if b then without k rows else r ∷ without k rows))
    by_test true e = e
    by_test false e = (a.0, e)

pub rises_without : (k : ℕ) (rows : List Living) → Rises (map living_number rows)
    → Rises (map living_number (without k rows))
rises_without k [] a = tt
rises_without k (r ∷ rows) a = by_test (k == r.number) (rises_without k rows a.1)
  where
    by_test : (b : Bool) → Rises (map living_number (without k rows))
        → Rises (map living_number (if b then without k rows else r ∷ without k rows))
    by_test true e = e
    by_test false e = (above_without r.number k rows a.0, e)

pub below_without : (n k : ℕ) (rows : List Living) → AreBelow n (map living_number rows)
    → AreBelow n (map living_number (without k rows))
below_without n k [] a = tt
below_without n k (r ∷ rows) a = by_test (k == r.number) (below_without n k rows a.1)
  where
    by_test : (b : Bool) → AreBelow n (map living_number (without k rows))
        → AreBelow n (map living_number (if b then without k rows else r ∷ without k rows))
    by_test true e = e
    by_test false e = (a.0, e)

above_started : (m n k : ℕ) (rows : List Living) → m < k → AreAbove m (map living_number rows)
    → AreAbove m (map living_number (with_proc (fresh n k) rows))
above_started m n k [] l a = (l, tt)
above_started m n k (r ∷ rows) l a = by_test (nat_lt r.number k) (above_started m n k rows l a.1)
  where
    by_test : (b : Bool) → AreAbove m (map living_number (with_proc (fresh n k) rows))
        → AreAbove m (map living_number (if b then r ∷ with_proc (fresh n k) rows else fresh n k ∷ r ∷ rows))
    by_test true e = (a.0, e)
    by_test false e = (l, a)

pub rises_started : (n k : ℕ) (rows : List Living) → AreBelow k (map living_number rows)
    → Rises (map living_number rows) → Rises (map living_number (with_proc (fresh n k) rows))
rises_started n k [] b a = (tt, tt)
rises_started n k (r ∷ rows) b a = rw (below r.number k b.0)
    (above_started r.number n k rows b.0 a.0, rises_started n k rows b.1 a.1)
  where
    below : (x y : ℕ) → x < y → nat_lt x y ≡ true
    below x y l = grind (arith, l)

pub below_more : (m n : ℕ) (ns : List ℕ) → m < n → AreBelow m ns → AreBelow n ns
below_more m n [] l a = tt
below_more m n (x ∷ ns) l a = (omega (arith, a.0), below_more m n ns l a.1)

pub below_started : (m n k : ℕ) (rows : List Living) → k < m → AreBelow m (map living_number rows)
    → AreBelow m (map living_number (with_proc (fresh n k) rows))
below_started m n k [] l a = (l, tt)
below_started m n k (r ∷ rows) l a = by_test (nat_lt r.number k) (below_started m n k rows l a.1)
  where
    by_test : (b : Bool) → AreBelow m (map living_number (with_proc (fresh n k) rows))
        → AreBelow m (map living_number (if b then r ∷ with_proc (fresh n k) rows else fresh n k ∷ r ∷ rows))
    by_test true e = (a.0, e)
    by_test false e = (l, a)

-- for a number above those of all processes: none has it
pub none_lives : (k : ℕ) (rows : List Living) → AreBelow k (map living_number rows) → lives k rows ≡ false
none_lives k [] a = refl
none_lives k (r ∷ rows) a = rw (other r.number k a.0) (none_lives k rows a.1)
  where
    other : (x y : ℕ) → x < y → (y == x) ≡ false
    other x y l = grind (arith, l)

low_slots : (k : ℕ) (rows : List Living) → AreAbove k (map living_number rows) → slots_in k rows ≡ []
low_slots k [] a = refl
low_slots k (r ∷ rows) a = rw (other k r.number a.0) (low_slots k rows a.1)
  where
    other : (x y : ℕ) → x < y → (x == y) ≡ false
    other x y l = grind (arith, l)

-- for a question that is open on no process: no process has it
pub open_nowhere : (q : ℕ) (rows : List Living) → Rises (map living_number rows)
    → ((k : ℕ) → is_open q (slots_in k rows) ≡ false) → times_in q rows ≡ 0
open_nowhere q [] rises none = refl
open_nowhere q (r ∷ rows) rises none =
    let first : is_open q r.process.slots ≡ false =
    sym (ap (λ o. is_open q (slots_by o))
    (if_true (r.number == r.number) (Some r.process) (find_proc r.number rows) (itself r.number))) ∙ none r.number in
    let here = none_open q r.process.slots first in
    let there = open_nowhere q rows rises.1 others in
    omega arith
  where
    others : (k : ℕ) → is_open q (slots_in k rows) ≡ false
    others k = (elim (k == r.number) as (λ y. (k == r.number) ≡ y → is_open q (slots_in k rows) ≡ false) [
      | true ↦ λ t. let none_there : slots_in k rows ≡ [] = rw (equal k r.number t) (low_slots r.number rows rises.0) in
          ap (is_open q) none_there
      | false ↦ λ t. sym (ap (λ o. is_open q (slots_by o))
          (if_false (k == r.number) (Some r.process) (find_proc k rows) t)) ∙ none k
    ]) refl

reply_open : (q : ℕ) (reply : Reply) (slots : List (Option ℕ)) (a : Option Answer) → got_by slots a ≡ got.Reply q reply
    → is_open q slots ≡ true
reply_open q reply slots None e = absurd cc
reply_open q reply slots (Some a) e = by_slot (slot_of slots a.0) refl e
  where
    by_slot : (o : Option ℕ) → slot_of slots a.0 ≡ o → got_at o a.1 ≡ got.Reply q reply → is_open q slots ≡ true
    by_slot None s g = absurd cc
    by_slot (Some p) s g = let same : p ≡ q = cc in open_of_law slots a.0 q (s ∙ ap Some same)

-- for a line that is a reply: it is to a question that is open on its process
pub replied_open : (k q : ℕ) (reply : Reply) (v : Stock) (line : List ℕ) → got_of k v line ≡ Some (got.Reply q reply)
    → is_open q (slots_in k v.procs) ≡ true
unfolding got_in
replied_open k q reply v line e = by_proc (find_proc k v.procs) e
  where
    by_proc : (o : Option Channels) → option_map (λ p. got_in p line) o ≡ Some (got.Reply q reply)
        → is_open q (slots_by o) ≡ true
    by_proc None g = absurd cc
    by_proc (Some p) g = let h : got_in p line ≡ got.Reply q reply = cc in
        reply_open q reply p.slots (reply_of p.numbered line) h
