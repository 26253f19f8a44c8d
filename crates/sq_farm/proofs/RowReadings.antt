-- What the calls do to the readings of a farm: by process, and by loss.
use Rattle.std.proofs.Common.{◌≡◌, ℕ, ◌<◌, ◌≤◌, List, [], ◌∷◌, ◌++◌, map, filter, Bool, true, false, not, ◌&&◌, ◌||◌, ◌==◌, if◌then◌else◌, nat_lt, refl, sym, arith, ap, ◌∙◌, Some, is_some}
use Rattle.std.specs.declared.option.Option.{Option}
use Rattle.std.proofs.lemmas.Bool.{lt-ltb, ltb-true}
use Rattle.sq_base.specs.declared.helpers.Cause.{Cause}
use Rattle.sq_machine.specs.Channels.{asked, channel_name, least_free}
use Rattle.sq_machine.specs.Living.{Living, asked_row, find_proc, has_free, is_target, lives, living_number, sent, slots_by, slots_in, target, with_proc, without}
use Rattle.sq_machine.specs.Losses.{AreOfCause, Loss, lose, lose_all}
use Rattle.sq_machine.specs.Rising.{AreAbove, AreBelow, Rises}
use Rattle.sq_channel.proofs.RisingLaws.{if_true}

-- the first process, and those behind it
slots_front : (j : ℕ) (r : Living) (rows : List Living)
    → slots_in j (r ∷ rows) ≡ (if j == r.number then r.process.slots else slots_in j rows)
slots_front j r rows = by_test (j == r.number)
  where
    by_test : (b : Bool) → slots_by (if b then Some r.process else find_proc j rows)
        ≡ (if b then r.process.slots else slots_by (find_proc j rows))
    by_test true = refl
    by_test false = refl

lives_front : (j : ℕ) (r : Living) (rows : List Living) → lives j (r ∷ rows) ≡ (j == r.number || lives j rows)
lives_front j r rows = by_test (j == r.number)
  where
    by_test : (b : Bool) → is_some (if b then Some r.process else find_proc j rows) ≡ (b || is_some (find_proc j rows))
    by_test true = refl
    by_test false = refl

-- a send goes to none of the processes below those that are looked at
target_above : (j k : ℕ) (rows : List Living) → j ≤ k → AreAbove k (map living_number rows)
    → is_target j (target rows) ≡ false
target_above j k [] le a = refl
target_above j k (r ∷ rows) le a = by_free (has_free r) (target_above j k rows le a.1)
  where
    apart : (a b : ℕ) → a < b → (a == b) ≡ false
    apart a b l = grind (arith, l)

    by_free : (b : Bool) → is_target j (target rows) ≡ false
        → is_target j (if b then Some (r.number, channel_name r.process.numbered (least_free r.process.slots))
        else target rows) ≡ false
    by_free true more = apart j r.number (omega (arith, a.0))
    by_free false more = more

pub slots_sent_law : (j q : ℕ) (rows : List Living) → Rises (map living_number rows)
    → slots_in j (sent q rows) ≡ (if is_target j (target rows) then asked q (slots_in j rows) else slots_in j rows)
slots_sent_law j q [] rises = refl
slots_sent_law j q (r ∷ rows) rises = by_free (has_free r) (slots_sent_law j q rows rises.1)
  where
    equal : (a b : ℕ) → (a == b) ≡ true → a ≤ b
    equal a b e = grind (arith, e)

    here : (b : Bool) → (if b then asked q r.process.slots else slots_in j rows)
        ≡ (if b then asked q (if b then r.process.slots else slots_in j rows)
        else (if b then r.process.slots else slots_in j rows))
    here true = refl
    here false = refl

    behind : (b d : Bool) (new : List (Option ℕ)) → (b ≡ true → d ≡ false)
        → new ≡ (if d then asked q (slots_in j rows) else slots_in j rows)
        → (if b then r.process.slots else new)
        ≡ (if d then asked q (if b then r.process.slots else slots_in j rows)
        else (if b then r.process.slots else slots_in j rows))
    behind true true new n e = absurd (let z = n refl in cc)
    behind true false new n e = refl
    behind false d new n e = e

    by_free : (f : Bool) → slots_in j (sent q rows)
        ≡ (if is_target j (target rows) then asked q (slots_in j rows) else slots_in j rows)
        → slots_in j (if f then asked_row q r ∷ rows else r ∷ sent q rows)
        ≡ (if is_target j (if f then Some (r.number, channel_name r.process.numbered (least_free r.process.slots))
        else target rows) then asked q (slots_in j (r ∷ rows)) else slots_in j (r ∷ rows))
    by_free true more =
        slots_front j (asked_row q r) rows ∙ here (j == r.number)
        ∙ sym (ap (λ s. if j == r.number then asked q s else s) (slots_front j r rows))
    by_free false more =
        slots_front j r (sent q rows)
        ∙ behind (j == r.number) (is_target j (target rows)) (slots_in j (sent q rows))
        (λ e. target_above j r.number rows (equal j r.number e) rises.0) more
        ∙ sym (ap (λ s. if is_target j (target rows) then asked q s else s) (slots_front j r rows))

-- the end of process k
pub slots_without_law : (j k : ℕ) (rows : List Living)
    → slots_in j (without k rows) ≡ (if j == k then [] else slots_in j rows)
slots_without_law j k [] = none (j == k) [] refl
  where
    none : (b : Bool) (s : List (Option ℕ)) → s ≡ [] → s ≡ (if b then [] else s)
    none true s e = e
    none false s e = refl
slots_without_law j k (r ∷ rows) = by_test (k == r.number) refl (slots_without_law j k rows)
    ∙ sym (ap (λ s. if j == k then [] else s) (slots_front j r rows))
  where
    mine : (k == r.number) ≡ true → (j == r.number) ≡ (j == k)
    mine y = grind (arith, y)

    other : (k == r.number) ≡ false → (j == r.number) ≡ true → (j == k) ≡ false
    other y z = grind (arith, y, z)

    gone : (b d : Bool) (new : List (Option ℕ)) → b ≡ d → new ≡ (if d then [] else slots_in j rows)
        → new ≡ (if d then [] else (if b then r.process.slots else slots_in j rows))
    gone true true new n e = e
    gone true false new n e = cc
    gone false d new n e = e

    behind : (b d : Bool) (new : List (Option ℕ)) → (b ≡ true → d ≡ false) → new ≡ (if d then [] else slots_in j rows)
        → (if b then r.process.slots else new) ≡ (if d then [] else (if b then r.process.slots else slots_in j rows))
    behind true true new n e = absurd (let z = n refl in cc)
    behind true false new n e = refl
    behind false d new n e = e

    by_test : (b : Bool) → (k == r.number) ≡ b → slots_in j (without k rows) ≡ (if j == k then [] else slots_in j rows)
        → slots_in j (if b then without k rows else r ∷ without k rows)
        ≡ (if j == k then [] else (if j == r.number then r.process.slots else slots_in j rows))
    by_test true y more = gone (j == r.number) (j == k) (slots_in j (without k rows)) (mine y) more
    by_test false y more = slots_front j r (without k rows)
        ∙ behind (j == r.number) (j == k) (slots_in j (without k rows)) (other y) more

pub lives_without_law : (j k : ℕ) (rows : List Living) → lives j (without k rows) ≡ (not (j == k) && lives j rows)
lives_without_law j k [] = none (j == k)
  where
    none : (b : Bool) → false ≡ (not b && false)
    none true = refl
    none false = refl
lives_without_law j k (r ∷ rows) = by_test (k == r.number) refl (lives_without_law j k rows)
    ∙ sym (ap (λ s. not (j == k) && s) (lives_front j r rows))
  where
    numbers : (j k n : ℕ) (a b : Bool) → (k == n) ≡ true → a ≡ (not (j == k) && b) → a ≡ (not (j == k) && (j == n || b))
    numbers j k n a b y e = grind (arith, y, e)

    numbers_other : (j k n : ℕ) (a b : Bool) → (k == n) ≡ false → a ≡ (not (j == k) && b)
        → (j == n || a) ≡ (not (j == k) && (j == n || b))
    numbers_other j k n a b y e = grind (arith, y, e)

    by_test : (b : Bool) → (k == r.number) ≡ b → lives j (without k rows) ≡ (not (j == k) && lives j rows)
        → lives j (if b then without k rows else r ∷ without k rows) ≡ (not (j == k) && (j == r.number || lives j rows))
    by_test true y more = numbers j k r.number (lives j (without k rows)) (lives j rows) y more
    by_test false y more = lives_front j r (without k rows)
        ∙ numbers_other j k r.number (lives j (without k rows)) (lives j rows) y more

pub numbers_without_law : (k : ℕ) (rows : List Living)
    → map living_number (without k rows) ≡ filter (λ n. not (k == n)) (map living_number rows)
numbers_without_law k [] = refl
numbers_without_law k (r ∷ rows) = by_test (k == r.number) (numbers_without_law k rows)
  where
    by_test : (b : Bool) → map living_number (without k rows) ≡ filter (λ n. not (k == n)) (map living_number rows)
        → map living_number (if b then without k rows else r ∷ without k rows)
        ≡ (if not b then r.number ∷ filter (λ n. not (k == n)) (map living_number rows)
        else filter (λ n. not (k == n)) (map living_number rows))
    by_test true e = e
    by_test false e = ap (λ z. r.number ∷ z) e

-- one process more
pub slots_with_law : (j : ℕ) (p : Living) (rows : List Living)
    → slots_in j (with_proc p rows) ≡ (if j == p.number then p.process.slots else slots_in j rows)
slots_with_law j p [] = slots_front j p []
slots_with_law j p (r ∷ rows) = by_test (nat_lt r.number p.number) refl (slots_with_law j p rows)
  where
    both : r.number < p.number → (j == r.number) ≡ true → (j == p.number) ≡ false
    both l z = grind (arith, l, z)

    behind : (b d : Bool) (new : List (Option ℕ)) → (b ≡ true → d ≡ false)
        → new ≡ (if d then p.process.slots else slots_in j rows)
        → (if b then r.process.slots else new)
        ≡ (if d then p.process.slots else (if b then r.process.slots else slots_in j rows))
    behind true true new n e = absurd (let z = n refl in cc)
    behind true false new n e = refl
    behind false d new n e = e

    by_test : (b : Bool) → nat_lt r.number p.number ≡ b
        → slots_in j (with_proc p rows) ≡ (if j == p.number then p.process.slots else slots_in j rows)
        → slots_in j (if b then r ∷ with_proc p rows else p ∷ r ∷ rows)
        ≡ (if j == p.number then p.process.slots else slots_in j (r ∷ rows))
    by_test true l more = slots_front j r (with_proc p rows)
        ∙ behind (j == r.number) (j == p.number) (slots_in j (with_proc p rows)) (both (ltb-true r.number p.number l))
        more
        ∙ sym (ap (λ s. if j == p.number then p.process.slots else s) (slots_front j r rows))
    by_test false l more = slots_front j p (r ∷ rows)

pub lives_with_law : (j : ℕ) (p : Living) (rows : List Living)
    → lives j (with_proc p rows) ≡ (j == p.number || lives j rows)
lives_with_law j p [] = lives_front j p []
lives_with_law j p (r ∷ rows) = by_test (nat_lt r.number p.number) (lives_with_law j p rows)
  where
    swapped : (a b d : Bool) → (a || (b || d)) ≡ (b || (a || d))
    swapped true true d = refl
    swapped true false d = refl
    swapped false b d = refl

    by_test : (b : Bool) → lives j (with_proc p rows) ≡ (j == p.number || lives j rows)
        → lives j (if b then r ∷ with_proc p rows else p ∷ r ∷ rows) ≡ (j == p.number || lives j (r ∷ rows))
    by_test true more = lives_front j r (with_proc p rows) ∙ ap (λ s. j == r.number || s) more
        ∙ swapped (j == r.number) (j == p.number) (lives j rows)
        ∙ sym (ap (λ s. j == p.number || s) (lives_front j r rows))
    by_test false more = lives_front j p (r ∷ rows)

-- a process whose number is above all comes last
pub with_last : (p : Living) (rows : List Living) → AreBelow p.number (map living_number rows)
    → with_proc p rows ≡ rows ++ p ∷ []
with_last p [] below = refl
with_last p (r ∷ rows) below =
    if_true (nat_lt r.number p.number) (r ∷ with_proc p rows) (p ∷ r ∷ rows) (lt-ltb r.number p.number below.0)
    ∙ ap (λ z. r ∷ z) (with_last p rows below.1)

-- each question that is lost has the cause
causes_lose : (c : Cause) (q : ℕ) (ls : List Loss) → AreOfCause c ls → AreOfCause c (lose q c ls)
causes_lose c q [] a = (refl, tt)
causes_lose c q (l ∷ ls) a = by_test (nat_lt l.question q) (causes_lose c q ls a.1)
  where
    by_test : (b : Bool) → AreOfCause c (lose q c ls)
        → AreOfCause c (if b then l ∷ lose q c ls else record { question = q; cause = c } ∷ l ∷ ls)
    by_test true more = (a.0, more)
    by_test false more = (refl, a)

pub causes_lose_all : (c : Cause) (qs : List ℕ) (ls : List Loss) → AreOfCause c ls → AreOfCause c (lose_all c qs ls)
causes_lose_all c [] ls a = a
causes_lose_all c (q ∷ qs) ls a = causes_lose_all c qs (lose q c ls) (causes_lose c q ls a)
