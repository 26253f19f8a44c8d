-- Laws of the queues of questions and of their places.
use Rattle.std.proofs.Common.{◌≡◌, ◌≢◌, ◌==◌, ◌+◌, ◌<◌, ◌∙◌, ℕ, zero, suc, List, [], ◌∷◌, Bool, true, false, not, cond, nat_lt, Option, Some, None, length, get_or, set, slice_set, ◌≤◌, refl, ap, sym, arith}
use Rattle.std.specs.List.{position, position_or_len}
use Rattle.std.proofs.lemmas.List.{length-set}
use Rattle.std.proofs.lemmas.List.Quantifiers.{position-Some}
use Rattle.sq_shared.specs.Waking.{is_for, place_of}
use Rattle.sq_shared.specs.declared.wait_queues.WaitQueue.{WaitQueue}

-- who waits here waits for one question
pub one_question : (question other : ℕ) (queue : WaitQueue) → is_for question queue ≡ true
    → (question == other) ≡ false → is_for other queue ≡ false
one_question question other queue t n = grind (arith, t, n)

-- a write at a place that is not the first that passes, of what passes only where what stood there
-- did, leaves the first
kept_first : {X : Type 0} (p : X → Bool) → (xs : List X) (i : ℕ) (y d : X)
    → (p y ≡ true → p (get_or xs i d) ≡ true) → position_or_len p xs ≢ i
    → position_or_len p (set xs i y) ≡ position_or_len p xs
kept_first p [] i y d h n = refl
kept_first p (x ∷ xs) zero y d h n = by_test (p y) (p x) refl refl
  where
    place : Bool → ℕ
    place z = cond (not z) (1 + position_or_len p xs) 0

    by_test : (s t : Bool) → p y ≡ s → p x ≡ t → place (p y) ≡ place (p x)
    by_test s true e f = absurd (n (ap place f))
    by_test true false e f = ap place (e ∙ sym (h e))
    by_test false false e f = ap place (e ∙ sym f)
kept_first p (x ∷ xs) (suc i) y d h n = by_test (p x) refl (kept_first p xs i y d h)
  where
    old : ℕ
    old = position_or_len p xs

    new : ℕ
    new = position_or_len p (set xs i y)

    next : old ≡ i → 1 + old ≡ suc i
    next e = omega (arith, e)

    by_test : (t : Bool) → p x ≡ t → (old ≢ i → new ≡ old)
        → cond (not (p x)) (1 + new) 0 ≡ cond (not (p x)) (1 + old) 0
    by_test true e k = ap (λ z. cond (not z) (1 + new) 0) e ∙ sym (ap (λ z. cond (not z) (1 + old) 0) e)
    by_test false e k = ap (λ m. cond (not (p x)) (1 + m) 0)
        (k (λ q. n (ap (λ z. cond (not z) (1 + old) 0) e ∙ next q)))

-- where the first that passes stands in a list of this length, if it stands at this number
abbrev stands : ℕ → ℕ → Option ℕ
stands len at = cond (nat_lt at len) (Some at) None

-- the same of its place
pub kept_position : {X : Type 0} (p : X → Bool) → (xs : List X) (i : ℕ) (y d : X) → i < length xs
    → (p y ≡ true → p (get_or xs i d) ≡ true) → position p xs ≢ Some i
    → position p (set xs i y) ≡ position p xs
kept_position p xs i y d w h n =
    ap (λ len. stands len (position_or_len p (set xs i y))) (length-set xs i y)
    ∙ ap (stands (length xs)) (kept_first p xs i y d h
    (λ e. n (ap (stands (length xs)) e ∙ ap (λ z. cond z (Some i) None) short)))
  where
    short : nat_lt i (length xs) ≡ true
    short = grind (arith, w)

-- where the queue of a question gets another length, no other goes to another place
pub longer : (question other : ℕ) (queues : List WaitQueue) (at n : ℕ)
    → place_of question queues ≡ Some at → (question == other) ≡ false
    → place_of other (slice_set queues at (record { question = question; length = n }))
    ≡ place_of other queues
longer question other queues at n t e =
    kept_position (is_for other) queues at y y found.0 (λ f. absurd (mine f))
    (λ f. theirs (position-Some (is_for other) queues at y f).1)
  where
    y : WaitQueue
    y = record { question = question; length = n }

    found : (at < length queues) × (is_for question (get_or queues at y) ≡ true)
        × ((k : ℕ) → k < at → is_for question (get_or queues k y) ≡ false)
    found = position-Some (is_for question) queues at y t

    mine : is_for other y ≡ true → ⊥
    mine f = grind (arith, f, e)

    theirs : is_for other (get_or queues at y) ≡ true → ⊥
    theirs f = grind (arith, f, one_question question other (get_or queues at y) found.1 e)

-- where a queue gets shorter, no other goes to another place
pub shorter : (other : ℕ) (queues : List WaitQueue) (place : ℕ) (y d : WaitQueue) → place < length queues
    → y.question ≡ (get_or queues place d).question → y.length ≤ (get_or queues place d).length
    → place_of other queues ≢ Some place → place_of other (slice_set queues place y) ≡ place_of other queues
shorter other queues place y d w q l n = kept_position (is_for other) queues place y d w (λ f. grind (arith, f, q, l)) n
