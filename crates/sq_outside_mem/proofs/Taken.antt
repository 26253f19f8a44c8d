-- What an element that was taken out of a list is.
use Rattle.std.proofs.Common.{◌≡◌, ℕ, List, Bool, true, false, ◌&&◌, bytes_eq, refl, sym, ◌∙◌, ap}
use Rattle.std.specs.Bool.{Decides}
use Rattle.std.specs.Cmp.Lexicographic.{same_text, pointwise_decides}
use Rattle.std.proofs.lemmas.List.Quantifiers.{position-Some}
use Rattle.std.proofs.lemmas.Slice.Eq.{bytes_eq-Decides}
use Rattle.sq_outside_mem.specs.Taking.{TakesFirst, same_words}

-- an element that was taken passes the test
pub taken_passes : {X : Type 0} (test : X → Bool) (old new : List X) (x : X) → TakesFirst test old new x → test x ≡ true
taken_passes test old new x (i, at, is, rest) = ap test is ∙ (position-Some test old i x at).1

-- both tests of a pair hold
pub both_hold : (a b : Bool) → (a && b) ≡ true → (a ≡ true) × (b ≡ true)
both_hold true b e = (refl, e)
both_hold false b e = (e, cc)

-- equal bytes are the same text
pub bytes_same : (xs ys : List ℕ) → bytes_eq xs ys ≡ true → xs ≡ ys
bytes_same xs ys e = same_text xs ys (sym e)

-- what a test decides holds where it passes
decided : {P : Type 0} (b : Bool) → Decides b P → b ≡ true → P
decided b d e = d.0 e

-- equal words are the same
pub words_same : (xs ys : List (List ℕ)) → same_words xs ys ≡ true → xs ≡ ys
words_same xs ys e = decided (same_words xs ys) (pointwise_decides bytes_eq-Decides xs ys) e
