-- Lines that go on, one after the other.
use Rattle.std.proofs.Common.{◌≡◌, ℕ, ◌++◌, List, [], ◌∷◌}
use Rattle.sq_base.specs.Lines.{Joined, with_front, joined}

-- lines that are still to come, before which something is under way or nothing
abbrev pub to_come : ℕ → List ℕ → List Joined → List Joined
to_come first [] js = js
to_come first (b ∷ bs) js = with_front first (b ∷ bs) js

-- what the loop over lines keeps: the joined lines so far, then those that begin with what is under
-- way, are all; where nothing is, the next line's number is that of the joined one
pub record JoinedSoFar (all : List Joined) (first : ℕ) (front : List ℕ) (next : ℕ)
    (rest lines : List (List ℕ)) : Type 0 where
  pub whole : all ++ to_come first front (joined next rest) ≡ joined 1 lines
  pub begun : front ≡ [] → first ≡ next
