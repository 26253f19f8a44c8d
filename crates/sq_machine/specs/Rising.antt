-- Lists of numbers that rise.
use Rattle.std.specs.Prelude.{ℕ, suc, ◌<◌, List, [], ◌∷◌, if◌then◌else◌, nat_lt, ◌==◌}

-- the number is below each of these
abbrev pub AreAbove : ℕ → List ℕ → Type 0
AreAbove k [] = Unit {0}
AreAbove k (n ∷ ns) = (k < n) × AreAbove k ns

-- the number is above each of these
abbrev pub AreBelow : ℕ → List ℕ → Type 0
AreBelow k [] = Unit {0}
AreBelow k (n ∷ ns) = (n < k) × AreBelow k ns

-- each number is below those behind it
abbrev pub Rises : List ℕ → Type 0
Rises [] = Unit {0}
Rises (n ∷ ns) = AreAbove n ns × Rises ns

-- how many numbers at the front are below k: its place in a list that rises
abbrev pub place_among : ℕ → List ℕ → ℕ
place_among k [] = 0
place_among k (n ∷ ns) = if nat_lt n k then suc (place_among k ns) else 0

-- how often the number stands in the list
abbrev pub times_of : ℕ → List ℕ → ℕ
times_of k [] = 0
times_of k (n ∷ ns) = if k == n then suc (times_of k ns) else times_of k ns
