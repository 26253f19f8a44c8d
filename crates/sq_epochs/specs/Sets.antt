-- Sets of places below 128, a bit of a word for each.
use Rattle.std.specs.Prelude.{◌≡◌, ℕ, ◌<◌, List, Bool, true, false, ◌==◌, if◌then◌else◌, slice_get}
use Rattle.std.specs.Int.{bit_at}
use Rattle.std.specs.Option.{option_map_or}

-- the place is in the set of this word
abbrev pub is_in : ℕ → ℕ → Bool
is_in p set = bit_at set p == 1

-- the least place that is in the set
pub record IsLeast (set p : ℕ) : Type 0 where
  pub within : is_in p set ≡ true
  pub least : (q : ℕ) → q < p → is_in q set ≡ false

-- the place was put in, or taken out, and each other is as it was
abbrev pub IsSetAt : ℕ → Bool → ℕ → ℕ → Type 0
IsSetAt p within old new = (q : ℕ) → is_in q new ≡ (if q == p then within else is_in q old)

-- in the set are the places of a list at which the test holds, and no other
abbrev pub IsSetOf : {A : Type 0} → (A → Bool) → List A → ℕ → Type 0
IsSetOf test xs set = (p : ℕ) → is_in p set ≡ option_map_or test (slice_get xs p) false
