-- What a read gives that may come to nothing.
use Rattle.std.specs.Prelude.{◌≡◌, ℕ, ◌<◌, ◌≤◌, List, length, take, IfOk, IfSome, None, Some, Result, MatchResult}
use Rattle.std.specs.Io.KnownBytes.{Consumes, IsAtEnd, Keeps}
use Rattle.std.specs.declared.option.Option.{Option}

-- where bytes came, they are within the slice
abbrev pub CameAtMost : {E : Type 0} → Result (Option ℕ) E → List ℕ → Type 0
CameAtMost r xs = IfOk r (λ came. IfSome came (λ n. n ≤ length xs))

-- the bytes that came were consumed, none only at the end or with no room; where nothing came,
-- nothing was
abbrev pub Came : Option (List ℕ) → Option (List ℕ) → List ℕ → Option ℕ → Type 0
Came old new buf None = Keeps old new
Came old new buf (Some n) = Consumes old new (take n buf)
    × (n ≡ 0 → 0 < length buf → IsAtEnd new)

-- the same of the call's result, and nothing was consumed where it failed
abbrev pub CameConsumes : {E : Type 0} → Option (List ℕ) → Option (List ℕ)
    → Result (Option ℕ) E → List ℕ → Type 0
CameConsumes old new r buf = MatchResult r (λ came. Came old new buf came) (λ _. Keeps old new)
