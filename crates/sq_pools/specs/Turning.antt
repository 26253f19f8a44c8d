-- Grants to seats that take turns, and what is known of whose turn it is.
use Rattle.std.specs.Prelude.{◌≡◌, ℕ, ◌<◌, ◌≤◌, ◌==◌, List, is_some, Bool, Some, None}
use Rattle.std.specs.Map.{lookup}
use Rattle.std.specs.declared.option.Option.{Option}
use Rattle.sq_pools.specs.Basins.{Basin, IsGranted, grant_in, seat_in}
use Rattle.sq_pools.specs.declared.turns.TurnPlace.{TurnPlace}

-- a call of the pools for some of the bytes that a seat wants, at this moment
pub record GrantsSome (seat now wanted given : ℕ) (old new : Basin) : Type 0 where
  pub asked : ℕ
  pub some : 0 < asked
  pub within : asked ≤ wanted
  pub amount : given ≡ grant_in old now asked (seat_in old seat)
  pub taken : IsGranted old new now given (seat_in old seat)

-- a seat whose turn it is makes one such call; for one whose turn it is not, none is made
abbrev pub GrantsInTurn : ℕ → ℕ → ℕ → Option ℕ → Basin → Basin → Type 0
GrantsInTurn seat now wanted None old new = new ≡ old
GrantsInTurn seat now wanted (Some given) old new = GrantsSome seat now wanted given old new

-- what was granted: nothing, where it was not the seat's turn
abbrev pub given_of : Option ℕ → ℕ
given_of None = 0
given_of (Some given) = given

-- whether a seat is known to wait, or to have had a part of a second
abbrev pub has_turn : List (ℕ × TurnPlace) → ℕ → Bool
has_turn turns seat = is_some (lookup (λ k. seat == k) turns)
