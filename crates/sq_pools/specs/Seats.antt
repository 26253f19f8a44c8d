-- Seats in use, by number.
use Rattle.std.specs.Prelude.{ℕ, List, ◌==◌, zero, suc}
use Rattle.std.specs.Map.{lookup, remove_entry}
use Rattle.std.specs.declared.option.Option.{Option}
use Rattle.sq_machine.specs.PoolReadings.{Sat, count_if, is_of_epoch}

-- the seat of a number
abbrev pub seat_at : List (ℕ × Sat) → ℕ → Option Sat
seat_at seats n = lookup (λ k. n == k) seats

-- the seats without that of a number
abbrev pub without_seat : ℕ → List (ℕ × Sat) → List (ℕ × Sat)
without_seat n seats = remove_entry (λ k. n == k) seats

-- how many of the seats 1 to n are in use and of this epoch
abbrev pub seats_of : List (ℕ × Sat) → ℕ → ℕ → ℕ
seats_of seats e zero = 0
seats_of seats e (suc n) = count_if (is_of_epoch e (seat_at seats (suc n))) (seats_of seats e n)
