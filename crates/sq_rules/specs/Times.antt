-- In the statement: docs/STATEMENT.md lists which definitions.
-- Periods of the local week (configuration reference, `acl`, type time).
use Rattle.std.specs.Prelude.{ℕ, ◌/◌, ◌%◌, ◌^◌, ◌<◌, ◌≤◌, Bool, ◌&&◌, ◌==◌, nat_le}

-- minutes of a day
abbrev pub day_minutes : ℕ
day_minutes = 1440

-- weekdays as the bits of a number, Sunday the lowest, and the first and the last minute of a day
pub record Hour : Type 0 where
  pub days : ℕ
  pub first : ℕ
  pub last : ℕ

-- there are seven weekdays, and 24:00 is the last minute
pub record IsHour (p : Hour) : Type 0 where
  pub days_are : p.days < 128
  pub first_is : p.first ≤ day_minutes
  pub last_is : p.last ≤ day_minutes

-- the weekday is one of these
abbrev pub has_day : ℕ → ℕ → Bool
has_day days day = days / 2 ^ day % 2 == 1

-- the minute of the week, from Sunday 00:00, lies in the period; both ends belong to it
abbrev pub in_hour : Hour → ℕ → Bool
in_hour p minute = has_day p.days (minute / day_minutes) && nat_le p.first (minute % day_minutes)
    && nat_le (minute % day_minutes) p.last
