-- In the statement: docs/STATEMENT.md lists which definitions.
-- What a history says of its time and of its epochs.
use Rattle.std.specs.Prelude.{ℕ, suc, Bool, true, false, ℤ, pos, [], ◌∷◌, Some, None, max}
use Rattle.std.specs.declared.option.Option.{Option}
use Rattle.sq_machine.specs.Entries.{History}
use Rattle.sq_machine.specs.Events.{begins_epoch, begun_offset}

-- the zone's offset after an event that may state one
abbrev pub offset_after : Option ℤ → ℤ → ℤ
offset_after None before = before
offset_after (Some offset) before = offset

-- the offset of local time that the machine began with, in minutes
unfoldable pub offset_of : History → ℤ
offset_of [] = pos 0
offset_of (e ∷ h) = offset_after (begun_offset e.event) (offset_of h)

-- the moment of the newest entry, which in a legal history is the greatest so far
abbrev pub latest : History → ℕ
latest [] = 0
latest (e ∷ h) = e.moment

-- the moment that counts after a history: one before its greatest counts as that
abbrev pub counted_moment : History → ℕ → ℕ
counted_moment h moment = max moment (latest h)

-- the current epoch after an event that may make a new one
abbrev pub epoch_after : Bool → ℕ → ℕ
epoch_after true e = suc e
epoch_after false e = e

-- the current epoch: 1, and one more for each reconfiguration
abbrev pub current : History → ℕ
current [] = 1
current (e ∷ h) = epoch_after (begins_epoch e.event) (current h)
