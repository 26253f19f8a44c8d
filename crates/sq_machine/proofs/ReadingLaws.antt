-- Laws of the time of a history.
use Rattle.std.proofs.Common.{◌≡◌, ◌∷◌, refl}
use Rattle.sq_machine.specs.Entries.{History, Noted}
use Rattle.sq_machine.specs.Events.{begun_offset}
use Rattle.sq_machine.specs.Readings.{offset_of, offset_after}

-- the offset of local time after one more entry
pub offset_of_more : (e : Noted) (h : History) → offset_of (e ∷ h) ≡ offset_after (begun_offset e.event) (offset_of h)
unfolding offset_of
offset_of_more e h = refl
