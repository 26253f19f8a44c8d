use Rattle.std.proofs.Common.{◌≡◌, ◌+◌, ◌≤◌, ℕ, drop, length}
use Rattle.sq_machine.specs.Channels.{opened}
use Rattle.sq_machine.specs.Losses.{lose_all, times_lost}
use Rattle.sq_machine.specs.Rising.{times_of}
use Rattle.sq_farm.proofs.farms.lose_open.Given as goal

abbrev pub invariant-loop-slot : goal.invariant-loop-slot
invariant-loop-slot l = record {
  losses : lose_all l.cause (opened (drop l.slot-index l.slot-items)) l.losses.losses
      ≡ lose_all l.cause (opened l.fn.ended.slots) l.fn.losses.losses;
  room : length l.losses.losses + length (opened (drop l.slot-index l.slot-items)) ≤ l.losses.room;
  more : l.fn.losses.room ≤ l.losses.room;
  once : (q : ℕ) → times_lost q l.losses.losses + times_of q (opened (drop l.slot-index l.slot-items)) ≤ 1;
}
