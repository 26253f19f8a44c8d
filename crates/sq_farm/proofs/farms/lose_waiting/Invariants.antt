use Rattle.std.proofs.Common.{◌≡◌, ◌+◌, ◌≤◌, ℕ, length, map}
use Rattle.sq_base.specs.declared.helpers.Cause.TheVariants as cause
use Rattle.sq_machine.specs.Farms.{waiting_number}
use Rattle.sq_machine.specs.Losses.{lose_all, times_lost}
use Rattle.sq_machine.specs.Rising.{times_of}
use Rattle.sq_farm.proofs.farms.lose_waiting.Given as goal

abbrev pub decreases-loop-waiting : goal.decreases-loop-waiting
decreases-loop-waiting l = length l.queue.items

abbrev pub invariant-loop-waiting : goal.invariant-loop-waiting
invariant-loop-waiting l = record {
  losses : lose_all cause.NoHelper (map waiting_number l.queue.items) l.losses.losses
      ≡ lose_all cause.NoHelper (map waiting_number l.fn.queue.items) l.fn.losses.losses;
  room : length l.losses.losses + length l.queue.items ≤ l.losses.room;
  more : l.fn.losses.room ≤ l.losses.room;
  once : (q : ℕ) → times_lost q l.losses.losses + times_of q (map waiting_number l.queue.items) ≤ 1;
}
