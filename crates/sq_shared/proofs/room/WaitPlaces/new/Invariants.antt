use Rattle.std.proofs.Common.{◌≡◌, ◌≤◌, vec_capacity, vec_len}
use Rattle.sq_shared.proofs.room.WaitPlaces.new.Given as goal

-- so many places were made, and there is room for all
abbrev pub invariant-loop : goal.invariant-loop
invariant-loop l = record {
  len : vec_len l.conditions ≡ l.counter;
  room : l.places ≤ vec_capacity l.conditions;
}
