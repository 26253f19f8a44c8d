use Rattle.std.proofs.Common.{◌≡◌, ◌≤◌, vec_capacity, vec_len}
use Rattle.sq_rewrite.proofs.sleepers.Sleepers.new.Given as goal

-- so many places were put, and there is room for all
abbrev pub invariant-loop-place : goal.invariant-loop-place
invariant-loop-place l = record {
  len : vec_len l.free ≡ l.place;
  room : l.places ≤ vec_capacity l.free;
  asleep : l.asleep ≡ l.initial.asleep;
}
