use Rattle.std.proofs.Common.{◌<◌, length}
use Rattle.sq_helper_threads.specs.PumpRounds.{held_halves, keepers_of}
use Rattle.sq_helper_threads.proofs.HandLaws.{Gives}
use Rattle.sq_helper_threads.proofs.pumping.HelperKeepers.hand_out.Given as goal

-- what was handed out so far, and one of each kind can be taken back
abbrev pub invariant-loop-half : goal.invariant-loop-half
invariant-loop-half g l = record {
  gives : Gives l.fn.pump (keepers_of l.fn.self.counts l.fn.self.parts.spare) l.pump
      (keepers_of l.self.counts l.self.parts.spare);
  room : 0 < l.pump.room;
  asking_room : 0 < l.pump.asking_room;
}

abbrev pub decreases-loop-half : goal.decreases-loop-half
decreases-loop-half g l = length (held_halves l.pump)
