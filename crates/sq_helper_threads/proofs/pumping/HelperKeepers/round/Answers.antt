use Rattle.std.proofs.Common.{subst}
use Rattle.sq_helper_threads.specs.Halves.{in_tells}
use Rattle.sq_helper_threads.specs.PumpRounds.{TurnsAndEnds}
use Rattle.sq_helper_threads.specs.Pumps.{pump_tells}
use Rattle.sq_helper_threads.proofs.pumping.HelperKeepers.round.Goals as goal

pub returns-clause-round : goal.returns-clause-round
returns-clause-round g c = record {
  handing = c.hand_out-handed.result;
  handed = c.hand_out-handed.new.pump;
  hands = c.hand_out-handed.ensures;
  moment = c.now-now.result;
  gave = c.now-now.ensures.moment;
  ends = subst (λ b. TurnsAndEnds (pump_tells g.K.HelperCalls.programs g.K.TellsJournal.configs
      g.H.S.ChildOut.Source.faults (in_tells {R = g.row.R.Denot} g.H.S.ChildIn.Sink.contents g.H.S.ChildIn.Sink.faults
      g.H.S.ChildIn.Out.closed)) c.now-now.result b c.hand_out-handed.new.pump c.turn_and_end.result
      c.turn_and_end.new.self) c.is_refusal.ensures c.turn_and_end.ensures;
}
