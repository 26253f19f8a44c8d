use Rattle.std.proofs.Common.{rules}
use Rattle.sq_helper_threads.specs.PumpRounds.{keepers_of}
use Rattle.sq_helper_threads.proofs.HandLaws.{gives_none, gives_some}
use Rattle.sq_helper_threads.proofs.pumping.HelperKeepers.hand_out.Goals as goal

pub loop-half-init : goal.loop-half-init
loop-half-init g c = record {
  gives = gives_none c.args.pump.now c.reserve.new.self (keepers_of c.args.self.now.counts c.args.self.now.parts.spare)
      c.reserve.ensures.same;
  room = search rules;
  asking_room = search rules;
}

pub returns-in-Err : goal.returns-in-Err
returns-in-Err g c =
    gives_some c.args.pump.now c.loop-half.pump c.next_half.new.self c.put_back.new.self
    (keepers_of c.args.self.now.counts c.args.self.now.parts.spare)
    (keepers_of c.loop-half.self.counts c.loop-half.self.parts.spare)
    (keepers_of c.start.new.self.counts c.start.new.self.parts.spare) c.in-Some.half c.in-Err.back
    c.loop-half.invariant.gives (search rules) (search rules) (search rules) (search rules) (search rules)
    (search rules)
