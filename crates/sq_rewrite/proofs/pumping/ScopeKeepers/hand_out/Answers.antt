use Rattle.std.proofs.Common.{rules}
use Rattle.sq_rewrite.proofs.HandLaws.{gives_none, gives_some}
use Rattle.sq_rewrite.proofs.pumping.ScopeKeepers.hand_out.Goals as goal

pub loop-half-init : goal.loop-half-init
loop-half-init g c = gives_none c.args.pump.now c.args.self.now.counts

pub returns-in-Err : goal.returns-in-Err
returns-in-Err g c =
    gives_some c.args.pump.now c.loop-half.pump c.reader.new.self c.unread.new.self c.args.self.now.counts
    c.loop-half.self.counts c.start.new.self.counts c.in-Some.half c.in-Err.back c.loop-half.invariant (search rules)
    (search rules) (search rules) (search rules) (search rules) (search rules)
