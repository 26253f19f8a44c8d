use Rattle.std.proofs.Common.{Err, sym, subst}
use Rattle.sq_replay.specs.declared.stops.Stop.{Stop}
use Rattle.sq_verify.specs.Promised.{Accepts}
use Rattle.sq_verify.proofs.PlayLaws.{accepts_none}
use Rattle.sq_verify.proofs.playing.accept.Goals as goal

pub returns-in-Err : goal.returns-in-Err
returns-in-Err c = subst (λ (s : Stop). Accepts c.args.text.now (Err s)) (sym c.stop_by.ensures)
    (accepts_none c.args.text.now c.in-Err.fault c.in-Err.ensures.err)
