use Rattle.std.proofs.Common.{Ok, Err, refl}
use Rattle.sq_turns.specs.Judging.{Seats}
use Rattle.sq_turns.proofs.SeatLaws.{seats_rest, tells_unseated}
use Rattle.sq_turns.proofs.StandLaws.{served_kept, stands_sit}
use Rattle.sq_turns.proofs.hub_front.HubFrontFront.sit.Goals as goal

pub returns-in-Ok-clause-told : goal.returns-in-Ok-clause-told
returns-in-Ok-clause-told g c list st =
    stands_sit c.args.self.now.conn c.args.judged.now (Ok tt) _ _ _ _ list
    (served_kept (Seats c.args.judged.now (Ok c.in-Ok.seat)) _ _ (seats_rest c.args.judged.now (Ok c.in-Ok.seat))
    c.in-Ok.ensures.seats) c.take_seat.ensures.refused_later st

pub returns-in-Err-clause-sits : goal.returns-in-Err-clause-sits
returns-in-Err-clause-sits g c = tells_unseated c.args.judged.now c.in-Err.fault _ _ _ _ refl c.in-Err.ensures.seats

pub returns-in-Err-clause-told : goal.returns-in-Err-clause-told
returns-in-Err-clause-told g c list st =
    stands_sit c.args.self.now.conn c.args.judged.now (Err c.in-Err.fault) _ _ _ _ list
    (served_kept (Seats c.args.judged.now (Err c.in-Err.fault)) _ _ (seats_rest c.args.judged.now (Err c.in-Err.fault))
    c.in-Err.ensures.seats) c.take_seat.ensures.refused_later st
