use Rattle.std.proofs.Common.{sym, ◌∙◌}
use Rattle.sq_turns.specs.Turns.{access_of}
use Rattle.sq_turns.proofs.ForwardLaws.{connects_forwards, trades_forwards}
use Rattle.sq_turns.proofs.forwarding.forward.Goals as goal

pub returns-then-is_connect-clause-told : goal.returns-then-is_connect-clause-told
returns-then-is_connect-clause-told g c = connects_forwards (access_of c.args.request.now.judged.now)
    c.args.request.now.sent.now c.args.request.now.addr
    c.args.request.now.plan
    (sym c.is_connect.ensures ∙ c.if-is_connect.true) c.connect.ensures.told

pub returns-else-is_connect-clause-told : goal.returns-else-is_connect-clause-told
returns-else-is_connect-clause-told g c = trades_forwards (access_of c.args.request.now.judged.now)
    c.args.request.now.sent.now c.args.request.now.addr
    c.args.request.now.plan
    (sym c.is_connect.ensures ∙ c.if-is_connect.false) c.trade.ensures.told
