use Rattle.std.proofs.Common.{rules}
use Rattle.sq_forward.proofs.WayLaws.{tunnel_goes, tunnel_paid}
use Rattle.sq_forward.proofs.tunnels.tunnel.Goals as goal

pub returns-clause-down : goal.returns-clause-down
returns-clause-down g c = tunnel_goes _ _ c.joined.result _ _ _ _ _ _ c.joined.ensures (search rules) (search rules)

pub returns-clause-down_paid : goal.returns-clause-down_paid
returns-clause-down_paid g c = λ e. tunnel_paid _ _ c.joined.result c.joined.ensures (search rules) e
