use Rattle.std.proofs.Common.{◌-◌, arith, ap, length, drop, length-take}
use Rattle.sq_forward.proofs.AheadLaws.{dropped}
use Rattle.sq_forward.proofs.ahead.Ahead.drop_front.Goals as goal

pub returns-else-self-ge-READ : goal.returns-else-self-ge-READ
returns-else-self-ge-READ c =
    let x = c.self.inside in
    dropped x.start x.end c.args.n x.bytes.items c.args.self.now c.self.invariant.ordered
    (omega (arith, c.requires, ap length c.self.view_is, length-take (x.end - x.start) (drop x.start x.bytes.items)))
    c.self.view_is
