use Rattle.std.proofs.Common.{◌≡◌, ◌∷◌, drop, length, ap, arith}
use Rattle.sq_checks.proofs.PlaceLaws.{group_moved}
use Rattle.sq_checks.proofs.FrameStepLaws.{first_here}
use Rattle.sq_checks.proofs.positions.advance_group.Goals as goal

pub set-requires : goal.set-requires
set-requires c =
    let list = c.args.position.now.groups.list in
    let here : list ≡ c.args.spot ∷ drop 1 list = first_here list c.args.spot c.requires.here in
    let count : length list ≡ length (c.args.spot ∷ drop 1 list) = ap length here in
    omega (arith, count)

pub returns : goal.returns
returns c = rw (c.set.ensures, c.moved.ensures) (group_moved c.args.position.now c.args.spot c.args.hit c.requires.here)
