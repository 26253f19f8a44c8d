use Rattle.std.proofs.Common.{◌≡◌, ◌∷◌, drop, length, subst, arith, ap}
use Rattle.sq_checks.proofs.FrameStepLaws.{closed_step, first_here}
use Rattle.sq_checks.specs.Groups.{AreOpen}
use Rattle.sq_checks.proofs.stepping.leave.Goals as goal

pub close-requires : goal.close-requires
close-requires c =
    let list = c.args.position.now.groups.list in
    let here : list ≡ c.args.spot ∷ drop 1 list = first_here list c.args.spot c.requires.here in
    let count : length list ≡ length (c.args.spot ∷ drop 1 list) = ap length here in
    omega (arith, count)

pub advance-requires-clause-line : goal.advance-requires-clause-line
advance-requires-clause-line c =
    let p = c.args.position.now in
    let are : AreOpen c.args.config.now p.groups.room p.line p.term (c.args.spot ∷ drop 1 p.groups.list) =
    subst (AreOpen c.args.config.now p.groups.room p.line p.term) (first_here p.groups.list c.args.spot c.requires.here)
    c.requires.position.groups in
    rw c.close.ensures are.0.small.0

pub advance-requires-clause-term : goal.advance-requires-clause-term
advance-requires-clause-term c =
    let p = c.args.position.now in
    let are : AreOpen c.args.config.now p.groups.room p.line p.term (c.args.spot ∷ drop 1 p.groups.list) =
    subst (AreOpen c.args.config.now p.groups.room p.line p.term) (first_here p.groups.list c.args.spot c.requires.here)
    c.requires.position.groups in
    rw c.close.ensures are.0.small.1

pub returns : goal.returns
returns c = λ taken n.
    let p = c.args.position.now in
    let first : p.groups.list ≡ c.args.spot ∷ drop 1 p.groups.list =
    first_here p.groups.list c.args.spot c.requires.here in
    rw (c.advance.ensures, c.turned.ensures, c.close.ensures)
    (closed_step taken c.args.config.now p c.args.spot (drop 1 p.groups.list) c.args.hit n c.requires.position first
    c.requires.next)
