use Rattle.std.proofs.Common.{◌+◌, ◌≤◌, length, slice_index_or, arith}
use Rattle.sq_rules.specs.Configurations.{nestings}
use Rattle.sq_checks.proofs.NestLaws.{fits_within, group_nests}
use Rattle.sq_checks.proofs.FrameStepLaws.{group_step}
use Rattle.sq_checks.proofs.stepping.enter.Goals as goal

pub open-requires : goal.open-requires
open-requires c =
    let p = c.args.position.now in
    let fits : slice_index_or (nestings c.args.config.now.acls) c.args.term.acl 0 + length p.groups.list
    ≤ p.groups.room = fits_within c.args.config.now p c.args.term c.requires.next in
    let nests : 1 ≤ slice_index_or (nestings c.args.config.now.acls) c.args.term.acl 0 =
    group_nests c.args.config.now.acls c.args.term.acl c.requires.group in
    omega (arith, fits, nests)

pub returns : goal.returns
returns c = λ taken n. rw c.open.ensures
    (group_step taken c.args.config.now c.args.position.now c.args.term n c.requires.next c.requires.group)
