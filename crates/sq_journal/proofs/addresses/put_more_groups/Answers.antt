use Rattle.std.proofs.Common.{◌++◌, codes}
use Rattle.std.specs.Net.Text.{hex}
use Rattle.sq_journal.proofs.PutLaws.{halfway_more, halfway_stop, halfway_done, joined_next, joined_end}
use Rattle.sq_journal.proofs.addresses.put_more_groups.Goals as goal

pub loop-group-preserved : goal.loop-group-preserved
loop-group-preserved g c =
    halfway_more _ _ _ _ _ _ _ _ _ _ _ c.loop-group.invariant
    (joined_next (λ group. codes ":" ++ hex group) c.args.groups.now c.loop-group.group-index _ c.loop-group-test.true)
    c.in-Ok.ensures

pub returns-in-Err : goal.returns-in-Err
returns-in-Err g c =
    halfway_stop _ _ _ _ _ _ _ _ _ _ _ _ c.loop-group.invariant
    (joined_next (λ group. codes ":" ++ hex group) c.args.groups.now c.loop-group.group-index _ c.loop-group-test.true)
    c.in-Err.ensures

pub returns : goal.returns
returns g c =
    halfway_done _ _ _ _ _ _ _ c.loop-group.invariant
    (joined_end (λ group. codes ":" ++ hex group) c.args.groups.now c.loop-group.group-index c.loop-group-test.false)
