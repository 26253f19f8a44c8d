use Rattle.std.proofs.Common.{◌++◌, codes}
use Rattle.std.specs.List.{flat_map}
use Rattle.std.specs.Net.Text.{hex}
use Rattle.sq_journal.proofs.PutLaws.{puts_then, puts_stop}
use Rattle.sq_journal.proofs.addresses.put_joined.Goals as goal

pub returns-in-Err : goal.returns-in-Err
returns-in-Err g c = puts_stop _ _ _ _ _ _ (hex c.args.first) (flat_map (λ g. codes ":" ++ hex g) c.args.rest.now)
    c.in-Err.ensures

pub returns : goal.returns
returns g c = puts_then _ _ _ _ _ _ _ _ (hex c.args.first) (flat_map (λ g. codes ":" ++ hex g) c.args.rest.now)
    c.in-Ok.ensures c.put_more_groups.ensures
