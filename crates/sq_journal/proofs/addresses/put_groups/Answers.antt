use Rattle.std.proofs.Common.{◌<◌, ◌++◌, ◌∙◌, ap, arith, codes, get_or, length}
use Rattle.std.specs.List.{flat_map}
use Rattle.std.specs.Net.Text.{hex}
use Rattle.sq_journal.proofs.AddressPutLaws.{groups_first}
use Rattle.sq_journal.proofs.PutSameLaws.{puts_as}
use Rattle.sq_journal.proofs.addresses.put_groups.Goals as goal

pub returns : goal.returns
returns g c =
    let groups = c.args.groups.now in
    let some : 0 < length groups = grind arith in
    puts_as _ _ _ _ _ _ _ (ap (λ l. hex (get_or groups 0 0) ++ flat_map (λ g. codes ":" ++ hex g) l)
    c.split_at.ensures.back ∙ groups_first groups some) c.put_joined.ensures
