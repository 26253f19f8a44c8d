use Rattle.std.proofs.Common.{◌≡◌, ◌∙◌, ap, sym, true}
use Rattle.sq_machine.specs.Events.{is_number}
use Rattle.sq_lookup.specs.Index.{listed_in}
use Rattle.sq_lookup.proofs.MapLaws.{self_number}
use Rattle.sq_lookup.proofs.IndexLaws.{listed_row}
use Rattle.sq_lookup.proofs.lookups.Lookups.leave.Goals as goal

pub drop_check-requires : goal.drop_check-requires
drop_check-requires c =
    let listed : listed_in c.self.inside.rows c.in-Some.question c.args.check ≡ true =
    c.self.invariant.listed c.in-Some.question c.args.check ∙ ap (is_number c.in-Some.question) (sym c.in-Some.ensures)
    ∙ self_number c.in-Some.question in
    listed_row c.in-Some.question c.args.check c.self.inside.rows listed
