use Rattle.std.proofs.Common.{◌≡◌, ◌∙◌, sym, Some}
use Rattle.sq_machine.specs.OpenLookups.{pending_in}
use Rattle.sq_lookup.specs.Index.{rows_of}
use Rattle.sq_lookup.proofs.OpenLaws.{pending_open}
use Rattle.sq_lookup.proofs.IndexLaws.{open_is}
use Rattle.sq_lookup.proofs.lookups.Lookups.join.Goals as goal

pub add-requires : goal.add-requires
add-requires c =
    let pend : pending_in c.args.key.now (rows_of c.self.inside.rows) ≡ Some c.in-Some.question =
    sym (c.self.invariant.known c.args.key.now) ∙ sym c.in-Some.ensures in
    sym (open_is c.in-Some.question c.self.inside.rows)
    ∙ pending_open c.in-Some.question c.args.key.now (rows_of c.self.inside.rows) pend
