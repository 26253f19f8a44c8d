use Rattle.std.specs.Arc.{arc_value}
use Rattle.sq_urlmatch.proofs.PlaceLaws.{finds_in_place}
use Rattle.sq_urlmatch.proofs.setup.Setup.is_match.Goals as goal

pub returns-clause-found : goal.returns-clause-found
returns-clause-found c =
    let same = finds_in_place (arc_value c.self.inside.config).acls c.args.acl in
    rw (← c.self.view_is, ← same, ← c.self.invariant.found) c.is_match.ensures.found
