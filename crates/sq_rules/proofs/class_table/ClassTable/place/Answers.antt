use Rattle.std.proofs.Common.{arith}
use Rattle.sq_rules.proofs.NameLaws.{place_within}
use Rattle.sq_rules.proofs.class_table.ClassTable.place.Goals as goal

pub returns-clause-within : goal.returns-clause-within
returns-clause-within c =
    rw (← c.self.view_is, c.place.ensures, c.self.invariant.0 c.args.name.now)
    (place_within (λ a. a.name) 0 _ c.self.inside.classes.items c.args.name.now (omega arith))
