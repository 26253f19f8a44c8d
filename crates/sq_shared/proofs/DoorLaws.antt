-- A link that the listener gave came between two states of it.
use Rattle.std.proofs.Common.{ℕ, List, Option}
use Rattle.sq_outside.specs.Dials.{Coming, LinkComes}
use Rattle.sq_outside.specs.World.{IfLink}
use Rattle.sq_outside.specs.declared.links.Accepted.{Accepted}
use Rattle.sq_outside.specs.declared.links.Accepted.TheVariants.{Link, Stopped, Failed}
use Rattle.sq_shared.specs.Doors.{ComesFrom}

pub comes_from : {I O L : Type 0} (coming : L → Option (List Coming)) (left : I → Option (List ℕ))
    (contents : O → Option (List ℕ)) (before now : L) (answer : Accepted I O)
    → IfLink answer (λ from to addr port. LinkComes (coming before) (coming now) addr port (left from) (contents to))
    → IfLink answer (λ from to addr port. ComesFrom coming addr port (left from) (contents to))
comes_from coming left contents before now (Link from to addr port) x = (before, now, x)
comes_from coming left contents before now Stopped x = tt
comes_from coming left contents before now Failed x = tt
