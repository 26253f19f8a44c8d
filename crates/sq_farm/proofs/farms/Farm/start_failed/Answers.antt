use Rattle.std.proofs.Common.{ap, ◌∙◌}
use Rattle.sq_machine.specs.Farms.{places}
use Rattle.sq_farm.proofs.PlaceLaws.{places_emptied}
use Rattle.sq_farm.proofs.farms.Farm.start_failed.Goals as goal

pub returns-clause-stay : goal.returns-clause-stay
returns-clause-stay c = λ q. ap (places q) (c.self-2.view_is ∙ c.lose_queue.ensures) ∙ places_emptied _ _ q
