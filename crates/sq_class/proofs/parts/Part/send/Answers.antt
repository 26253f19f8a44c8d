use Rattle.std.proofs.Common.{ap, ◌∙◌}
use Rattle.sq_machine.specs.Farms.{places}
use Rattle.sq_farm.proofs.PlaceLaws.{places_send}
use Rattle.sq_class.proofs.parts.Part.send.Goals as goal

pub invariant_of-self : goal.invariant_of-self
invariant_of-self c = λ q. ap (places q) c.send-act.ensures.value ∙ places_send c.self.inside.farm q
    ∙ c.self.invariant q
