use Rattle.std.proofs.Common.{not, rules}
use Rattle.std.proofs.lemmas.List.Elements.{filter_from_retain}
use Rattle.sq_keeper.proofs.pipes.Pipes.sweep.Goals as goal

pub returns : goal.returns
returns g c = filter_from_retain _ (λ p. not p.closed) (λ p x b q h. search rules) _ _ _ c.retain.ensures.filtered
