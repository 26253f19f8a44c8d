use Rattle.std.proofs.Common.{◌≡◌, arith}
use Rattle.std.proofs.lemmas.Grind.{common_steps}
use Rattle.std.proofs.lemmas.Map.Text.{is_eq-slice_cmp}
use Rattle.sq_rules.proofs.names.Names.put.Goals as goal

pub returns-clause-ok : goal.returns-clause-ok
returns-clause-ok c =
    let same : c.in_ok-key.key ≡ c.args.name.now = grind (arith, common_steps) in
    λ q. rw (← c.self.view_is, ← is_eq-slice_cmp c.args.name.now q, ← same) (c.in-Ok.ensures.updates.0 q)
