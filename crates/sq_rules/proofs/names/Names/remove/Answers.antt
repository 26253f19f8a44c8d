use Rattle.std.proofs.lemmas.Map.Text.{is_eq-slice_cmp}
use Rattle.sq_rules.proofs.names.Names.remove.Goals as goal

pub returns : goal.returns
returns c = λ q. rw (← c.self.view_is, ← is_eq-slice_cmp c.args.name.now q) (c.remove.ensures.updates.0 q)
