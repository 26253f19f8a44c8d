use Rattle.std.proofs.Common.{◌≡◌, List, [], ◌∷◌, ◌==◌, length, arith, refl, ap, ◌∙◌}
use Rattle.std.proofs.lemmas.Grind.{common_steps}
use Rattle.std.specs.Vec.{vec_len}
use Rattle.sq_machine.specs.Living.{Living, is_none_living}
use Rattle.sq_farm.proofs.procs.Procs.is_empty.Goals as goal

none_by : (rows : List Living) → (length rows == 0) ≡ is_none_living rows
none_by [] = refl
none_by (r ∷ rows) = grind arith

pub returns : goal.returns
returns c =
    let rows = c.self.inside.rows.items in
    let len : vec_len c.self.inside.rows ≡ length rows = grind (arith, common_steps) in
    rw (← c.self.view_is) (c.is_empty.ensures ∙ ap (λ n. n == 0) len ∙ none_by rows)
