use Rattle.std.proofs.Common.{◌≡◌, length, not, ◌==◌, arith, ◌∙◌, sym, ap}
use Rattle.std.proofs.lemmas.Grind.{common_steps}
use Rattle.std.specs.Vec.{vec_len}
use Rattle.sq_machine.specs.Living.{free_numbers}
use Rattle.sq_farm.proofs.LivingLaws.{some_free_law}
use Rattle.sq_farm.proofs.procs.Procs.some_free.Goals as goal

pub returns : goal.returns
returns c =
    let rows = c.self.inside.rows.items in
    let len : vec_len c.self.inside.free ≡ length (free_numbers rows) =
    grind (arith, common_steps, ap length c.self.invariant.1) in
    rw (← c.self.view_is) (ap not (c.is_empty.ensures ∙ ap (λ n. n == 0) len) ∙ sym (some_free_law rows))
