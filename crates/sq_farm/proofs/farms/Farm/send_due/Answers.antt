use Rattle.std.proofs.Common.{◌<◌, length, arith, sym, ◌∙◌}
use Rattle.std.proofs.lemmas.Grind.{common_steps}
use Rattle.sq_farm.proofs.DueLaws.{send_some}
use Rattle.sq_farm.proofs.farms.Farm.send_due.Goals as goal

pub returns-then-not-is_empty : goal.returns-then-not-is_empty
returns-then-not-is_empty c =
    let f = c.self.inside in
    let some : 0 < length f.queue.items = grind (arith, common_steps, c.is_empty.ensures, c.if-not-is_empty.true) in
    rw (← c.self.view_is) (c.some_free.ensures ∙ sym (send_some f.queue.items f.procs some))
