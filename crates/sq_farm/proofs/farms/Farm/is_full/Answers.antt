use Rattle.std.proofs.Common.{◌≡◌, ◌+◌, ◌*◌, length, max, nat_le, arith, ap, ◌∙◌}
use Rattle.std.proofs.lemmas.Grind.{common_steps}
use Rattle.sq_machine.specs.Farms.{open_in}
use Rattle.sq_farm.proofs.DueLaws.{full_is, max_swap}
use Rattle.sq_farm.proofs.farms.Farm.is_full.Goals as goal

pub returns : goal.returns
returns c =
    let f = c.self.inside in
    let most : f.queue_size + c.max.result * f.children_max ≡ f.queue_size + max 1 f.concurrency * f.children_max =
    ap (λ n. f.queue_size + n * f.children_max) (c.max.ensures ∙ max_swap f.concurrency) in
    let all : c.len.result + f.«open» ≡ length f.queue.items + open_in f.procs =
    grind (arith, common_steps, c.len.ensures, c.self.invariant.1) in
    rw (← c.self.view_is)
    (ap (λ n. nat_le n (c.len.result + f.«open»)) most
    ∙ ap (nat_le (f.queue_size + max 1 f.concurrency * f.children_max)) all ∙ full_is _ c.self.invariant.0)
