use Rattle.std.proofs.Common.{◌≡◌, ◌++◌, ◌∷◌, [], arith, ap, sym, ◌∙◌}
use Rattle.std.proofs.lemmas.Grind.{common_steps}
use Rattle.sq_machine.specs.Farms.{Waiting}
use Rattle.sq_farm.proofs.PlaceLaws.{places_put}
use Rattle.sq_farm.proofs.DueLaws.{IsStock_put, length-push}
use Rattle.sq_farm.proofs.farms.Farm.put.Goals as goal

pub invariant_of-self-2 : goal.invariant_of-self-2
invariant_of-self-2 c =
    let f = c.self.inside in
    let w : Waiting = record { question = c.args.question; text = c.args.text } in
    let queue : c.push_back_reserved.new.self.items ≡ f.queue.items ++ w ∷ [] = c.push_back_reserved.ensures.items
    ∙ ap (λ z. z ++ w ∷ []) c.reserve-2.ensures.items in
    let free = rw (← c.self.view_is) at (sym c.is_full.ensures ∙ c.if-is_full.false) in
    rw (queue, c.reserve.ensures.same) (
      IsStock_put _ w c.self.invariant.0 free (rw (← c.self.view_is) at c.requires),
      c.self.invariant.1,
      grind (
        arith,
        common_steps,
        length-push w f.queue.items,
        c.in_ok-reserve.ensures.room,
        c.reserve.ensures.same,
        c.self.invariant.1,
        c.len.ensures,
      ),
    )

pub returns-clause-stay : goal.returns-clause-stay
returns-clause-stay c = λ q.
    let f = c.self.inside in
    let w : Waiting = record { question = c.args.question; text = c.args.text } in
    let queue : c.push_back_reserved.new.self.items ≡ f.queue.items ++ w ∷ [] = c.push_back_reserved.ensures.items
    ∙ ap (λ z. z ++ w ∷ []) c.reserve-2.ensures.items in
    rw (← c.self.view_is, queue, c.reserve.ensures.same)
    (places_put (record {
      concurrency = f.concurrency;
      children_max = f.children_max;
      queue_size = f.queue_size;
      queue = f.queue.items;
      procs = f.procs;
      owed = f.owed;
      starting = f.starting;
      held = f.held;
      losses = f.losses.losses;
    }) w (rw (← c.self.view_is) at c.requires) q)
