use Rattle.std.proofs.Common.{◌≡◌, ◌∷◌, length, map, arith, ap, sym, ◌∙◌}
use Rattle.sq_base.specs.declared.helpers.Cause.TheVariants as cause
use Rattle.sq_machine.specs.Farms.{Waiting, waiting_number}
use Rattle.sq_machine.specs.Losses.{lose_all}
use Rattle.sq_farm.proofs.DueLaws.{once_lose}
use Rattle.sq_farm.proofs.LostLaws.{length_lose}
use Rattle.sq_farm.proofs.farms.lose_waiting.Goals as goal

pub loop-waiting-preserved : goal.loop-waiting-preserved
loop-waiting-preserved c =
    let old = c.loop-waiting in
    let w : Waiting = record { question = c.waiting.inside.question; text = c.waiting.inside.text } in
    let rest = map waiting_number c.pop_front.new.self.items in
    let all : map waiting_number old.queue.items ≡ w.question ∷ rest =
    ap (map waiting_number) (c.in-Some.ensures.items
    ∙ ap (λ z. z ∷ c.pop_front.new.self.items) (sym c.waiting.view_is)) in
    record {
      losses = ap (lose_all cause.NoHelper rest) c.lose.ensures.losses
          ∙ sym (ap (λ z. lose_all cause.NoHelper z old.losses.losses) all) ∙ old.invariant.losses;
      room = grind (
        arith,
        ap length c.lose.ensures.losses,
        length_lose w.question cause.NoHelper old.losses.losses,
        ap length c.in-Some.ensures.items,
        old.invariant.room,
        c.lose.ensures.room,
      );
      more = grind (arith, old.invariant.more, c.lose.ensures.room);
      once = λ q. rw (c.lose.ensures.losses)
          (once_lose cause.NoHelper w.question rest old.losses.losses (rw all at old.invariant.once) q);
    }
