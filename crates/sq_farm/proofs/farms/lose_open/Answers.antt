use Rattle.std.proofs.Common.{◌≡◌, ◌+◌, ◌++◌, ◌<◌, drop, length, arith, ap, sym, ◌∙◌}
use Rattle.std.proofs.lemmas.Grind.{common_steps}
use Rattle.std.specs.Option.{option_to_list}
use Rattle.sq_machine.specs.Channels.{opened}
use Rattle.sq_machine.specs.Losses.{lose_all}
use Rattle.sq_farm.proofs.FarmLaws.{length_lose_all}
use Rattle.sq_farm.proofs.PlaceLaws.{lose_slot_law, once_slot, opened_step}
use Rattle.sq_farm.proofs.CallLaws.{length_join}
use Rattle.sq_farm.proofs.farms.lose_open.Goals as goal

pub loop-slot-preserved : goal.loop-slot-preserved
loop-slot-preserved c =
    let old = c.loop-slot in
    let slots = c.slots-slot-items.result.now in
    let s = c.slot-item.result in
    let rest = opened (drop (old.slot-index + 1) slots) in
    let within : old.slot-index < length slots = grind (arith, common_steps) in
    let all : opened (drop old.slot-index slots) ≡ option_to_list s ++ rest =
    opened_step slots old.slot-index s within c.slot-item.is in
    let ls = old.losses.losses in
    record {
      losses = ap (lose_all c.args.cause rest) c.lose_slot.ensures.losses ∙ lose_slot_law c.args.cause s rest ls
          ∙ sym (ap (λ z. lose_all c.args.cause z ls) all) ∙ old.invariant.losses;
      room = grind (
        arith,
        ap length c.lose_slot.ensures.losses,
        length_lose_all c.args.cause (option_to_list s) ls,
        ap length all,
        length_join (option_to_list s) rest,
        old.invariant.room,
        c.lose_slot.ensures.room,
      );
      more = grind (arith, old.invariant.more, c.lose_slot.ensures.room);
      once = rw (c.lose_slot.ensures.losses) (once_slot c.args.cause s rest ls (rw all at old.invariant.once));
    }
