use Rattle.std.proofs.Common.{arith}
use Rattle.std.proofs.lemmas.Grind.{common_steps}
use Rattle.sq_channel.proofs.SlotLaws.{all_slots}
use Rattle.sq_channel.proofs.processes.Process.open_count.Goals as goal

pub overflow_cast-result : goal.overflow_cast-result
overflow_cast-result c =
    grind (
      arith,
      common_steps,
      c.self.invariant.2.count,
      all_slots c.self.inside.slots.items,
      c.self.invariant.0.few_slots,
    )
