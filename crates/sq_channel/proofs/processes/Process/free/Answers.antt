use Rattle.std.proofs.Common.{◌≡◌, ◌∙◌, ap, arith, length}
use Rattle.std.proofs.lemmas.Grind.{common_steps}
use Rattle.sq_machine.specs.Channels.{free_count}
use Rattle.sq_channel.proofs.ChannelLaws.{free_count_law}
use Rattle.sq_channel.proofs.SlotLaws.{all_slots, free_within}
use Rattle.sq_channel.proofs.processes.Process.free.Goals as goal

pub overflow_cast-result : goal.overflow_cast-result
overflow_cast-result c =
    let slots = c.self.inside.slots.items in
    let count : length c.self.inside.free.numbers ≡ free_count slots = ap length c.self.invariant.1.are
    ∙ free_count_law 0 slots in
    grind (arith, common_steps, count, free_within slots, c.self.invariant.0.few_slots)

pub returns-clause-count : goal.returns-clause-count
returns-clause-count c =
    let slots = c.self.inside.slots.items in
    let count : length c.self.inside.free.numbers ≡ free_count slots = ap length c.self.invariant.1.are
    ∙ free_count_law 0 slots in
    rw (← c.self.view_is) (c.len.ensures ∙ count)

pub returns-clause-all : goal.returns-clause-all
returns-clause-all c =
    let slots = c.self.inside.slots.items in
    let count : length c.self.inside.free.numbers ≡ free_count slots = ap length c.self.invariant.1.are
    ∙ free_count_law 0 slots in
    rw (← c.self.view_is) (grind (arith, common_steps, count, all_slots slots))
