use Rattle.std.proofs.Common.{◌≡◌, ◌<◌, ◌∙◌, Some, ap, arith, length, sym}
use Rattle.std.proofs.lemmas.Grind.{common_steps}
use Rattle.sq_machine.specs.Channels.{channel_name, free_count, least_free}
use Rattle.sq_channel.proofs.ChannelLaws.{first-is, free_count_law}
use Rattle.sq_channel.proofs.processes.Process.next_channel.Goals as goal

pub first-channel-requires : goal.first-channel-requires
first-channel-requires c =
    let slots = c.self.inside.slots.items in
    let room : 0 < free_count slots = rw (← c.self.view_is) at c.requires in
    let count : length c.self.inside.free.numbers ≡ free_count slots = ap length c.self.invariant.1.are
    ∙ free_count_law 0 slots in
    grind (arith, common_steps, count, room)

pub returns-then-self : goal.returns-then-self
returns-then-self c =
    let slots = c.self.inside.slots.items in
    let room : 0 < free_count slots = rw (← c.self.view_is) at c.requires in
    let is : c.first-channel.result ≡ least_free slots =
    first-is slots c.self.inside.free.numbers c.first-channel.result room c.self.invariant.1.are
    c.first-channel.ensures in
    rw (← c.self.view_is) (ap Some is ∙ ap (λ b. channel_name b (least_free slots)) (sym c.if-self.true))
