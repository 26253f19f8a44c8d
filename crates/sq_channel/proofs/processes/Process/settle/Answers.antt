use Rattle.std.proofs.Common.{◌≡◌, ◌∙◌, true, None, if◌then◌else◌, ◌==◌, is_some, ap, arith, length, subst, sym}
use Rattle.std.specs.List.{insert}
use Rattle.sq_machine.specs.Rising.{place_among, times_of}
use Rattle.sq_channel.specs.Indexes.{free_channels}
use Rattle.std.proofs.lemmas.Grind.{common_steps}
use Rattle.sq_machine.specs.Channels.{free_count, is_open, settled}
use Rattle.sq_channel.proofs.ChannelLaws.{channel_open, channel_settled, free_count_law, free_given, not_free, on_channel_law, IsOn, OnChannel}
use Rattle.sq_channel.proofs.SlotLaws.{IsProcess_settled, all_slots, free_settled, length_settled, open_once}
use Rattle.sq_channel.proofs.processes.Process.settle.Goals as goal

pub forget-channel-requires : goal.forget-channel-requires
forget-channel-requires c =
    let slots = c.self.inside.slots.items in
    let q = c.args.question in
    let is : is_open q slots ≡ true = rw (← c.self.view_is) at c.requires in
    ap is_some (c.self.invariant.2.are q) ∙ channel_open q slots ∙ is

pub index_mut-requires : goal.index_mut-requires
index_mut-requires c =
    let slots = c.self.inside.slots.items in
    let q = c.args.question in
    let on : OnChannel q slots c.forget-channel.result =
    subst (IsOn q slots) (sym (c.self.invariant.2.are q) ∙ sym c.forget-channel.ensures.channel)
    (on_channel_law q slots) in
    grind (arith, common_steps, on.within)

pub give-requires-clause-room : goal.give-requires-clause-room
give-requires-clause-room c =
    let slots = c.self.inside.slots.items in
    let count : length c.self.inside.free.numbers ≡ free_count slots = ap length c.self.invariant.1.are
    ∙ free_count_law 0 slots in
    grind (
      arith,
      common_steps,
      count,
      all_slots slots,
      c.self.invariant.2.count,
      c.forget-channel.ensures.count,
      c.self.invariant.1.room,
    )

pub give-requires-clause-other : goal.give-requires-clause-other
give-requires-clause-other c =
    let slots = c.self.inside.slots.items in
    let q = c.args.question in
    let on : OnChannel q slots c.forget-channel.result =
    subst (IsOn q slots) (sym (c.self.invariant.2.are q) ∙ sym c.forget-channel.ensures.channel)
    (on_channel_law q slots) in
    ap (times_of c.forget-channel.result) c.self.invariant.1.are
    ∙ not_free 0 c.forget-channel.result slots q c.forget-channel.result (omega arith) on.slot

pub invariant_of-self : goal.invariant_of-self
invariant_of-self c =
    let slots = c.self.inside.slots.items in
    let q = c.args.question in
    let n = c.forget-channel.result in
    let is : is_open q slots ≡ true = rw (← c.self.view_is) at c.requires in
    let once = c.self.invariant.0.once q in
    let one = open_once q slots is once in
    let on : OnChannel q slots n =
    subst (IsOn q slots) (sym (c.self.invariant.2.are q) ∙ sym c.forget-channel.ensures.channel)
    (on_channel_law q slots) in
    rw (on.cleared once) (
      IsProcess_settled _ q c.self.invariant.0,
      record {
        are = c.give.ensures.numbers ∙ ap (λ z. insert z (place_among n z) n) c.self.invariant.1.are
            ∙ sym (free_given 0 n slots q n (omega arith) on.slot) ∙ ap (free_channels 0) (on.cleared once);
        room = grind (arith, length_settled q slots, c.self.invariant.1.room, c.give.ensures.room);
      },
      record {
        are = λ k. c.forget-channel.ensures.channels k ∙ ap (λ o. if k == q then None else o) (c.self.invariant.2.are k)
            ∙ sym (channel_settled k q slots);
        count = grind (
          arith,
          c.forget-channel.ensures.count,
          c.self.invariant.2.count,
          all_slots slots,
          all_slots (settled q slots),
          free_settled q slots,
          one,
          length_settled q slots,
        );
        room = grind (arith, length_settled q slots, c.self.invariant.2.room, c.forget-channel.ensures.room);
      },
    )

pub returns-clause-value : goal.returns-clause-value
returns-clause-value c =
    let slots = c.self.inside.slots.items in
    let q = c.args.question in
    let on : OnChannel q slots c.forget-channel.result =
    subst (IsOn q slots) (sym (c.self.invariant.2.are q) ∙ sym c.forget-channel.ensures.channel)
    (on_channel_law q slots) in
    rw (← c.self.view_is) (ap (λ s. record { numbered = c.self.inside.numbered; slots = s })
    (on.cleared (c.self.invariant.0.once q)))

pub returns-clause-free : goal.returns-clause-free
returns-clause-free c =
    let slots = c.self.inside.slots.items in
    let q = c.args.question in
    let is : is_open q slots ≡ true = rw (← c.self.view_is) at c.requires in
    let once = c.self.invariant.0.once q in
    let one = open_once q slots is once in
    let on : OnChannel q slots c.forget-channel.result =
    subst (IsOn q slots) (sym (c.self.invariant.2.are q) ∙ sym c.forget-channel.ensures.channel)
    (on_channel_law q slots) in
    rw (← c.self.view_is, on.cleared once) (grind (arith, free_settled q slots, one))
