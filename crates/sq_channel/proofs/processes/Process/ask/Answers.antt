use Rattle.std.proofs.Common.{◌≡◌, ◌<◌, ◌∙◌, false, if◌then◌else◌, ◌==◌, Some, is_some, ap, arith, length, sym}
use Rattle.sq_channel.specs.Indexes.{channel_in}
use Rattle.std.proofs.lemmas.Grind.{common_steps}
use Rattle.sq_machine.specs.Channels.{asked, channel_name, free_count, is_open, least_free}
use Rattle.sq_channel.proofs.ChannelLaws.{channel_asked, channel_open, free_count_law, none-of, taken}
use Rattle.sq_channel.proofs.SlotLaws.{IsProcess_asked, all_slots, free_asked, least_within, length_asked, set_asked}
use Rattle.sq_channel.proofs.processes.Process.ask.Goals as goal
use Rattle.sq_channel.proofs.processes.Process.ask.Goals.{then-self, else-self}

pub take-channel-requires : goal.take-channel-requires
take-channel-requires c =
    let slots = c.self.inside.slots.items in
    let room : 0 < free_count slots = rw (← c.self.view_is) at c.requires.room in
    let count : length c.self.inside.free.numbers ≡ free_count slots = ap length c.self.invariant.1.are
    ∙ free_count_law 0 slots in
    grind (arith, common_steps, count, room)

pub index_mut-requires : goal.index_mut-requires
index_mut-requires c =
    let slots = c.self.inside.slots.items in
    let room : 0 < free_count slots = rw (← c.self.view_is) at c.requires.room in
    let t = taken c.args.question slots _ _ c.take-channel.result room c.self.invariant.1.are
    c.take-channel.ensures.numbers in
    grind (arith, common_steps, least_within slots room, t.0)

pub note-requires-clause-room : goal.note-requires-clause-room
note-requires-clause-room c =
    let slots = c.self.inside.slots.items in
    let room : 0 < free_count slots = rw (← c.self.view_is) at c.requires.room in
    grind (arith, common_steps, room, all_slots slots, c.self.invariant.2.count, c.self.invariant.2.room)

pub note-requires-clause-other : goal.note-requires-clause-other
note-requires-clause-other c =
    let slots = c.self.inside.slots.items in
    let q = c.args.question in
    let other : is_open q slots ≡ false = rw (← c.self.view_is) at c.requires.other in
    none-of _ (ap is_some (c.self.invariant.2.are q) ∙ channel_open q slots ∙ other)

pub invariant_of-self : goal.invariant_of-self
invariant_of-self c =
    let slots = c.self.inside.slots.items in
    let q = c.args.question in
    let old = c.self.inside.open.places in
    let room : 0 < free_count slots = rw (← c.self.view_is) at c.requires.room in
    let other : is_open q slots ≡ false = rw (← c.self.view_is) at c.requires.other in
    let t = taken q slots _ _ c.take-channel.result room c.self.invariant.1.are c.take-channel.ensures.numbers in
    rw (t.0, set_asked q slots room) (
      IsProcess_asked _ q c.self.invariant.0 room other,
      record {
        are = t.1;
        room =
            grind (arith, length_asked q slots, c.self.invariant.1.room, c.take-channel.ensures.room);
      },
      record {
        are = λ k. c.note.ensures.channels k ∙ ap (λ n. if k == q then Some n else channel_in k old) t.0
            ∙ ap (λ o. if k == q then Some (least_free slots) else o) (c.self.invariant.2.are k)
            ∙ sym (channel_asked k q slots room other);
        count = grind (
          arith,
          c.note.ensures.count,
          c.self.invariant.2.count,
          all_slots slots,
          all_slots (asked q slots),
          free_asked q slots room,
          length_asked q slots,
        );
        room = grind (arith, length_asked q slots, c.self.invariant.2.room, c.note.ensures.room);
      },
    )

pub returns-clause-value : goal.returns-clause-value
returns-clause-value c =
    let slots = c.self.inside.slots.items in
    let q = c.args.question in
    let room : 0 < free_count slots = rw (← c.self.view_is) at c.requires.room in
    let t = taken q slots _ _ c.take-channel.result room c.self.invariant.1.are c.take-channel.ensures.numbers in
    rw (← c.self.view_is, t.0)
    (ap (λ s. record { numbered = c.self.inside.numbered; slots = s }) (set_asked q slots room))

pub returns-clause-channel : goal.returns-clause-channel
returns-clause-channel c =
    let slots = c.self.inside.slots.items in
    let room : 0 < free_count slots = rw (← c.self.view_is) at c.requires.room in
    let t = taken c.args.question slots _ _ c.take-channel.result room c.self.invariant.1.are
    c.take-channel.ensures.numbers in
    elim c.if-self.branch [
      | then-self w ↦ rw (w.result-is, ← c.self.view_is)
          (ap Some t.0 ∙ ap (λ b. channel_name b (least_free slots)) (sym w.if-self.true))
      | else-self w ↦ rw (w.result-is, ← c.self.view_is)
          (ap (λ b. channel_name b (least_free slots)) (sym w.if-self.false))
    ]
