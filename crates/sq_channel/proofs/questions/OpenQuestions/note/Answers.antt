use Rattle.std.proofs.Common.{arith, map, subst, sym}
use Rattle.std.proofs.lemmas.Grind.{common_steps}
use Rattle.sq_machine.specs.Rising.{Rises, place_among}
use Rattle.sq_channel.specs.Indexes.{place_question}
use Rattle.sq_channel.specs.declared.questions.Slot.{Slot}
use Rattle.sq_channel.proofs.RisingLaws.{map-insert, on_ok, rises_insert}
use Rattle.sq_channel.proofs.PlaceLaws.{channel_noted, not_placed}
use Rattle.sq_channel.proofs.questions.OpenQuestions.note.Goals as goal

pub invariant_of-self : goal.invariant_of-self
invariant_of-self c =
    let ps = c.self.inside.items.items in
    let q = c.args.question in
    let p : Slot = record { question = q; channel = c.args.channel } in
    let room = rw (← c.self.view_is) at c.requires.room in
    let put = on_ok c.insert.result c.insert.ensures.items c.insert.ensures.full
    (λ full. grind (arith, common_steps, room, full)) in
    rw (put, c.place_of-place.ensures.place)
    (subst Rises (sym (map-insert place_question ps (place_among q (map place_question ps)) p))
    (rises_insert q (map place_question ps) (not_placed q ps (rw (← c.self.view_is) at c.requires.other))
    c.self.invariant))

pub returns-clause-channels : goal.returns-clause-channels
returns-clause-channels c =
    let ps = c.self.inside.items.items in
    let room = rw (← c.self.view_is) at c.requires.room in
    let put = on_ok c.insert.result c.insert.ensures.items c.insert.ensures.full
    (λ full. grind (arith, common_steps, room, full)) in
    λ k. rw (← c.self.view_is, put, c.place_of-place.ensures.place) (channel_noted k c.args.question c.args.channel ps)
