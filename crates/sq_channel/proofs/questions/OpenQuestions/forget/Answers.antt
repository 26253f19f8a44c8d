use Rattle.std.proofs.Common.{◌≡◌, ◌∙◌, ap, arith, get_or, map, Some, ◌<◌, length}
use Rattle.std.proofs.lemmas.Grind.{common_steps}
use Rattle.sq_channel.specs.Indexes.{place_question}
use Rattle.sq_machine.specs.Rising.{place_among}
use Rattle.sq_channel.proofs.RisingLaws.{on_some}
use Rattle.sq_channel.proofs.PlaceLaws.{found}
use Rattle.sq_channel.proofs.questions.OpenQuestions.forget.Goals as goal

pub index-requires : goal.index-requires
index-requires c =
    let at = found c.args.question c.self.inside.items.items c.self.invariant (rw (← c.self.view_is) at c.requires) in
    grind (arith, common_steps, at.within)

pub invariant_of-self : goal.invariant_of-self
invariant_of-self c =
    let ps = c.self.inside.items.items in
    let q = c.args.question in
    let at = found q ps c.self.invariant (rw (← c.self.view_is) at c.requires) in
    let within : c.place_of-place.result < length ps = rw (c.place_of-place.ensures.place) at.within in
    rw (
      on_some c.remove.result c.remove.ensures.items
          (c.remove.ensures.variant.1 (grind (arith, common_steps, within))),
      c.place_of-place.ensures.place,
    ) at.rises

pub returns-clause-channel : goal.returns-clause-channel
returns-clause-channel c =
    let ps = c.self.inside.items.items in
    let q = c.args.question in
    let at = found q ps c.self.invariant (rw (← c.self.view_is) at c.requires) in
    let p = c.index.result.now in
    let read : p ≡ get_or ps (place_among q (map place_question ps)) p = c.index.ensures
    ∙ ap (λ i. get_or ps i p) c.place_of-place.ensures.place in
    rw (← c.self.view_is) (ap (λ x. Some x.channel) read ∙ at.channel p)

pub returns-clause-channels : goal.returns-clause-channels
returns-clause-channels c =
    let ps = c.self.inside.items.items in
    let q = c.args.question in
    let at = found q ps c.self.invariant (rw (← c.self.view_is) at c.requires) in
    let within : c.place_of-place.result < length ps = rw (c.place_of-place.ensures.place) at.within in
    rw (
      on_some c.remove.result c.remove.ensures.items
          (c.remove.ensures.variant.1 (grind (arith, common_steps, within))),
      c.place_of-place.ensures.place,
      ← c.self.view_is,
    ) at.left

pub returns-clause-count : goal.returns-clause-count
returns-clause-count c =
    let ps = c.self.inside.items.items in
    let q = c.args.question in
    let at = found q ps c.self.invariant (rw (← c.self.view_is) at c.requires) in
    let within : c.place_of-place.result < length ps = rw (c.place_of-place.ensures.place) at.within in
    let gone = on_some c.remove.result c.remove.ensures.len
    (c.remove.ensures.variant.1 (grind (arith, common_steps, within))) in
    rw (← c.self.view_is) (grind (arith, common_steps, gone))
