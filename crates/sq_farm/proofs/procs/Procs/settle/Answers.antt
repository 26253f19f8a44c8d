use Rattle.std.proofs.Common.{◌≡◌, IsOk, length, arith, ap, get_or, ◌∙◌, sym, map, subst}
use Rattle.std.proofs.lemmas.Grind.{common_steps}
use Rattle.std.specs.List.{insert}
use Rattle.sq_machine.specs.Channels.{free_count}
use Rattle.sq_machine.specs.Living.{Living, free_numbers, living_number}
use Rattle.sq_machine.specs.Rising.{Rises, place_among}
use Rattle.sq_farm.proofs.LivingLaws.{viewed, rises_free}
use Rattle.sq_farm.proofs.CallLaws.{lives_slots, lives_within, settles}
use Rattle.sq_channel.proofs.RisingLaws.{if_ok}
use Rattle.sq_farm.proofs.procs.Procs.settle.Goals as goal

pub index_mut-living-requires : goal.index_mut-living-requires
index_mut-living-requires c =
    let rows = c.self.inside.rows.items in
    let within = lives_within c.args.proc rows c.self.invariant.0
    (lives_slots c.args.proc c.args.question rows (rw (← c.self.view_is) at c.requires)) in
    grind (arith, common_steps, within)

pub settle-requires : goal.settle-requires
settle-requires c =
    let rows = c.self.inside.rows.items in
    let k = c.args.proc in
    let x : Living = record { number = c.living.inside.number; process = c.living.inside.process } in
    let place : c.place_of-place.result ≡ place_among k (map living_number rows) = c.place_of-place.ensures.place
    ∙ ap (λ z. place_among k (map living_number z)) c.deref.ensures.value in
    let x_at : x ≡ get_or rows (place_among k (map living_number rows)) x =
    viewed rows _ _ x c.index_mut-living.result.now c.living.view_is c.index_mut-living.ensures.value place in
    let made = settles k c.args.question rows x c.self.invariant.0 (rw (← c.self.view_is) at c.requires) x_at in
    made.opened

pub place_in-at-requires : goal.place_in-at-requires
place_in-at-requires c = subst Rises (sym (c.deref-then-was_full.ensures.value ∙ c.self.invariant.1))
    (rises_free c.self.inside.rows.items c.self.invariant.0)

pub invariant_of-self : goal.invariant_of-self
invariant_of-self c =
    let rows = c.self.inside.rows.items in
    let k = c.args.proc in
    let x : Living = record { number = c.living.inside.number; process = c.living.inside.process } in
    let place : c.place_of-place.result ≡ place_among k (map living_number rows) = c.place_of-place.ensures.place
    ∙ ap (λ z. place_among k (map living_number z)) c.deref.ensures.value in
    let x_at : x ≡ get_or rows (place_among k (map living_number rows)) x =
    viewed rows _ _ x c.index_mut-living.result.now c.living.view_is c.index_mut-living.ensures.value place in
    let made = settles k c.args.question rows x c.self.invariant.0 (rw (← c.self.view_is) at c.requires) x_at in
    let none : free_count x.process.slots ≡ 0 = sym c.free-was_full.ensures.count ∙ c.if-was_full.true in
    let fewer = made.fewer none in
    let is_ok : IsOk c.insert.result =
    c.insert.ensures.succeeds (grind (arith, common_steps, fewer, ap length c.self.invariant.1, c.self.invariant.2)) in
    let frees = free_numbers rows in
    let at_is : c.place_in-at.result ≡ place_among k frees = c.place_in-at.ensures.place
    ∙ ap (place_among k) (c.deref-then-was_full.ensures.value ∙ c.self.invariant.1) in
    let items = c.insert.ensures.items ∙ if_ok c.insert.result _ _ is_ok
    ∙ ap (λ z. insert z c.place_in-at.result k) c.self.invariant.1 ∙ ap (λ i. insert frees i k) at_is
    ∙ made.full none in
    rw (place, c.settle.ensures.value, made.rows_are)
    (made.rises, items, grind (arith, common_steps, made.length_is, c.self.invariant.2, c.insert.ensures.capacity))

pub invariant_of-self-else-was_full : goal.invariant_of-self-else-was_full
invariant_of-self-else-was_full c =
    let rows = c.self.inside.rows.items in
    let k = c.args.proc in
    let x : Living = record { number = c.living.inside.number; process = c.living.inside.process } in
    let place : c.place_of-place.result ≡ place_among k (map living_number rows) = c.place_of-place.ensures.place
    ∙ ap (λ z. place_among k (map living_number z)) c.deref.ensures.value in
    let x_at : x ≡ get_or rows (place_among k (map living_number rows)) x =
    viewed rows _ _ x c.index_mut-living.result.now c.living.view_is c.index_mut-living.ensures.value place in
    let made = settles k c.args.question rows x c.self.invariant.0 (rw (← c.self.view_is) at c.requires) x_at in
    let more = made.more (grind (arith, c.free-was_full.ensures.count, c.if-was_full.false)) in
    rw (place, c.settle.ensures.value, made.rows_are)
    (made.rises, c.self.invariant.1 ∙ more, grind (arith, common_steps, made.length_is, c.self.invariant.2))

pub returns-then-was_full : goal.returns-then-was_full
returns-then-was_full c =
    let rows = c.self.inside.rows.items in
    let k = c.args.proc in
    let x : Living = record { number = c.living.inside.number; process = c.living.inside.process } in
    let place : c.place_of-place.result ≡ place_among k (map living_number rows) = c.place_of-place.ensures.place
    ∙ ap (λ z. place_among k (map living_number z)) c.deref.ensures.value in
    let x_at : x ≡ get_or rows (place_among k (map living_number rows)) x =
    viewed rows _ _ x c.index_mut-living.result.now c.living.view_is c.index_mut-living.ensures.value place in
    let made = settles k c.args.question rows x c.self.invariant.0 (rw (← c.self.view_is) at c.requires) x_at in
    rw (← c.self.view_is, place, c.settle.ensures.value) made.rows_are

pub returns-else-was_full : goal.returns-else-was_full
returns-else-was_full c =
    let rows = c.self.inside.rows.items in
    let k = c.args.proc in
    let x : Living = record { number = c.living.inside.number; process = c.living.inside.process } in
    let place : c.place_of-place.result ≡ place_among k (map living_number rows) = c.place_of-place.ensures.place
    ∙ ap (λ z. place_among k (map living_number z)) c.deref.ensures.value in
    let x_at : x ≡ get_or rows (place_among k (map living_number rows)) x =
    viewed rows _ _ x c.index_mut-living.result.now c.living.view_is c.index_mut-living.ensures.value place in
    let made = settles k c.args.question rows x c.self.invariant.0 (rw (← c.self.view_is) at c.requires) x_at in
    rw (← c.self.view_is, place, c.settle.ensures.value) made.rows_are
