use Rattle.std.proofs.Common.{◌≡◌, IsOk, arith, ap, ◌∙◌, sym, map, subst}
use Rattle.std.proofs.lemmas.Grind.{common_steps}
use Rattle.std.specs.List.{insert}
use Rattle.sq_machine.specs.Living.{Living, free_numbers, living_number, with_proc}
use Rattle.sq_machine.specs.Rising.{Rises, place_among}
use Rattle.sq_farm.proofs.CallLaws.{inserts}
use Rattle.sq_farm.proofs.LivingLaws.{rises_free}
use Rattle.sq_channel.proofs.RisingLaws.{if_ok}
use Rattle.sq_farm.proofs.procs.Procs.insert.Goals as goal

pub place_in-at-requires : goal.place_in-at-requires
place_in-at-requires c = subst Rises (sym (c.deref.ensures.value ∙ c.reserve-2.ensures.items ∙ c.self.invariant.1))
    (rises_free c.self.inside.rows.items c.self.invariant.0)

pub invariant_of-self-2 : goal.invariant_of-self-2
invariant_of-self-2 c =
    let rows = c.self.inside.rows.items in
    let k = c.args.number in
    let p : Living = record { number = k; process = c.args.process } in
    let made = inserts p rows c.requires.free c.self.invariant.0 (rw (← c.self.view_is) at c.requires.other) in
    let is_ok : IsOk c.insert-2.result =
    c.insert-2.ensures.succeeds (grind (arith, common_steps, c.in_ok-reserve.ensures.ok)) in
    let place : c.place_of-place.result ≡ place_among k (map living_number rows) = c.place_of-place.ensures.place
    ∙ ap (λ z. place_among k (map living_number z)) (c.deref-2.ensures.value ∙ c.reserve.ensures.items) in
    let rows_are : c.insert-2.new.self.items ≡ with_proc p rows = c.insert-2.ensures.items
    ∙ if_ok c.insert-2.result _ _ is_ok ∙ ap (λ z. insert z c.place_of-place.result p) c.reserve.ensures.items
    ∙ ap (λ i. insert rows i p) place ∙ made.rows_are in
    let is_ok_free : IsOk c.insert.result =
    c.insert.ensures.succeeds (grind (arith, common_steps, c.in_ok-reserve-2.ensures.ok)) in
    let frees = free_numbers rows in
    let same : c.reserve-2.new.self.items ≡ frees = c.reserve-2.ensures.items ∙ c.self.invariant.1 in
    let at_is : c.place_in-at.result ≡ place_among k frees = c.place_in-at.ensures.place
    ∙ ap (place_among k) (c.deref.ensures.value ∙ same) in
    let items = c.insert.ensures.items ∙ if_ok c.insert.result _ _ is_ok_free
    ∙ ap (λ z. insert z c.place_in-at.result k) same ∙ ap (λ i. insert frees i k) at_is ∙ made.frees in
    rw rows_are (
      made.rises,
      items,
      grind (
        arith,
        common_steps,
        made.length_is,
        c.insert.ensures.capacity,
        c.in_ok-reserve-2.ensures.ok,
        c.reserve.ensures.len,
      ),
    )

pub returns-clause-ok : goal.returns-clause-ok
returns-clause-ok c =
    let rows = c.self.inside.rows.items in
    let k = c.args.number in
    let p : Living = record { number = k; process = c.args.process } in
    let made = inserts p rows c.requires.free c.self.invariant.0 (rw (← c.self.view_is) at c.requires.other) in
    let is_ok : IsOk c.insert-2.result =
    c.insert-2.ensures.succeeds (grind (arith, common_steps, c.in_ok-reserve.ensures.ok)) in
    let place : c.place_of-place.result ≡ place_among k (map living_number rows) = c.place_of-place.ensures.place
    ∙ ap (λ z. place_among k (map living_number z)) (c.deref-2.ensures.value ∙ c.reserve.ensures.items) in
    rw (← c.self.view_is) (c.insert-2.ensures.items ∙ if_ok c.insert-2.result _ _ is_ok
    ∙ ap (λ z. insert z c.place_of-place.result p) c.reserve.ensures.items ∙ ap (λ i. insert rows i p) place
    ∙ made.rows_are)
