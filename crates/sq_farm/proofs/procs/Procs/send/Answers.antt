use Rattle.std.proofs.Common.{List, ℕ, ◌≡◌, ◌<◌, true, length, arith, ap, get_or, ◌∙◌, sym, map}
use Rattle.std.specs.List.{remove}
use Rattle.std.proofs.lemmas.Grind.{common_steps}
use Rattle.sq_machine.specs.Channels.{free_count, asked}
use Rattle.sq_machine.specs.Living.{free_numbers, living_number, some_free, Living}
use Rattle.sq_machine.specs.Rising.{place_among}
use Rattle.sq_farm.proofs.LivingLaws.{viewed, some_free_law}
use Rattle.sq_farm.proofs.CallLaws.{sends, sends_within}
use Rattle.sq_farm.proofs.procs.Procs.send.Goals as goal
use Rattle.sq_farm.proofs.procs.Procs.send.Goals.{then-free-eq0, else-free-eq0}

some_in : (rows : List Living) → some_free rows ≡ true → 0 < length (free_numbers rows)
some_in rows e = let f = sym (some_free_law rows) ∙ e in grind (arith, f)

at_first : (rows : List Living) (free : List ℕ) (n : ℕ) → free ≡ free_numbers rows → n ≡ get_or free 0 n
    → n ≡ get_or (free_numbers rows) 0 n
at_first rows free n e is = is ∙ ap (λ z. get_or z 0 n) e

pub index-number-requires : goal.index-number-requires
index-number-requires c =
    let some = some_in c.self.inside.rows.items (rw (← c.self.view_is) at c.requires.free) in
    grind (arith, common_steps, some, ap length c.self.invariant.1)

pub index_mut-living-requires : goal.index_mut-living-requires
index_mut-living-requires c =
    let rows = c.self.inside.rows.items in
    let n = c.index-number.result.now in
    let within = sends_within rows n c.self.invariant.0 (rw (← c.self.view_is) at c.requires.free)
    (at_first rows c.self.inside.free.items n c.self.invariant.1 c.index-number.ensures) in
    grind (arith, common_steps, within)

pub ask-channel-requires-clause-room : goal.ask-channel-requires-clause-room
ask-channel-requires-clause-room c =
    let rows = c.self.inside.rows.items in
    let n = c.index-number.result.now in
    let x : Living = record { number = c.living.inside.number; process = c.living.inside.process } in
    let place : c.place_of-place.result ≡ place_among n (map living_number rows) = c.place_of-place.ensures.place
    ∙ ap (λ z. place_among n (map living_number z)) c.deref.ensures.value in
    let x_at : x ≡ get_or rows (place_among n (map living_number rows)) x =
    viewed rows _ _ x c.index_mut-living.result.now c.living.view_is c.index_mut-living.ensures.value place in
    let made = sends c.args.question rows n x c.self.invariant.0 (rw (← c.self.view_is) at c.requires.free)
    (rw (← c.self.view_is) at c.requires.other)
    (at_first rows c.self.inside.free.items n c.self.invariant.1 c.index-number.ensures) x_at in
    made.room

pub ask-channel-requires-clause-other : goal.ask-channel-requires-clause-other
ask-channel-requires-clause-other c =
    let rows = c.self.inside.rows.items in
    let n = c.index-number.result.now in
    let x : Living = record { number = c.living.inside.number; process = c.living.inside.process } in
    let place : c.place_of-place.result ≡ place_among n (map living_number rows) = c.place_of-place.ensures.place
    ∙ ap (λ z. place_among n (map living_number z)) c.deref.ensures.value in
    let x_at : x ≡ get_or rows (place_among n (map living_number rows)) x =
    viewed rows _ _ x c.index_mut-living.result.now c.living.view_is c.index_mut-living.ensures.value place in
    let made = sends c.args.question rows n x c.self.invariant.0 (rw (← c.self.view_is) at c.requires.free)
    (rw (← c.self.view_is) at c.requires.other)
    (at_first rows c.self.inside.free.items n c.self.invariant.1 c.index-number.ensures) x_at in
    made.other

pub remove-requires : goal.remove-requires
remove-requires c =
    let some = some_in c.self.inside.rows.items (rw (← c.self.view_is) at c.requires.free) in
    grind (arith, common_steps, some, ap length c.self.invariant.1)

pub invariant_of-self : goal.invariant_of-self
invariant_of-self c =
    let rows = c.self.inside.rows.items in
    let n = c.index-number.result.now in
    let x : Living = record { number = c.living.inside.number; process = c.living.inside.process } in
    let place : c.place_of-place.result ≡ place_among n (map living_number rows) = c.place_of-place.ensures.place
    ∙ ap (λ z. place_among n (map living_number z)) c.deref.ensures.value in
    let x_at : x ≡ get_or rows (place_among n (map living_number rows)) x =
    viewed rows _ _ x c.index_mut-living.result.now c.living.view_is c.index_mut-living.ensures.value place in
    let made = sends c.args.question rows n x c.self.invariant.0 (rw (← c.self.view_is) at c.requires.free)
    (rw (← c.self.view_is) at c.requires.other)
    (at_first rows c.self.inside.free.items n c.self.invariant.1 c.index-number.ensures) x_at in
    let count : c.free.result ≡ free_count (asked c.args.question x.process.slots) = c.free.ensures.count
    ∙ ap (λ p. free_count p.slots) c.ask-channel.ensures.value in
    let full = made.full (sym count ∙ c.if-free-eq0.true) in
    rw (place, c.ask-channel.ensures.value, made.rows_are) (
      made.rises,
      c.remove.ensures.items ∙ ap (λ z. remove z 0) c.self.invariant.1 ∙ full,
      grind (arith, common_steps, made.length_is, c.self.invariant.2),
    )

pub invariant_of-self-else-free-eq0 : goal.invariant_of-self-else-free-eq0
invariant_of-self-else-free-eq0 c =
    let rows = c.self.inside.rows.items in
    let n = c.index-number.result.now in
    let x : Living = record { number = c.living.inside.number; process = c.living.inside.process } in
    let place : c.place_of-place.result ≡ place_among n (map living_number rows) = c.place_of-place.ensures.place
    ∙ ap (λ z. place_among n (map living_number z)) c.deref.ensures.value in
    let x_at : x ≡ get_or rows (place_among n (map living_number rows)) x =
    viewed rows _ _ x c.index_mut-living.result.now c.living.view_is c.index_mut-living.ensures.value place in
    let made = sends c.args.question rows n x c.self.invariant.0 (rw (← c.self.view_is) at c.requires.free)
    (rw (← c.self.view_is) at c.requires.other)
    (at_first rows c.self.inside.free.items n c.self.invariant.1 c.index-number.ensures) x_at in
    let count : c.free.result ≡ free_count (asked c.args.question x.process.slots) = c.free.ensures.count
    ∙ ap (λ p. free_count p.slots) c.ask-channel.ensures.value in
    let more = made.more (grind (arith, count, c.if-free-eq0.false)) in
    rw (place, c.ask-channel.ensures.value, made.rows_are)
    (made.rises, c.self.invariant.1 ∙ more, grind (arith, common_steps, made.length_is, c.self.invariant.2))

pub returns-clause-target : goal.returns-clause-target
returns-clause-target c =
    let rows = c.self.inside.rows.items in
    let n = c.index-number.result.now in
    let x : Living = record { number = c.living.inside.number; process = c.living.inside.process } in
    let place : c.place_of-place.result ≡ place_among n (map living_number rows) = c.place_of-place.ensures.place
    ∙ ap (λ z. place_among n (map living_number z)) c.deref.ensures.value in
    let x_at : x ≡ get_or rows (place_among n (map living_number rows)) x =
    viewed rows _ _ x c.index_mut-living.result.now c.living.view_is c.index_mut-living.ensures.value place in
    let made = sends c.args.question rows n x c.self.invariant.0 (rw (← c.self.view_is) at c.requires.free)
    (rw (← c.self.view_is) at c.requires.other)
    (at_first rows c.self.inside.free.items n c.self.invariant.1 c.index-number.ensures) x_at in
    rw (← c.self.view_is, c.ask-channel.ensures.channel) made.target_is

pub returns-clause-value : goal.returns-clause-value
returns-clause-value c =
    let rows = c.self.inside.rows.items in
    let n = c.index-number.result.now in
    let x : Living = record { number = c.living.inside.number; process = c.living.inside.process } in
    let place : c.place_of-place.result ≡ place_among n (map living_number rows) = c.place_of-place.ensures.place
    ∙ ap (λ z. place_among n (map living_number z)) c.deref.ensures.value in
    let x_at : x ≡ get_or rows (place_among n (map living_number rows)) x =
    viewed rows _ _ x c.index_mut-living.result.now c.living.view_is c.index_mut-living.ensures.value place in
    let made = sends c.args.question rows n x c.self.invariant.0 (rw (← c.self.view_is) at c.requires.free)
    (rw (← c.self.view_is) at c.requires.other)
    (at_first rows c.self.inside.free.items n c.self.invariant.1 c.index-number.ensures) x_at in
    elim c.if-free-eq0.branch [
      | then-free-eq0 w ↦ rw (w.self-is, ← c.self.view_is, place, c.ask-channel.ensures.value) made.rows_are
      | else-free-eq0 w ↦ rw (w.self-is, ← c.self.view_is, place, c.ask-channel.ensures.value) made.rows_are
    ]
