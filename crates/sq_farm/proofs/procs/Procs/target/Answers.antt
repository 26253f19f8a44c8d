use Rattle.std.proofs.Common.{List, ℕ, ◌≡◌, ◌<◌, true, length, arith, ap, get_or, ◌∙◌, sym, map}
use Rattle.std.proofs.lemmas.Grind.{common_steps}
use Rattle.sq_machine.specs.Living.{Living, free_numbers, living_number, some_free}
use Rattle.sq_machine.specs.Rising.{place_among}
use Rattle.sq_farm.proofs.LivingLaws.{viewed, some_free_law}
use Rattle.sq_farm.proofs.CallLaws.{sends_within, target_at, target_none}
use Rattle.sq_farm.proofs.procs.Procs.target.Goals as goal

some_in : (rows : List Living) → some_free rows ≡ true → 0 < length (free_numbers rows)
some_in rows e = let f = sym (some_free_law rows) ∙ e in grind (arith, f)

at_first : (rows : List Living) (free : List ℕ) (n : ℕ) → free ≡ free_numbers rows → n ≡ get_or free 0 n
    → n ≡ get_or (free_numbers rows) 0 n
at_first rows free n e is = is ∙ ap (λ z. get_or z 0 n) e

pub returns-then-not-some_free : goal.returns-then-not-some_free
returns-then-not-some_free c = sym (target_none c.args.self.now (sym c.some_free.ensures ∙ c.if-not-some_free.true))

pub index-number-requires : goal.index-number-requires
index-number-requires c =
    let some = some_in c.self.inside.rows.items
    (rw (← c.self.view_is) at (sym c.some_free.ensures ∙ c.if-not-some_free.false)) in
    grind (arith, common_steps, some, ap length c.self.invariant.1)

pub index-living-requires : goal.index-living-requires
index-living-requires c =
    let rows = c.self.inside.rows.items in
    let n = c.index-number.result.now in
    let within = sends_within rows n c.self.invariant.0
    (rw (← c.self.view_is) at (sym c.some_free.ensures ∙ c.if-not-some_free.false))
    (at_first rows c.self.inside.free.items n c.self.invariant.1 c.index-number.ensures) in
    grind (arith, common_steps, within)

pub next_channel-channel-requires : goal.next_channel-channel-requires
next_channel-channel-requires c =
    let rows = c.self.inside.rows.items in
    let n = c.index-number.result.now in
    let x : Living = record { number = c.living.inside.number; process = c.living.inside.process } in
    let place : c.place_of-place.result ≡ place_among n (map living_number rows) = c.place_of-place.ensures.place
    ∙ ap (λ z. place_among n (map living_number z)) c.deref.ensures.value in
    (target_at rows n x c.self.invariant.0
    (rw (← c.self.view_is) at (sym c.some_free.ensures ∙ c.if-not-some_free.false))
    (at_first rows c.self.inside.free.items n c.self.invariant.1 c.index-number.ensures)
    (viewed rows _ _ x c.index-living.result.now c.living.view_is c.index-living.ensures place)).0

pub returns : goal.returns
returns c =
    let rows = c.self.inside.rows.items in
    let n = c.index-number.result.now in
    let x : Living = record { number = c.living.inside.number; process = c.living.inside.process } in
    let place : c.place_of-place.result ≡ place_among n (map living_number rows) = c.place_of-place.ensures.place
    ∙ ap (λ z. place_among n (map living_number z)) c.deref.ensures.value in
    let made = target_at rows n x c.self.invariant.0
    (rw (← c.self.view_is) at (sym c.some_free.ensures ∙ c.if-not-some_free.false))
    (at_first rows c.self.inside.free.items n c.self.invariant.1 c.index-number.ensures)
    (viewed rows _ _ x c.index-living.result.now c.living.view_is c.index-living.ensures place) in
    rw (← c.self.view_is, c.next_channel-channel.ensures) made.1
