use Rattle.std.proofs.Common.{◌≡◌, true, arith, ap, ◌∙◌, sym, map}
use Rattle.std.proofs.lemmas.Grind.{common_steps}
use Rattle.sq_machine.specs.Living.{Living, lives, living_number}
use Rattle.sq_machine.specs.Rising.{place_among}
use Rattle.sq_farm.proofs.LivingLaws.{viewed}
use Rattle.sq_farm.proofs.CallLaws.{lives_within, removes}
use Rattle.sq_farm.proofs.procs.Procs.get.Goals as goal

pub index-living-requires : goal.index-living-requires
index-living-requires c =
    let rows = c.self.inside.rows.items in
    let alive : lives c.args.proc rows ≡ true =
    sym (c.in_ok-place.ensures.lives ∙ ap (lives c.args.proc) c.deref.ensures.value) in
    let within = lives_within c.args.proc rows c.self.invariant.0 alive in
    grind (arith, common_steps, within, c.in_ok-place.ensures.place)

pub returns : goal.returns
returns c =
    let rows = c.self.inside.rows.items in
    let k = c.args.proc in
    let x : Living = record { number = c.living.inside.number; process = c.living.inside.process } in
    let alive : lives k rows ≡ true = sym (c.in_ok-place.ensures.lives ∙ ap (lives k) c.deref.ensures.value) in
    let place : c.in_ok-place.place ≡ place_among k (map living_number rows) = c.in_ok-place.ensures.place
    ∙ ap (λ z. place_among k (map living_number z)) c.deref.ensures.value in
    rw (← c.self.view_is) (removes k rows x c.self.invariant.0 alive
    (viewed rows _ _ x c.index-living.result.now c.living.view_is c.index-living.ensures place)).process
