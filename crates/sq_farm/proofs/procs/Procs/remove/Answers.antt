use Rattle.std.proofs.Common.{◌≡◌, ◌<◌, true, false, Some, arith, ap, get_or, ◌∙◌, sym, map, subst, length}
use Rattle.std.proofs.lemmas.Grind.{common_steps}
use Rattle.std.specs.List.{remove}
use Rattle.sq_machine.specs.Channels.{free_count}
use Rattle.sq_machine.specs.Living.{free_numbers, lives, living_number, without}
use Rattle.sq_machine.specs.Rising.{Rises, place_among}
use Rattle.sq_farm.proofs.CallLaws.{lives_within, removes, without_none}
use Rattle.sq_farm.proofs.LivingLaws.{rises_free}
use Rattle.sq_farm.proofs.procs.Procs.remove.Goals as goal
use Rattle.sq_farm.proofs.procs.Procs.remove.Goals.{then-free-gt0, else-free-gt0}

pub returns-in_err-place-clause-value : goal.returns-in_err-place-clause-value
returns-in_err-place-clause-value c =
    let rows = c.self.inside.rows.items in
    let k = c.args.proc in
    let none : lives k rows ≡ false = sym (c.in_err-place.ensures.lives ∙ ap (lives k) c.deref.ensures.value) in
    rw (← c.self.view_is) (sym (without_none k rows none))

pub remove-living-requires : goal.remove-living-requires
remove-living-requires c =
    let rows = c.self.inside.rows.items in
    let alive : lives c.args.proc rows ≡ true =
    sym (c.in_ok-place.ensures.lives ∙ ap (lives c.args.proc) c.deref.ensures.value) in
    let within = lives_within c.args.proc rows c.self.invariant.0 alive in
    grind (arith, common_steps, within, c.in_ok-place.ensures.place)

pub place_in-at-requires : goal.place_in-at-requires
place_in-at-requires c = subst Rises (sym (c.deref-then-free-gt0.ensures.value ∙ c.self.invariant.1))
    (rises_free c.self.inside.rows.items c.self.invariant.0)

pub remove-requires : goal.remove-requires
remove-requires c =
    let rows = c.self.inside.rows.items in
    let k = c.args.proc in
    let x = c.remove-living.result in
    let alive : lives k rows ≡ true = sym (c.in_ok-place.ensures.lives ∙ ap (lives k) c.deref.ensures.value) in
    let place : c.in_ok-place.place ≡ place_among k (map living_number rows) = c.in_ok-place.ensures.place
    ∙ ap (λ z. place_among k (map living_number z)) c.deref.ensures.value in
    let made = removes k rows x c.self.invariant.0 alive
    (c.remove-living.ensures.value ∙ ap (λ i. get_or rows i x) place) in
    let frees = free_numbers rows in
    let some : 0 < free_count x.process.slots =
    grind (arith, c.free.ensures.count, ap (λ l. free_count l.process.slots) c.living.view_is, c.if-free-gt0.true) in
    let at_is : c.place_in-at.result ≡ place_among k frees = c.place_in-at.ensures.place
    ∙ ap (place_among k) (c.deref-then-free-gt0.ensures.value ∙ c.self.invariant.1) in
    let within = made.within some in
    grind (arith, common_steps, within, at_is, ap length c.self.invariant.1)

pub invariant_of-self : goal.invariant_of-self
invariant_of-self c =
    let rows = c.self.inside.rows.items in
    let k = c.args.proc in
    let x = c.remove-living.result in
    let alive : lives k rows ≡ true = sym (c.in_ok-place.ensures.lives ∙ ap (lives k) c.deref.ensures.value) in
    let place : c.in_ok-place.place ≡ place_among k (map living_number rows) = c.in_ok-place.ensures.place
    ∙ ap (λ z. place_among k (map living_number z)) c.deref.ensures.value in
    let made = removes k rows x c.self.invariant.0 alive
    (c.remove-living.ensures.value ∙ ap (λ i. get_or rows i x) place) in
    let frees = free_numbers rows in
    let some : 0 < free_count x.process.slots =
    grind (arith, c.free.ensures.count, ap (λ l. free_count l.process.slots) c.living.view_is, c.if-free-gt0.true) in
    let at_is : c.place_in-at.result ≡ place_among k frees = c.place_in-at.ensures.place
    ∙ ap (place_among k) (c.deref-then-free-gt0.ensures.value ∙ c.self.invariant.1) in
    let rows_are : c.remove-living.new.self.items ≡ without k rows = c.remove-living.ensures.items
    ∙ ap (remove rows) place ∙ made.rows_are in
    let items = c.remove.ensures.items ∙ ap (λ z. remove z c.place_in-at.result) c.self.invariant.1
    ∙ ap (remove frees) at_is ∙ made.had some in
    rw rows_are (
      made.rises,
      items,
      grind (arith, common_steps, made.length_is, c.self.invariant.2, c.remove.ensures.capacity),
    )

pub invariant_of-self-else-free-gt0 : goal.invariant_of-self-else-free-gt0
invariant_of-self-else-free-gt0 c =
    let rows = c.self.inside.rows.items in
    let k = c.args.proc in
    let x = c.remove-living.result in
    let alive : lives k rows ≡ true = sym (c.in_ok-place.ensures.lives ∙ ap (lives k) c.deref.ensures.value) in
    let place : c.in_ok-place.place ≡ place_among k (map living_number rows) = c.in_ok-place.ensures.place
    ∙ ap (λ z. place_among k (map living_number z)) c.deref.ensures.value in
    let made = removes k rows x c.self.invariant.0 alive
    (c.remove-living.ensures.value ∙ ap (λ i. get_or rows i x) place) in
    let rows_are : c.remove-living.new.self.items ≡ without k rows = c.remove-living.ensures.items
    ∙ ap (remove rows) place ∙ made.rows_are in
    let none : free_count x.process.slots ≡ 0 =
    grind (arith, c.free.ensures.count, ap (λ l. free_count l.process.slots) c.living.view_is, c.if-free-gt0.false) in
    rw rows_are (
      made.rises,
      c.self.invariant.1 ∙ made.full none,
      grind (arith, common_steps, made.length_is, c.self.invariant.2),
    )

pub returns-clause-process : goal.returns-clause-process
returns-clause-process c =
    let rows = c.self.inside.rows.items in
    let k = c.args.proc in
    let x = c.remove-living.result in
    let alive : lives k rows ≡ true = sym (c.in_ok-place.ensures.lives ∙ ap (lives k) c.deref.ensures.value) in
    let place : c.in_ok-place.place ≡ place_among k (map living_number rows) = c.in_ok-place.ensures.place
    ∙ ap (λ z. place_among k (map living_number z)) c.deref.ensures.value in
    let made = removes k rows x c.self.invariant.0 alive
    (c.remove-living.ensures.value ∙ ap (λ i. get_or rows i x) place) in
    rw (← c.self.view_is) (ap (λ l. Some l.process) c.living.view_is ∙ made.process)

pub returns-clause-value : goal.returns-clause-value
returns-clause-value c =
    let rows = c.self.inside.rows.items in
    let k = c.args.proc in
    let x = c.remove-living.result in
    let alive : lives k rows ≡ true = sym (c.in_ok-place.ensures.lives ∙ ap (lives k) c.deref.ensures.value) in
    let place : c.in_ok-place.place ≡ place_among k (map living_number rows) = c.in_ok-place.ensures.place
    ∙ ap (λ z. place_among k (map living_number z)) c.deref.ensures.value in
    let made = removes k rows x c.self.invariant.0 alive
    (c.remove-living.ensures.value ∙ ap (λ i. get_or rows i x) place) in
    let rows_are : c.remove-living.new.self.items ≡ without k rows = c.remove-living.ensures.items
    ∙ ap (remove rows) place ∙ made.rows_are in
    elim c.if-free-gt0.branch [
      | then-free-gt0 w ↦ rw (w.self-is, ← c.self.view_is) rows_are
      | else-free-gt0 w ↦ rw (w.self-is, ← c.self.view_is) rows_are
    ]
