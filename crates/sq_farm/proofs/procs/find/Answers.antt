use Rattle.std.proofs.Common.{ℕ, ◌≡◌, ◌==◌, ◌≤◌, true, false, Some, slice_get, refl, length, arith, ap, ◌∙◌, sym}
use Rattle.std.proofs.lemmas.Grind.{common_steps}
use Rattle.std.proofs.lemmas.Option.{slice_get_past, slice_get_read}
use Rattle.sq_farm.proofs.LivingLaws.{lives_place, number_is}
use Rattle.sq_farm.proofs.procs.find.Goals as goal

is_same : (a b : ℕ) → a ≡ b → (b == a) ≡ true
is_same a b e = grind (arith, e)

is_other : (a b : ℕ) → (a ≡ b → ⊥) → (b == a) ≡ false
is_other a b e = grind (arith, e)

pub returns-in-Some-clause-lives : goal.returns-in-Some-clause-lives
returns-in-Some-clause-lives c =
    let rows = c.args.rows.now in
    let k = c.args.proc in
    let x = c.in-Some.living.now in
    let there : slice_get rows c.place_of-place.result ≡ Some x =
    slice_get_read rows (length rows) c.place_of-place.result x refl c.in-Some.ensures.lookup.3.0
    c.in-Some.ensures.lookup.1 in
    let number : x.number ≡ k = sym (ap (λ i. i.number) c.living-inside.view_is ∙ ap (λ l. l.number) c.living.view_is)
    ∙ c.if-living-proc.true ∙ c.proc.view_is in
    sym (lives_place k rows c.requires ∙ ap (λ i. number_is k (slice_get rows i)) (sym c.place_of-place.ensures.place)
    ∙ ap (number_is k) there ∙ is_same x.number k number)

pub returns-in_default-clause-lives : goal.returns-in_default-clause-lives
returns-in_default-clause-lives c =
    let rows = c.args.rows.now in
    let k = c.args.proc in
    let x = c.in-Some.living.now in
    let there : slice_get rows c.place_of-place.result ≡ Some x =
    slice_get_read rows (length rows) c.place_of-place.result x refl c.in-Some.ensures.lookup.3.0
    c.in-Some.ensures.lookup.1 in
    let number : x.number ≡ k
    → ⊥ = λ e. c.if-living-proc.false
    (ap (λ i. i.number) c.living-inside.view_is ∙ ap (λ l. l.number) c.living.view_is ∙ e ∙ sym c.proc.view_is) in
    sym (lives_place k rows c.requires ∙ ap (λ i. number_is k (slice_get rows i)) (sym c.place_of-place.ensures.place)
    ∙ ap (number_is k) there ∙ is_other x.number k number)

pub returns-in_default-2-clause-lives : goal.returns-in_default-2-clause-lives
returns-in_default-2-clause-lives c =
    let rows = c.args.rows.now in
    let k = c.args.proc in
    let past : length rows ≤ c.place_of-place.result =
    grind (arith, common_steps, c.in_default.is, c.get.ensures.lookup.2) in
    sym (lives_place k rows c.requires ∙ ap (λ i. number_is k (slice_get rows i)) (sym c.place_of-place.ensures.place)
    ∙ ap (number_is k) (slice_get_past rows c.place_of-place.result past))
