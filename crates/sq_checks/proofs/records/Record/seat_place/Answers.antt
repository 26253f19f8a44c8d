use Rattle.std.proofs.Common.{◌≡◌, ◌∙◌, Some, true, if◌then◌else◌, ap, sym, rules}
use Rattle.sq_rules.specs.Verdicts.{pool_of}
use Rattle.sq_machine.specs.SeatPlaces.{has_tags, place_by_tag, place_in, seat_place}
use Rattle.sq_rules.specs.Tags.{tag_of}
use Rattle.sq_machine.specs.declared.places.SeatPlace.TheVariants.{ByAddress}
use Rattle.sq_checks.proofs.records.Record.seat_place.Goals as goal
use Rattle.sq_checks.proofs.records.Record.seat_place.Goals.{in-Some-tag, in-None}

pub returns-clause-value : goal.returns-clause-value
returns-clause-value c =
    let r = c.args.self.now in
    let n = c.in-Some.pool in
    let pool : pool_of r.config r.sight ≡ Some n = search rules in
    let tags : has_tags r.config.pools n ≡ true = search rules in
    let config : c.deref-2.result.now ≡ r.config = search rules in
    let sight : c.sight.result.now ≡ r.sight = search rules in
    let answers : c.answers.result.now ≡ r.answers = search rules in
    let tag : c.in_ok-tag.tag ≡ tag_of r.config r.sight r.answers =
    c.in_ok-tag.ensures ∙ ap (λ x. tag_of x c.sight.result.now c.answers.result.now) config
    ∙ ap (λ x. tag_of r.config x c.answers.result.now) sight ∙ ap (tag_of r.config r.sight) answers in
    let value : seat_place r.config r.sight r.answers ≡ place_by_tag n c.in_ok-tag.tag =
    ap (place_in r.config.pools (tag_of r.config r.sight r.answers)) pool
    ∙ ap (λ b. if b then place_by_tag n (tag_of r.config r.sight r.answers) else ByAddress n) tags
    ∙ ap (place_by_tag n) (sym tag) in
    elim c.match-tag.branch [
      | in-Some-tag w ↦ w.result-is ∙ sym (ap (place_by_tag n) w.in-Some-tag.is) ∙ sym value
      | in-None w ↦ w.result-is ∙ sym (ap (place_by_tag n) w.in-None.is) ∙ sym value
    ]
