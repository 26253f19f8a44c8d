use Rattle.std.proofs.Common.{◌≡◌, ◌∙◌, ◌≤◌, [], ◌∷◌, length, subst, sym}
use Rattle.sq_rules.specs.Keys.{field_values}
use Rattle.sq_message.proofs.ValueLaws.{values_none, values_one, values_many}
use Rattle.sq_message.proofs.values.values_of.Goals as goal

pub returns-in_default : goal.returns-in_default
returns-in_default c =
    subst (λ n. field_values n c.args.fields.now ≡ []) c.as_bytes-name.ensures.value
    (values_none c.as_bytes-name.result.now c.args.fields.now (sym c.in_default.ensures.first))

pub returns-then-is_some : goal.returns-then-is_some
returns-then-is_some c =
    subst (λ n. 2 ≤ length (field_values n c.args.fields.now)) c.as_bytes-name.ensures.value
    (values_many c.as_bytes-name.result.now c.args.fields.now c.in-Some.place c.place_of-2.result
    (sym c.in-Some.ensures.first) (sym c.place_of-2.ensures.first) (sym c.is_some.ensures ∙ c.if-is_some.true))

pub returns : goal.returns
returns c =
    subst (λ n. field_values n c.args.fields.now ≡ c.as_bytes.result.now ∷ []) c.as_bytes-name.ensures.value
    (values_one c.as_bytes-name.result.now c.args.fields.now c.in-Some.place c.place_of-2.result
    c.index-fields-place.result (sym c.in-Some.ensures.first) (sym c.place_of-2.ensures.first)
    (sym c.is_some.ensures ∙ c.if-is_some.false) c.as_bytes.ensures.value)
