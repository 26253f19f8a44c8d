use Rattle.std.proofs.Common.{◌≡◌, ◌+◌, ◌∷◌, drop, sym, ap, ◌∙◌, arith}
use Rattle.std.proofs.lemmas.List.{drop_more}
use Rattle.std.specs.Str.{str_eq_ignore_ascii_case}
use Rattle.sq_format.proofs.JoinLaws.{one_passed, one_put}
use Rattle.sq_format.proofs.fields.put_fields.Goals as goal
use Rattle.sq_format.proofs.fields.put_fields.Goals.{then-is_alike+in_ok-put_value, else-is_alike}

pub loop-field-preserved : goal.loop-field-preserved
loop-field-preserved c =
    let i = c.loop-field.field-index in
    let f = c.field-item.result in
    let here : drop i c.args.fields.now ≡ f ∷ drop (i + 1) c.args.fields.now =
    drop_more c.args.fields.now i f (omega (arith, c.loop-field-test.true))
    ∙ ap (λ g. g ∷ drop (i + 1) c.args.fields.now) (sym c.field-item.is) in
    let test : c.is_alike.result ≡ str_eq_ignore_ascii_case f.name c.args.name.now =
    c.is_alike.ensures ∙ ap (λ n. str_eq_ignore_ascii_case n c.as_bytes-in-loop-field.result.now)
    c.as_bytes.ensures.value
    ∙ ap (str_eq_ignore_ascii_case f.name) c.as_bytes-in-loop-field.ensures.value in
    elim c.if-is_alike.branch [
      | then-is_alike+in_ok-put_value w ↦
          one_put c.args.name.now c.args.fields.now i f c.loop-field.found c.if-is_alike.found c.loop-field.to
          c.if-is_alike.to _ here (sym test ∙ w.if-is_alike.true) w.found-is
          (w.to-is ∙ (rw (← w.as_bytes-then-is_alike.ensures.value) w.in_ok-put_value.ensures)) c.loop-field.invariant
      | else-is_alike w ↦
          one_passed c.args.name.now c.args.fields.now i f c.loop-field.found c.if-is_alike.found c.loop-field.to
          c.if-is_alike.to _ here (sym test ∙ w.if-is_alike.false) w.found-is
          w.to-is c.loop-field.invariant
    ]
