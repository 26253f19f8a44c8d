use Rattle.std.proofs.Common.{◌+◌, ◌∷◌, ◌++◌, ◌∙◌, ap, sym, map, drop}
use Rattle.sq_journal.specs.Lines.{after_spaces}
use Rattle.sq_journal.specs.EntryText.{field_word}
use Rattle.sq_journal.proofs.PutLaws.{halfway_more, halfway_stop, halfway_done, spaced_next, spaced_end}
use Rattle.sq_journal.proofs.printing.put_fields.Goals as goal

pub loop-field-preserved : goal.loop-field-preserved
loop-field-preserved g c =
    let f = c.field-item.result in
    halfway_more _ _ _ _ _ _ _ _ _ (32 ∷ field_word f) _ c.loop-field.invariant
    (spaced_next field_word c.args.fields.now c.loop-field.field-index f c.loop-field-test.true
    ∙ ap (λ x. (32 ∷ field_word x)
    ++ after_spaces (map field_word (drop (c.loop-field.field-index + 1) c.args.fields.now))) (sym c.field-item.is))
    c.in-Ok.ensures

pub returns-in-Err : goal.returns-in-Err
returns-in-Err g c =
    let f = c.field-item.result in
    halfway_stop _ _ _ _ _ _ _ _ _ _ (32 ∷ field_word f) _ c.loop-field.invariant
    (spaced_next field_word c.args.fields.now c.loop-field.field-index f c.loop-field-test.true
    ∙ ap (λ x. (32 ∷ field_word x)
    ++ after_spaces (map field_word (drop (c.loop-field.field-index + 1) c.args.fields.now))) (sym c.field-item.is))
    c.in-Err.ensures

pub returns : goal.returns
returns g c =
    halfway_done _ _ _ _ _ _ _ c.loop-field.invariant
    (spaced_end field_word c.args.fields.now c.loop-field.field-index c.loop-field-test.false)
