use Rattle.std.proofs.Common.{All, subst}
use Rattle.std.proofs.lemmas.List.Elements.{All-more}
use Rattle.sq_journal.specs.Values.{IsField}
use Rattle.sq_journal.proofs.RangeLaws.{each_field, take_whole}
use Rattle.sq_journal.proofs.ranges.field_values.Goals as goal

pub loop-field-preserved : goal.loop-field-preserved
loop-field-preserved c =
    All-more IsField c.args.fields.now c.loop-field.field-index c.field-item.result c.loop-field-test.true
    c.loop-field.invariant
    (subst IsField c.field-item.is (c.read_text.ensures, c.read_text-in-loop-field.ensures))

pub returns : goal.returns
returns c =
    each_field c.args.fields.now
    (subst (λ fs. All IsField fs) (take_whole c.args.fields.now c.loop-field.field-index c.loop-field-test.false)
    c.loop-field.invariant)
