use Rattle.std.proofs.Common.{ap, sym, ◌∙◌}
use Rattle.sq_class.specs.Parts.{PartState}
use Rattle.sq_epochs.specs.Reconfigured.{kept_alike}
use Rattle.sq_epochs.proofs.InheritLaws.{left_none, one_begun, one_gone}
use Rattle.sq_epochs.proofs.epoch.inherit_parts.Goals as goal

pub loop-place-init : goal.loop-place-init
loop-place-init c = record { parts_are = c.requires.new; before_is = sym (left_none c.args.before.now) }

pub loop-place-preserved : goal.loop-place-preserved
loop-place-preserved c = record {
  parts_are =
      one_begun c.args.classes.now c.args.before.now c.loop-place.before c.loop-place.parts c.loop-place.place
      c.index-classes-place.result c.index-parts-place.result c.hand_on.new.part
      c.requires.own c.loop-place-test.true c.index-classes-place.is c.loop-place.invariant.parts_are
      c.loop-place.invariant.before_is c.index-parts-place.is
      (c.hand_on.ensures.part ∙
      ap (λ (z : PartState). record z
      { row = record z.row { kept = kept_alike c.loop-place.before c.index-classes-place.result } })
      (sym c.index-parts-place.is));
  before_is =
      one_gone c.args.classes.now c.args.before.now c.loop-place.before c.hand_on.new.self c.loop-place.place
      c.index-classes-place.result c.loop-place-test.true c.index-classes-place.is
      c.loop-place.invariant.before_is c.hand_on.ensures.left;
}
