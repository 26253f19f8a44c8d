use Rattle.std.proofs.Common.{add-one, sym, subst, take}
use Rattle.sq_epochs.proofs.SetLaws.{set_pushed}
use Rattle.sq_epochs.specs.DueSets.{IsDueOf}
use Rattle.sq_epochs.specs.DueStates.{owes_send, owes_start}
use Rattle.sq_epochs.proofs.due.Due.of.Goals as goal

pub loop-place-preserved : goal.loop-place-preserved
loop-place-preserved c =
    let parts = c.args.parts.now in
    let place = c.loop-place.place in
    let due = c.mark.new.self in
    subst (λ n. IsDueOf (take n parts) due) (sym (add-one place)) (record {
      sends_are =
          set_pushed owes_send parts c.loop-place.due.sends due.sends place c.index-parts-place.result
          c.loop-place-test.true c.index-parts-place.is c.loop-place.invariant.sends_are
          c.mark.ensures.sends_are;
      starts_are =
          set_pushed owes_start parts c.loop-place.due.starts due.starts place c.index-parts-place.result
          c.loop-place-test.true c.index-parts-place.is c.loop-place.invariant.starts_are
          c.mark.ensures.starts_are;
    })
