use Rattle.std.proofs.Common.{◌≡◌, Some, length, refl, ap, ◌∙◌, sym, subst, ◌<◌}
use Rattle.std.specs.Arc.{arc_value}
use Rattle.std.specs.List.{slice_get}
use Rattle.std.proofs.lemmas.Option.{slice_get_read, slice_get_within}
use Rattle.sq_machine.specs.Living.{lives}
use Rattle.sq_epochs.specs.DueStates.{act_in, after_act_in, first_place, owes_start, start_by, started_part, told_due}
use Rattle.sq_epochs.specs.EpochProcs.{SameLiving}
use Rattle.sq_epochs.specs.EpochStates.{EpochState, part_limit, with_part}
use Rattle.sq_epochs.proofs.ActLaws.{start_told}
use Rattle.sq_epochs.proofs.DueLaws.{change_set, first_is}
use Rattle.sq_epochs.proofs.ProcLaws.{procs_after_start, same_living}
use Rattle.sq_epochs.proofs.MarkLaws.{is_few, marked}
use Rattle.sq_epochs.proofs.epoch.Epoch.start.Goals as goal

pub mark-requires : goal.mark-requires
mark-requires c =
    let old : EpochState = record {
      epoch = c.self.inside.number;
      config = arc_value c.self.inside.config;
      checks = c.self.inside.checks;
      parts = c.self.inside.parts.items;
    } in
    let ps = old.parts in
    let cl = c.in_ok-class.class in
    let first : first_place owes_start ps ≡ Some cl = ap (λ z. first_place owes_start z.parts) c.self.view_is
    ∙ sym c.in_ok-class.ensures.first in
    let f = first_is owes_start ps cl first in
    let within : cl < length ps = slice_get_within ps cl f.it f.at in
    is_few old.config.classes old.parts c.self.inside.due c.in_ok-class.class c.self.invariant within

pub invariant_of-self : goal.invariant_of-self
invariant_of-self c =
    let old : EpochState = record {
      epoch = c.self.inside.number;
      config = arc_value c.self.inside.config;
      checks = c.self.inside.checks;
      parts = c.self.inside.parts.items;
    } in
    let ps = old.parts in
    let cl = c.in_ok-class.class in
    let first : first_place owes_start ps ≡ Some cl = ap (λ z. first_place owes_start z.parts) c.self.view_is
    ∙ sym c.in_ok-class.ensures.first in
    let f = first_is owes_start ps cl first in
    let within : cl < length ps = slice_get_within ps cl f.it f.at in
    marked old.config.classes old.parts c.self.inside.due c.mark.new.self c.in_ok-class.class
    c.index_mut-part.result.now c.start.new.self c.self.invariant within c.index_mut-part.ensures.value
    (ap part_limit c.start.ensures.value) c.mark.ensures

pub returns-clause-act : goal.returns-clause-act
returns-clause-act c =
    let old : EpochState = record {
      epoch = c.self.inside.number;
      config = arc_value c.self.inside.config;
      checks = c.self.inside.checks;
      parts = c.self.inside.parts.items;
    } in
    let ps = old.parts in
    let cl = c.in_ok-class.class in
    let p = c.index_mut-part.result.now in
    let q = c.start.new.self in
    let first : first_place owes_start ps ≡ Some cl = ap (λ z. first_place owes_start z.parts) c.self.view_is
    ∙ sym c.in_ok-class.ensures.first in
    let f = first_is owes_start ps cl first in
    let there : slice_get ps cl ≡ Some p =
    slice_get_read ps (length ps) cl p refl (slice_get_within ps cl f.it f.at) c.index_mut-part.ensures.value in
    let made = start_told old cl first in
    sym (ap told_due (ap (act_in start_by owes_start) (sym c.self.view_is) ∙ made))

pub returns-clause-value : goal.returns-clause-value
returns-clause-value c =
    let old : EpochState = record {
      epoch = c.self.inside.number;
      config = arc_value c.self.inside.config;
      checks = c.self.inside.checks;
      parts = c.self.inside.parts.items;
    } in
    let ps = old.parts in
    let cl = c.in_ok-class.class in
    let p = c.index_mut-part.result.now in
    let q = c.start.new.self in
    let first : first_place owes_start ps ≡ Some cl = ap (λ z. first_place owes_start z.parts) c.self.view_is
    ∙ sym c.in_ok-class.ensures.first in
    let f = first_is owes_start ps cl first in
    let there : slice_get ps cl ≡ Some p =
    slice_get_read ps (length ps) cl p refl (slice_get_within ps cl f.it f.at) c.index_mut-part.ensures.value in
    let made = start_told old cl first in
    ap (λ z. with_part cl z old) c.start.ensures.value
    ∙ ap (λ z. record old { parts = z }) (change_set ps cl p started_part there)
    ∙ sym (ap (λ o. after_act_in o old) made) ∙ ap (λ z. after_act_in (act_in start_by owes_start z) z) c.self.view_is

pub returns-clause-alive : goal.returns-clause-alive
returns-clause-alive c =
    let old : EpochState = record {
      epoch = c.self.inside.number;
      config = arc_value c.self.inside.config;
      checks = c.self.inside.checks;
      parts = c.self.inside.parts.items;
    } in
    let p = c.index_mut-part.result.now in
    let q = c.start.new.self in
    subst (λ z. SameLiving z (with_part c.in_ok-class.class q old)) c.self.view_is
    (same_living old c.in_ok-class.class p q c.index_mut-part.ensures.value
    (λ k. ap (λ z. lives k z.row.stock.procs) c.start.ensures.value ∙ ap (lives k) (procs_after_start p.row.stock)))
