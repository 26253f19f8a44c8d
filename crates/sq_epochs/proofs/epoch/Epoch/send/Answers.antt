use Rattle.std.proofs.Common.{◌≡◌, Some, length, refl, ap, ◌∙◌, sym, subst, ◌<◌}
use Rattle.std.specs.Arc.{arc_value}
use Rattle.std.specs.List.{slice_get}
use Rattle.std.proofs.lemmas.Option.{same_Some, slice_get_read, slice_get_within}
use Rattle.sq_machine.specs.Farms.{send_of}
use Rattle.sq_machine.specs.Living.{lives}
use Rattle.sq_epochs.specs.DueStates.{act_in, after_act_in, first_place, owes_send, send_by, sent_part, told_due}
use Rattle.sq_epochs.specs.EpochProcs.{SameLiving}
use Rattle.sq_epochs.specs.EpochStates.{EpochState, part_limit, with_part}
use Rattle.sq_epochs.proofs.ActLaws.{nothing_sent, send_told}
use Rattle.sq_epochs.proofs.DueLaws.{change_set, first_is}
use Rattle.sq_epochs.proofs.ProcLaws.{lives_after_send, same_living}
use Rattle.sq_epochs.proofs.MarkLaws.{is_few, marked}
use Rattle.sq_epochs.proofs.epoch.Epoch.send.Goals as goal

pub unreachable-requires : goal.unreachable-requires
unreachable-requires c =
    let old : EpochState = record {
      epoch = c.self.inside.number;
      config = arc_value c.self.inside.config;
      checks = c.self.inside.checks;
      parts = c.self.inside.parts.items;
    } in
    let ps = old.parts in
    let cl = c.in_ok-class.class in
    let p = c.index_mut-part.result.now in
    let q = c.send.new.self in
    let first : first_place owes_send ps ≡ Some cl = ap (λ z. first_place owes_send z.parts) c.self.view_is
    ∙ sym c.in_ok-class.ensures.first in
    let f = first_is owes_send ps cl first in
    let there : slice_get ps cl ≡ Some p =
    slice_get_read ps (length ps) cl p refl (slice_get_within ps cl f.it f.at) c.index_mut-part.ensures.value in
    let p_is : f.it ≡ p = same_Some f.it p (sym f.at ∙ there) in
    nothing_sent c.send.result (send_of p.row.stock) c.send.ensures.send c.in_default.is
    (ap owes_send (sym p_is) ∙ f.hit)

pub mark-requires : goal.mark-requires
mark-requires c =
    let old : EpochState = record {
      epoch = c.self.inside.number;
      config = arc_value c.self.inside.config;
      checks = c.self.inside.checks;
      parts = c.self.inside.parts.items;
    } in
    let ps = old.parts in
    let cl = c.in_ok-class.class in
    let first : first_place owes_send ps ≡ Some cl = ap (λ z. first_place owes_send z.parts) c.self.view_is
    ∙ sym c.in_ok-class.ensures.first in
    let f = first_is owes_send ps cl first in
    let within : cl < length ps = slice_get_within ps cl f.it f.at in
    is_few old.config.classes old.parts c.self.inside.due c.in_ok-class.class c.self.invariant within

pub invariant_of-self : goal.invariant_of-self
invariant_of-self c =
    let old : EpochState = record {
      epoch = c.self.inside.number;
      config = arc_value c.self.inside.config;
      checks = c.self.inside.checks;
      parts = c.self.inside.parts.items;
    } in
    let ps = old.parts in
    let cl = c.in_ok-class.class in
    let first : first_place owes_send ps ≡ Some cl = ap (λ z. first_place owes_send z.parts) c.self.view_is
    ∙ sym c.in_ok-class.ensures.first in
    let f = first_is owes_send ps cl first in
    let within : cl < length ps = slice_get_within ps cl f.it f.at in
    marked old.config.classes old.parts c.self.inside.due c.mark.new.self c.in_ok-class.class
    c.index_mut-part.result.now c.send.new.self c.self.invariant within c.index_mut-part.ensures.value
    (ap part_limit c.send.ensures.value) c.mark.ensures

pub returns-clause-act : goal.returns-clause-act
returns-clause-act c =
    let old : EpochState = record {
      epoch = c.self.inside.number;
      config = arc_value c.self.inside.config;
      checks = c.self.inside.checks;
      parts = c.self.inside.parts.items;
    } in
    let ps = old.parts in
    let cl = c.in_ok-class.class in
    let p = c.index_mut-part.result.now in
    let q = c.send.new.self in
    let first : first_place owes_send ps ≡ Some cl = ap (λ z. first_place owes_send z.parts) c.self.view_is
    ∙ sym c.in_ok-class.ensures.first in
    let f = first_is owes_send ps cl first in
    let there : slice_get ps cl ≡ Some p =
    slice_get_read ps (length ps) cl p refl (slice_get_within ps cl f.it f.at) c.index_mut-part.ensures.value in
    let made = send_told old cl p c.in-Some.sending first there (sym c.in-Some.ensures.send) in
    ap Some c.told.ensures ∙ sym (ap told_due (ap (act_in send_by owes_send) (sym c.self.view_is) ∙ made))

pub returns-clause-value : goal.returns-clause-value
returns-clause-value c =
    let old : EpochState = record {
      epoch = c.self.inside.number;
      config = arc_value c.self.inside.config;
      checks = c.self.inside.checks;
      parts = c.self.inside.parts.items;
    } in
    let ps = old.parts in
    let cl = c.in_ok-class.class in
    let p = c.index_mut-part.result.now in
    let q = c.send.new.self in
    let first : first_place owes_send ps ≡ Some cl = ap (λ z. first_place owes_send z.parts) c.self.view_is
    ∙ sym c.in_ok-class.ensures.first in
    let f = first_is owes_send ps cl first in
    let there : slice_get ps cl ≡ Some p =
    slice_get_read ps (length ps) cl p refl (slice_get_within ps cl f.it f.at) c.index_mut-part.ensures.value in
    let made = send_told old cl p c.in-Some.sending first there (sym c.in-Some.ensures.send) in
    ap (λ z. with_part cl z old) c.send.ensures.value
    ∙ ap (λ z. record old { parts = z }) (change_set ps cl p sent_part there) ∙ sym (ap (λ o. after_act_in o old) made)
    ∙ ap (λ z. after_act_in (act_in send_by owes_send z) z) c.self.view_is

pub returns-clause-alive : goal.returns-clause-alive
returns-clause-alive c =
    let old : EpochState = record {
      epoch = c.self.inside.number;
      config = arc_value c.self.inside.config;
      checks = c.self.inside.checks;
      parts = c.self.inside.parts.items;
    } in
    let p = c.index_mut-part.result.now in
    let q = c.send.new.self in
    subst (λ z. SameLiving z (with_part c.in_ok-class.class q old)) c.self.view_is
    (same_living old c.in_ok-class.class p q c.index_mut-part.ensures.value
    (λ k. ap (λ z. lives k z.row.stock.procs) c.send.ensures.value ∙ lives_after_send k p.row.stock))
