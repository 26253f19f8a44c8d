use Rattle.std.proofs.Common.{◌≡◌, [], refl, subst, ◌<◌, length}
use Rattle.std.specs.Arc.{arc_value}
use Rattle.sq_epochs.specs.EpochChanges.{HasNoLoss, IsHandedOn}
use Rattle.sq_epochs.specs.EpochStates.{EpochState, with_part}
use Rattle.sq_class.specs.Losing.{IsHandedOut, handed_out}
use Rattle.sq_epochs.proofs.OutcomeLaws.{more_some, none_epoch, some_epoch, lost_limit, three_none}
use Rattle.sq_epochs.specs.EpochProcs.{SameLiving}
use Rattle.sq_epochs.proofs.ProcLaws.{living_lost, same_living}
use Rattle.sq_epochs.proofs.MarkLaws.{inside, is_few, marked}
use Rattle.sq_epochs.proofs.epoch.Epoch.next_lost.Goals as goal

pub mark-requires : goal.mark-requires
mark-requires c =
    let old : EpochState = record {
      epoch = c.self.inside.number;
      config = arc_value c.self.inside.config;
      checks = c.self.inside.checks;
      parts = c.self.inside.parts.items;
    } in
    let within : c.args.class < length old.parts =
    inside old c.args.self.now c.args.class c.self.view_is c.requires.there in
    is_few old.config.classes old.parts c.self.inside.due c.args.class c.self.invariant within

pub invariant_of-self : goal.invariant_of-self
invariant_of-self c =
    let old : EpochState = record {
      epoch = c.self.inside.number;
      config = arc_value c.self.inside.config;
      checks = c.self.inside.checks;
      parts = c.self.inside.parts.items;
    } in
    let within : c.args.class < length old.parts =
    inside old c.args.self.now c.args.class c.self.view_is c.requires.there in
    marked old.config.classes old.parts c.self.inside.due c.mark.new.self c.args.class c.index_mut-part.result.now
    c.next_lost-lost.new.self c.self.invariant within c.index_mut-part.ensures.value
    (lost_limit c.next_lost-lost.result c.index_mut-part.result.now c.next_lost-lost.new.self
    c.next_lost-lost.ensures.handed c.next_lost-lost.ensures.same) c.mark.ensures

pub returns-clause-handed : goal.returns-clause-handed
returns-clause-handed c =
    let old : EpochState = record {
      epoch = c.self.inside.number;
      config = arc_value c.self.inside.config;
      checks = c.self.inside.checks;
      parts = c.self.inside.parts.items;
    } in
    let p = c.index_mut-part.result.now in
    let q = c.next_lost-lost.new.self in
    some_epoch c.next_lost-lost.result old c.args.self.now _ c.args.class c.index_mut-part.result.now
    c.next_lost-lost.new.self IsHandedOn c.self.view_is c.requires.there c.index_mut-part.ensures.value refl
    (more_some c.next_lost-lost.result (λ l. IsHandedOut l p q) (λ l. IsHandedOn l p q) c.next_lost-lost.ensures.handed
    (λ l out. record { out = out; after = c.next_lost-lost.ensures.after }))

pub returns-clause-none : goal.returns-clause-none
returns-clause-none c =
    let old : EpochState = record {
      epoch = c.self.inside.number;
      config = arc_value c.self.inside.config;
      checks = c.self.inside.checks;
      parts = c.self.inside.parts.items;
    } in
    let p = c.index_mut-part.result.now in
    let q = c.next_lost-lost.new.self in
    none_epoch c.next_lost-lost.result old c.args.self.now _ c.args.class c.index_mut-part.result.now
    c.next_lost-lost.new.self HasNoLoss c.self.view_is c.requires.there c.index_mut-part.ensures.value refl
    (three_none c.next_lost-lost.result (p.row.stock.losses ≡ []) (q ≡ p) (handed_out p.row ≡ p.row) (HasNoLoss p q)
    c.next_lost-lost.ensures.none c.next_lost-lost.ensures.same c.next_lost-lost.ensures.done
    (λ a b d. record { none = a; same = b; done = d }))

pub returns-clause-alive : goal.returns-clause-alive
returns-clause-alive c =
    let old : EpochState = record {
      epoch = c.self.inside.number;
      config = arc_value c.self.inside.config;
      checks = c.self.inside.checks;
      parts = c.self.inside.parts.items;
    } in
    let p = c.index_mut-part.result.now in
    let q = c.next_lost-lost.new.self in
    subst (λ z. SameLiving z (with_part c.args.class q old)) c.self.view_is
    (same_living old c.args.class p q c.index_mut-part.ensures.value
    (living_lost c.next_lost-lost.result p q c.next_lost-lost.ensures.handed c.next_lost-lost.ensures.same))
