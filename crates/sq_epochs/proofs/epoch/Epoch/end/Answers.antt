use Rattle.std.proofs.Common.{ap, refl, ◌<◌, length}
use Rattle.std.specs.Arc.{arc_value}
use Rattle.sq_epochs.specs.EpochProcs.{HasEnded}
use Rattle.sq_epochs.specs.EpochStates.{EpochState, part_limit}
use Rattle.sq_epochs.proofs.PartLaws.{epoch_changed}
use Rattle.sq_epochs.proofs.MarkLaws.{inside, is_few, marked}
use Rattle.sq_epochs.proofs.epoch.Epoch.end.Goals as goal

pub mark-requires : goal.mark-requires
mark-requires c =
    let old : EpochState = record {
      epoch = c.self.inside.number;
      config = arc_value c.self.inside.config;
      checks = c.self.inside.checks;
      parts = c.self.inside.parts.items;
    } in
    let within : c.args.class < length old.parts =
    inside old c.args.self.now c.args.class c.self.view_is c.requires.there in
    is_few old.config.classes old.parts c.self.inside.due c.args.class c.self.invariant within

pub invariant_of-self : goal.invariant_of-self
invariant_of-self c =
    let old : EpochState = record {
      epoch = c.self.inside.number;
      config = arc_value c.self.inside.config;
      checks = c.self.inside.checks;
      parts = c.self.inside.parts.items;
    } in
    let within : c.args.class < length old.parts =
    inside old c.args.self.now c.args.class c.self.view_is c.requires.there in
    marked old.config.classes old.parts c.self.inside.due c.mark.new.self c.args.class c.index_mut-part.result.now
    c.end.new.self c.self.invariant within c.index_mut-part.ensures.value
    (ap part_limit c.end.ensures.value) c.mark.ensures

pub returns : goal.returns
returns c =
    let old : EpochState = record {
      epoch = c.self.inside.number;
      config = arc_value c.self.inside.config;
      checks = c.self.inside.checks;
      parts = c.self.inside.parts.items;
    } in
    epoch_changed old c.args.self.now _ c.args.class c.index_mut-part.result.now c.end.new.self
    (HasEnded c.args.cause c.args.proc) c.self.view_is c.requires.there c.index_mut-part.ensures.value
    (record { value = c.end.ensures.value; after = c.end.ensures.after; lost = c.end.ensures.lost }) refl
