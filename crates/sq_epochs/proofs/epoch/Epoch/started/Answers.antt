use Rattle.std.proofs.Common.{refl, ◌<◌, length}
use Rattle.std.specs.Arc.{arc_value}
use Rattle.sq_epochs.specs.EpochProcs.{HasStarted}
use Rattle.sq_epochs.specs.EpochStates.{EpochState}
use Rattle.sq_epochs.proofs.OutcomeLaws.{ok_epoch}
use Rattle.sq_epochs.proofs.ProcLaws.{start_limit}
use Rattle.sq_epochs.proofs.MarkLaws.{inside, is_few, marked}
use Rattle.sq_epochs.proofs.epoch.Epoch.started.Goals as goal

pub mark-requires : goal.mark-requires
mark-requires c =
    let old : EpochState = record {
      epoch = c.self.inside.number;
      config = arc_value c.self.inside.config;
      checks = c.self.inside.checks;
      parts = c.self.inside.parts.items;
    } in
    let within : c.args.class < length old.parts =
    inside old c.args.self.now c.args.class c.self.view_is c.requires.there in
    is_few old.config.classes old.parts c.self.inside.due c.args.class c.self.invariant within

pub invariant_of-self : goal.invariant_of-self
invariant_of-self c =
    let old : EpochState = record {
      epoch = c.self.inside.number;
      config = arc_value c.self.inside.config;
      checks = c.self.inside.checks;
      parts = c.self.inside.parts.items;
    } in
    let within : c.args.class < length old.parts =
    inside old c.args.self.now c.args.class c.self.view_is c.requires.there in
    marked old.config.classes old.parts c.self.inside.due c.mark.new.self c.args.class c.index_mut-part.result.now
    c.started-started.new.self c.self.invariant within c.index_mut-part.ensures.value
    (start_limit c.started-started.result c.args.proc c.index_mut-part.result.now c.started-started.new.self
    c.started-started.ensures.ok c.started-started.ensures.err) c.mark.ensures

pub returns-clause-ok : goal.returns-clause-ok
returns-clause-ok c =
    let old : EpochState = record {
      epoch = c.self.inside.number;
      config = arc_value c.self.inside.config;
      checks = c.self.inside.checks;
      parts = c.self.inside.parts.items;
    } in
    ok_epoch c.started-started.result old c.args.self.now _ c.args.class c.index_mut-part.result.now
    c.started-started.new.self (HasStarted c.args.proc) c.self.view_is c.requires.there c.index_mut-part.ensures.value
    refl c.started-started.ensures.ok
