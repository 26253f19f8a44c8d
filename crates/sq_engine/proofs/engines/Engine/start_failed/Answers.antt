use Rattle.std.proofs.Common.{◌≡◌, max, true, false, Ok, Err, ap, sym, subst, ◌∙◌}
use Rattle.sq_epochs.specs.EpochChanges.{HasFailed}
use Rattle.sq_model.specs.Changes.{after_failed_at}
use Rattle.sq_model.specs.States.{IsSame}
use Rattle.sq_engine.specs.EngineViews.{EngineView, state_of}
use Rattle.sq_engine.proofs.HandingLaws.{there_after}
use Rattle.sq_engine.proofs.LosingLaws.{failed_engine, failed_listed, failed_same}
use Rattle.sq_machine.specs.DueActs.{ClassId}
use Rattle.sq_machine.specs.declared.refusals.Refusal.TheVariants as refusal
use Rattle.sq_model.specs.Answers.{has_start_in}
use Rattle.sq_engine.proofs.PromiseLaws.{failed_promised}
use Rattle.sq_engine.proofs.StartedLaws.{failed_fine, failed_none, start_read}
use Rattle.sq_engine.specs.Begun.{AreKept}
use Rattle.sq_engine.proofs.BegunLaws.{kept_lost}
use Rattle.sq_engine.proofs.RepliedLaws.{part_there}
use Rattle.sq_engine.proofs.engines.Engine.start_failed.Goals as goal

pub hand_out-requires-clause-there : goal.hand_out-requires-clause-there
hand_out-requires-clause-there c = there_after c.args.epoch c.args.class HasFailed c.self.inside.epochs
    c.fail.new.epochs c.fail.ensures

pub hand_out-requires-clause-listed : goal.hand_out-requires-clause-listed
hand_out-requires-clause-listed c =
    let v : EngineView = record {
      conns = c.self.inside.conns;
      checks = c.self.inside.checks;
      asks = c.self.inside.asks;
      puts = c.self.inside.puts;
      epochs = c.self.inside.epochs;
      setup = c.self.inside.setup;
      offset = c.self.inside.offset;
      latest = c.self.inside.latest;
    } in
    failed_listed v c.fail.new.epochs c.args.epoch c.args.class c.self.invariant c.fail.ensures

pub invariant_of-self : goal.invariant_of-self
invariant_of-self c =
    let v : EngineView = record {
      conns = c.self.inside.conns;
      checks = c.self.inside.checks;
      asks = c.self.inside.asks;
      puts = c.self.inside.puts;
      epochs = c.self.inside.epochs;
      setup = c.self.inside.setup;
      offset = c.self.inside.offset;
      latest = c.self.inside.latest;
    } in
    failed_engine v c.fail.new.epochs c.hand_out.new.epochs c.hand_out.new.checks c.args.epoch c.args.class
    c.later-moment.result c.self.invariant c.fail.ensures c.hand_out.ensures.part c.hand_out.ensures.checks
    c.hand_out.ensures.rise

pub returns-clause-ok : goal.returns-clause-ok
returns-clause-ok c =
    let v : EngineView = record {
      conns = c.self.inside.conns;
      checks = c.self.inside.checks;
      asks = c.self.inside.asks;
      puts = c.self.inside.puts;
      epochs = c.self.inside.epochs;
      setup = c.self.inside.setup;
      offset = c.self.inside.offset;
      latest = c.self.inside.latest;
    } in
    subst (λ z. IsSame (state_of
    (record v { checks = c.hand_out.new.checks; epochs = c.hand_out.new.epochs; latest = c.later-moment.result }))
    (after_failed_at (record { epoch = c.args.epoch; class = c.args.class }) (max c.args.now z.latest) (state_of z)))
    c.self.view_is
    (subst (λ m. IsSame (state_of
    (record v { checks = c.hand_out.new.checks; epochs = c.hand_out.new.epochs; latest = c.later-moment.result }))
    (after_failed_at (record { epoch = c.args.epoch; class = c.args.class }) m (state_of v))) c.later-moment.ensures
    (failed_same v c.fail.new.epochs c.hand_out.new.epochs c.hand_out.new.checks c.args.epoch c.args.class
    c.later-moment.result c.self.invariant c.fail.ensures c.hand_out.ensures.part c.hand_out.ensures.checks
    c.hand_out.ensures.rise))

pub returns-then-not-has_start-clause-promised : goal.returns-then-not-has_start-clause-promised
returns-then-not-has_start-clause-promised c =
    let v : EngineView = record {
      conns = c.self.inside.conns;
      checks = c.self.inside.checks;
      asks = c.self.inside.asks;
      puts = c.self.inside.puts;
      epochs = c.self.inside.epochs;
      setup = c.self.inside.setup;
      offset = c.self.inside.offset;
      latest = c.self.inside.latest;
    } in
    let p : ClassId = record { epoch = c.args.epoch; class = c.args.class } in
    let s = state_of c.args.self.now in
    let none : has_start_in s p ≡ false = ap (λ z. has_start_in (state_of z) p) (sym c.self.view_is)
    ∙ sym (start_read v c.args.epoch c.args.class) ∙ sym c.has_start.ensures ∙ c.if-not-has_start.true in
    failed_promised {A = Unit {0}} s s (max c.args.now c.args.self.now.latest) p
    (Err (refusal.NoStartOpen c.args.epoch c.args.class)) (failed_none s p none) tt

pub returns-clause-promised : goal.returns-clause-promised
returns-clause-promised c =
    let v : EngineView = record {
      conns = c.self.inside.conns;
      checks = c.self.inside.checks;
      asks = c.self.inside.asks;
      puts = c.self.inside.puts;
      epochs = c.self.inside.epochs;
      setup = c.self.inside.setup;
      offset = c.self.inside.offset;
      latest = c.self.inside.latest;
    } in
    let p : ClassId = record { epoch = c.args.epoch; class = c.args.class } in
    let s = state_of c.args.self.now in
    let some : has_start_in s p ≡ true = ap (λ z. has_start_in (state_of z) p) (sym c.self.view_is)
    ∙ sym (start_read v c.args.epoch c.args.class) ∙ sym c.has_start.ensures ∙ c.if-not-has_start.false in
    failed_promised {A = Unit {0}} s
    (state_of (record v {
      checks = c.hand_out.new.checks;
      epochs = c.hand_out.new.epochs;
      latest = c.later-moment.result;
    })) (max c.args.now c.args.self.now.latest) p (Ok tt) (failed_fine s p some)
    (returns-clause-ok c)

pub returns-clause-kept : goal.returns-clause-kept
returns-clause-kept c =
    let v : EngineView = record {
      conns = c.self.inside.conns;
      checks = c.self.inside.checks;
      asks = c.self.inside.asks;
      puts = c.self.inside.puts;
      epochs = c.self.inside.epochs;
      setup = c.self.inside.setup;
      offset = c.self.inside.offset;
      latest = c.self.inside.latest;
    } in
    let there = there_after c.args.epoch c.args.class HasFailed c.self.inside.epochs c.fail.new.epochs c.fail.ensures in
    let x = part_there (record v { epochs = c.fail.new.epochs }) c.args.epoch c.args.class there in
    subst (λ z. AreKept z.checks c.hand_out.new.checks) c.self.view_is
    (subst (AreKept v.checks) (sym (c.hand_out.ensures.checks x.part x.is))
    (kept_lost x.part.row.stock.losses c.later-moment.result v.checks))
