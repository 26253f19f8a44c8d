use Rattle.std.proofs.Common.{◌≡◌, ◌∙◌, ◌+◌, suc, max, true, Ok, Err, ap, sym, subst, arith}
use Rattle.sq_machine.specs.DueActs.{ClassId}
use Rattle.sq_machine.specs.Next.{gives, refuses}
use Rattle.sq_machine.specs.declared.entries.Told.TheVariants as told
use Rattle.sq_machine.specs.declared.refusals.Refusal.TheVariants as refusal
use Rattle.sq_epochs.specs.EpochProcs.{has_start}
use Rattle.sq_model.specs.Answers.{started_answer}
use Rattle.sq_model.specs.Changes.{after_started_at}
use Rattle.sq_model.specs.States.{IsSame}
use Rattle.sq_engine.specs.EngineViews.{EngineView, state_of}
use Rattle.sq_engine.proofs.PromiseLaws.{started_promised}
use Rattle.sq_engine.proofs.StartedLaws.{is_true, start_read, started_engine, started_fine, started_none, started_same, started_spent}
use Rattle.sq_engine.proofs.engines.Engine.started.Goals as goal

pub returns-in-Err-NoStartOpen-clause-told : goal.returns-in-Err-NoStartOpen-clause-told
returns-in-Err-NoStartOpen-clause-told c =
    let v : EngineView = record {
      conns = c.self.inside.conns;
      checks = c.self.inside.checks;
      asks = c.self.inside.asks;
      puts = c.self.inside.puts;
      epochs = c.self.inside.epochs;
      setup = c.self.inside.setup;
      offset = c.self.inside.offset;
      latest = c.self.inside.latest;
    } in
    let p : ClassId = record { epoch = c.args.epoch; class = c.args.class } in
    subst (λ z. started_answer (state_of z) p ≡ refuses (refusal.NoStartOpen c.args.epoch c.args.class)) c.self.view_is
    (started_none (state_of v) p
    (sym (start_read v c.args.epoch c.args.class)
    ∙ c.in-Err-NoStartOpen.ensures.none.0 (ap Err c.in-Err-NoStartOpen.field-0-is)))

pub returns-in-Err-NoStartOpen-clause-promised : goal.returns-in-Err-NoStartOpen-clause-promised
returns-in-Err-NoStartOpen-clause-promised c =
    let s = state_of c.args.self.now in
    started_promised told.Proc s s (max c.args.now c.args.self.now.latest)
    (record { epoch = c.args.epoch; class = c.args.class }) (Err (refusal.NoStartOpen c.args.epoch c.args.class))
    (returns-in-Err-NoStartOpen-clause-told c) tt

pub returns-in-Err-Spent-clause-told : goal.returns-in-Err-Spent-clause-told
returns-in-Err-Spent-clause-told c =
    let v : EngineView = record {
      conns = c.self.inside.conns;
      checks = c.self.inside.checks;
      asks = c.self.inside.asks;
      puts = c.self.inside.puts;
      epochs = c.self.inside.epochs;
      setup = c.self.inside.setup;
      offset = c.self.inside.offset;
      latest = c.self.inside.latest;
    } in
    let p : ClassId = record { epoch = c.args.epoch; class = c.args.class } in
    let spent = c.in-Err-Spent.ensures.spent (ap Err c.in-Err-Spent.field-0-is) in
    let procs : c.procs.result ≡ v.epochs.procs = c.procs.ensures.value
    ∙ ap (λ z. z.procs) c.in-Err-Spent.ensures.err in
    let one : suc v.epochs.procs ≡ c.procs.result + 1 = omega arith in
    subst (λ z. started_answer (state_of z) p ≡ refuses (refusal.Spent (c.procs.result + 1))) c.self.view_is
    (started_spent (state_of v) p (sym (start_read v c.args.epoch c.args.class) ∙ spent.0) spent.1
    ∙ ap (λ n. refuses (refusal.Spent n)) one)

pub returns-in-Err-Spent-clause-promised : goal.returns-in-Err-Spent-clause-promised
returns-in-Err-Spent-clause-promised c =
    let s = state_of c.args.self.now in
    started_promised told.Proc s s (max c.args.now c.args.self.now.latest)
    (record { epoch = c.args.epoch; class = c.args.class }) (Err (refusal.Spent (c.procs.result + 1)))
    (returns-in-Err-Spent-clause-told c) tt

pub invariant_of-self-2 : goal.invariant_of-self-2
invariant_of-self-2 c =
    let v : EngineView = record {
      conns = c.self.inside.conns;
      checks = c.self.inside.checks;
      asks = c.self.inside.asks;
      puts = c.self.inside.puts;
      epochs = c.self.inside.epochs;
      setup = c.self.inside.setup;
      offset = c.self.inside.offset;
      latest = c.self.inside.latest;
    } in
    started_engine v c.started.new.self c.args.epoch c.args.class c.later-self-inside.result c.self.invariant
    c.in-Ok.ensures.ok

pub returns-clause-told : goal.returns-clause-told
returns-clause-told c =
    let v : EngineView = record {
      conns = c.self.inside.conns;
      checks = c.self.inside.checks;
      asks = c.self.inside.asks;
      puts = c.self.inside.puts;
      epochs = c.self.inside.epochs;
      setup = c.self.inside.setup;
      offset = c.self.inside.offset;
      latest = c.self.inside.latest;
    } in
    let p : ClassId = record { epoch = c.args.epoch; class = c.args.class } in
    let some : has_start v.epochs c.args.epoch c.args.class ≡ true =
    is_true (has_start v.epochs c.args.epoch c.args.class) (λ f. let e = c.in-Ok.ensures.none.1 f in cc) in
    subst (λ z. started_answer (state_of z) p ≡ gives (told.Proc c.in-Ok.proc)) c.self.view_is
    (started_fine (state_of v) p (sym (start_read v c.args.epoch c.args.class) ∙ some) c.in-Ok.ensures.fits
    ∙ ap (λ n. gives (told.Proc n)) (sym c.in-Ok.ensures.number))

pub returns-clause-ok : goal.returns-clause-ok
returns-clause-ok c =
    let v : EngineView = record {
      conns = c.self.inside.conns;
      checks = c.self.inside.checks;
      asks = c.self.inside.asks;
      puts = c.self.inside.puts;
      epochs = c.self.inside.epochs;
      setup = c.self.inside.setup;
      offset = c.self.inside.offset;
      latest = c.self.inside.latest;
    } in
    let p : ClassId = record { epoch = c.args.epoch; class = c.args.class } in
    let new = record v { epochs = c.started.new.self; latest = c.later-self-inside.result } in
    subst (λ z. IsSame (state_of new) (after_started_at p (max c.args.now z.latest) (state_of z))) c.self.view_is
    (subst (λ m. IsSame (state_of new) (after_started_at p m (state_of v))) c.later-self-inside.ensures
    (started_same v c.started.new.self c.args.epoch c.args.class c.later-self-inside.result c.facts.ensures.homes
    c.in-Ok.ensures.ok))

pub returns-clause-promised : goal.returns-clause-promised
returns-clause-promised c =
    let v : EngineView = record {
      conns = c.self.inside.conns;
      checks = c.self.inside.checks;
      asks = c.self.inside.asks;
      puts = c.self.inside.puts;
      epochs = c.self.inside.epochs;
      setup = c.self.inside.setup;
      offset = c.self.inside.offset;
      latest = c.self.inside.latest;
    } in
    let s = state_of c.args.self.now in
    started_promised told.Proc s
    (state_of (record v { epochs = c.started.new.self; latest = c.later-self-inside.result }))
    (max c.args.now c.args.self.now.latest) (record { epoch = c.args.epoch; class = c.args.class })
    (Ok c.in-Ok.proc) (returns-clause-told c) (returns-clause-ok c)
