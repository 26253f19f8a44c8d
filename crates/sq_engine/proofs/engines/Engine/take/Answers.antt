use Rattle.std.proofs.Common.{◌≡◌, ◌∙◌, max, Err, Ok, None, Some, IfSome, is_some, true, ap, sym, subst, rules}
use Rattle.std.proofs.lemmas.Option.{same_Some}
use Rattle.sq_machine.specs.declared.entries.Told.TheVariants as told
use Rattle.sq_machine.specs.declared.refusals.Refusal.TheVariants as refusal
use Rattle.sq_checks.specs.Records.{Judged, judged_of}
use Rattle.sq_checks.specs.Stages.{decided_in}
use Rattle.sq_checks.specs.Tables.{value_at}
use Rattle.sq_engine.specs.Engines.{IsEngine}
use Rattle.sq_model.specs.Changes.{after_take}
use Rattle.sq_model.specs.States.{IsSame}
use Rattle.sq_engine.specs.EngineViews.{EngineView, state_of}
use Rattle.sq_engine.proofs.PromiseLaws.{take_promised}
use Rattle.sq_engine.proofs.TakeLaws.{judged_is, take_early, take_told, take_unknown, taken_at}
use Rattle.sq_engine.specs.Begun.{AreKept}
use Rattle.sq_engine.proofs.engines.Engine.take.Goals as goal

pub returns-in_default-clause-told : goal.returns-in_default-clause-told
returns-in_default-clause-told c =
    let w = c.args.self.now in
    let none : value_at c.self.inside.checks c.args.check ≡ None = search rules in
    take_unknown w c.args.check (subst (λ z. value_at z.checks c.args.check ≡ None) c.self.view_is none)

pub returns-then-is_none-clause-told : goal.returns-then-is_none-clause-told
returns-then-is_none-clause-told c =
    let w = c.args.self.now in
    let k = c.in-Some.open.now in
    let found : value_at w.checks c.args.check ≡ Some k =
    subst (λ z. value_at z.checks c.args.check ≡ Some k) c.self.view_is (sym c.in-Some.ensures) in
    let none : decided_in k.stage ≡ None = search rules in
    take_early w c.args.check k found none

pub returns-clause-told : goal.returns-clause-told
returns-clause-told c =
    let w = c.args.self.now in
    let k = c.in-Some.open.now in
    let found : value_at w.checks c.args.check ≡ Some k =
    subst (λ z. value_at z.checks c.args.check ≡ Some k) c.self.view_is (sym c.in-Some.ensures) in
    let i : IsEngine w = subst IsEngine c.self.view_is c.self.invariant in
    let some : is_some (decided_in k.stage) ≡ true = search rules in
    let same : c.remove.result ≡ k = same_Some _ _ (c.remove.ensures.check ∙ found) in
    let r = c.into_record-record.result in
    take_told w c.args.check k r i found some
    (judged_is c.args.check r k
    (subst (λ z. IfSome (decided_in z.stage) (λ o. r ≡ judged_of c.args.check o z)) same c.into_record-record.ensures)
    some) c.outcome-outcome.ensures.verdict

pub returns-in_default-clause-promised : goal.returns-in_default-clause-promised
returns-in_default-clause-promised c =
    let s = state_of c.args.self.now in
    take_promised {A = Judged} (λ r. told.Judged r.epoch r.outcome) s s (max c.args.now c.args.self.now.latest)
    c.args.check (Err (refusal.UnknownCheck c.args.check)) (returns-in_default-clause-told c) tt

pub returns-then-is_none-clause-promised : goal.returns-then-is_none-clause-promised
returns-then-is_none-clause-promised c =
    let s = state_of c.args.self.now in
    take_promised {A = Judged} (λ r. told.Judged r.epoch r.outcome) s s (max c.args.now c.args.self.now.latest)
    c.args.check (Err (refusal.NotDone c.args.check)) (returns-then-is_none-clause-told c) tt

pub returns-clause-ok : goal.returns-clause-ok
returns-clause-ok c =
    let w = c.args.self.now in
    let v : EngineView = record {
      conns = c.self-2.inside.conns;
      checks = c.self-2.inside.checks;
      asks = c.self-2.inside.asks;
      puts = c.self-2.inside.puts;
      epochs = c.self-2.inside.epochs;
      setup = c.self-2.inside.setup;
      offset = c.self-2.inside.offset;
      latest = c.self-2.inside.latest;
    } in
    let same : IsSame (state_of v) (after_take c.args.check w.latest (state_of w)) =
    subst (λ z. IsSame (state_of z) (after_take c.args.check w.latest (state_of w))) (sym c.self-2.view_is)
    c.remove.ensures.same in
    let moment : c.later-self-inside.result ≡ max c.args.now w.latest = c.later-self-inside.ensures
    ∙ ap (λ z. max c.args.now z.latest) c.self-2.view_is ∙ ap (λ t. max c.args.now t) c.remove.ensures.latest in
    subst (λ t. IsSame (state_of (record v { latest = c.later-self-inside.result }))
    (after_take c.args.check t (state_of w))) moment
    (taken_at v c.args.check w.latest c.later-self-inside.result (state_of w) same)

pub returns-clause-promised : goal.returns-clause-promised
returns-clause-promised c =
    let s = state_of c.args.self.now in
    let v : EngineView = record {
      conns = c.self-2.inside.conns;
      checks = c.self-2.inside.checks;
      asks = c.self-2.inside.asks;
      puts = c.self-2.inside.puts;
      epochs = c.self-2.inside.epochs;
      setup = c.self-2.inside.setup;
      offset = c.self-2.inside.offset;
      latest = c.self-2.inside.latest;
    } in
    take_promised {A = Judged} (λ r. told.Judged r.epoch r.outcome) s
    (state_of (record v { latest = c.later-self-inside.result })) (max c.args.now c.args.self.now.latest) c.args.check
    (Ok c.into_record-record.result) (returns-clause-told c) (returns-clause-ok c)

pub returns-clause-kept : goal.returns-clause-kept
returns-clause-kept c = subst (λ z. AreKept c.args.self.now.checks z.checks) (sym c.self-2.view_is)
    c.remove.ensures.kept
