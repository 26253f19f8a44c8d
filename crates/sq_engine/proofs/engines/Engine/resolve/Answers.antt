use Rattle.std.proofs.Common.{◌≡◌, ◌∙◌, ◌+◌, suc, Err, ap, subst, arith, refl}
use Rattle.sq_machine.specs.Machine.{step_next}
use Rattle.sq_machine.specs.Next.{gives, refuses}
use Rattle.sq_machine.specs.declared.refusals.Refusal.TheVariants as refusal
use Rattle.sq_model.specs.Changes.{after_step_of}
use Rattle.sq_model.specs.States.{IsSame}
use Rattle.sq_engine.specs.EngineViews.{EngineView, state_of}
use Rattle.sq_engine.specs.Stepping.{stepped_told}
use Rattle.sq_engine.proofs.AskingLaws.{asking, class_there, free_asking, said_noted}
use Rattle.sq_engine.proofs.ResolveLaws.{same_resolved, says_here, told_resolved, told_spent}
use Rattle.sq_engine.proofs.ResolvedLaws.{before_engine, resolved_engine, same_before}
use Rattle.sq_engine.specs.Begun.{AreKept}
use Rattle.sq_engine.proofs.BegunLaws.{kept_change, kept_same}
use Rattle.sq_engine.proofs.engines.Engine.resolve.Goals as goal

pub resolve-requires-clause-free : goal.resolve-requires-clause-free
resolve-requires-clause-free c =
    let v : EngineView = record {
      conns = c.self.inside.conns;
      checks = c.self.inside.checks;
      asks = c.self.inside.asks;
      puts = c.self.inside.puts;
      epochs = c.self.inside.epochs;
      setup = c.self.inside.setup;
      offset = c.self.inside.offset;
      latest = c.self.inside.latest;
    } in
    let a = asking v c.args.epoch c.args.check (rw (← c.self.view_is) at c.requires.there)
    (rw (← c.self.view_is) at c.requires.of_epoch) (rw (← c.self.view_is) at c.requires.needs_none) in
    λ p is. free_asking v c.args.epoch c.args.class c.args.check p c.self.invariant a is

pub invariant_of-self : goal.invariant_of-self
invariant_of-self c =
    let v : EngineView = record {
      conns = c.self.inside.conns;
      checks = c.self.inside.checks;
      asks = c.self.inside.asks;
      puts = c.self.inside.puts;
      epochs = c.self.inside.epochs;
      setup = c.self.inside.setup;
      offset = c.self.inside.offset;
      latest = c.self.inside.latest;
    } in
    before_engine v c.args.epoch c.args.class c.resolve.new.self c.self.invariant c.in-Err-Spent.ensures.err

pub returns-in-Err-Spent-clause-told : goal.returns-in-Err-Spent-clause-told
returns-in-Err-Spent-clause-told c =
    let v : EngineView = record {
      conns = c.self.inside.conns;
      checks = c.self.inside.checks;
      asks = c.self.inside.asks;
      puts = c.self.inside.puts;
      epochs = c.self.inside.epochs;
      setup = c.self.inside.setup;
      offset = c.self.inside.offset;
      latest = c.self.inside.latest;
    } in
    let k = class_there v c.args.epoch c.args.class c.self.invariant (rw (← c.self.view_is) at c.requires.part) in
    let ch = c.in-Err-Spent.ensures.err in
    let one : suc v.puts ≡ v.puts + 1 = omega arith in
    subst (λ z. step_next z.puts (says_here z c.args.moment c.args.epoch c.args.class c.args.key)
    ≡ refuses (refusal.Spent (c.self.inside.puts + 1))) c.self.view_is
    (told_spent v c.args.moment c.args.epoch c.args.class c.args.key k.0 ch.before k.1 ch.was
    (c.in-Err-Spent.ensures.spent (ap Err c.in-Err-Spent.field-0-is) ch.before k.0 ch.was k.1 c.args.epoch)
    ∙ ap (λ n. refuses (refusal.Spent n)) one)

pub returns-in-Err-Spent-clause-err : goal.returns-in-Err-Spent-clause-err
returns-in-Err-Spent-clause-err c =
    let v : EngineView = record {
      conns = c.self.inside.conns;
      checks = c.self.inside.checks;
      asks = c.self.inside.asks;
      puts = c.self.inside.puts;
      epochs = c.self.inside.epochs;
      setup = c.self.inside.setup;
      offset = c.self.inside.offset;
      latest = c.self.inside.latest;
    } in
    subst (λ z. IsSame (state_of (record v { epochs = c.resolve.new.self })) (state_of z)) c.self.view_is
    (same_before v c.args.epoch c.args.class c.resolve.new.self c.in-Err-Spent.ensures.err)

pub invariant_of-self-in-Err-WantOfMemory : goal.invariant_of-self-in-Err-WantOfMemory
invariant_of-self-in-Err-WantOfMemory c =
    let v : EngineView = record {
      conns = c.self.inside.conns;
      checks = c.self.inside.checks;
      asks = c.self.inside.asks;
      puts = c.self.inside.puts;
      epochs = c.self.inside.epochs;
      setup = c.self.inside.setup;
      offset = c.self.inside.offset;
      latest = c.self.inside.latest;
    } in
    before_engine v c.args.epoch c.args.class c.resolve.new.self c.self.invariant c.in-Err-WantOfMemory.ensures.err

pub returns-in-Err-WantOfMemory-clause-err : goal.returns-in-Err-WantOfMemory-clause-err
returns-in-Err-WantOfMemory-clause-err c =
    let v : EngineView = record {
      conns = c.self.inside.conns;
      checks = c.self.inside.checks;
      asks = c.self.inside.asks;
      puts = c.self.inside.puts;
      epochs = c.self.inside.epochs;
      setup = c.self.inside.setup;
      offset = c.self.inside.offset;
      latest = c.self.inside.latest;
    } in
    subst (λ z. IsSame (state_of (record v { epochs = c.resolve.new.self })) (state_of z)) c.self.view_is
    (same_before v c.args.epoch c.args.class c.resolve.new.self c.in-Err-WantOfMemory.ensures.err)

pub note-requires-clause-said : goal.note-requires-clause-said
note-requires-clause-said c =
    let v : EngineView = record {
      conns = c.self.inside.conns;
      checks = c.self.inside.checks;
      asks = c.self.inside.asks;
      puts = c.self.inside.puts;
      epochs = c.self.inside.epochs;
      setup = c.self.inside.setup;
      offset = c.self.inside.offset;
      latest = c.self.inside.latest;
    } in
    let k = class_there v c.args.epoch c.args.class c.self.invariant (rw (← c.self.view_is) at c.requires.part) in
    let ch = c.in-Ok.ensures.ok k.0 k.1 in
    said_noted c.args.epoch c.args.class c.args.check c.args.moment v.puts c.args.key k.0 c.in-Ok.said v.epochs
    c.resolve.new.self ch

pub invariant_of-self-2 : goal.invariant_of-self-2
invariant_of-self-2 c =
    let v : EngineView = record {
      conns = c.self.inside.conns;
      checks = c.self.inside.checks;
      asks = c.self.inside.asks;
      puts = c.self.inside.puts;
      epochs = c.self.inside.epochs;
      setup = c.self.inside.setup;
      offset = c.self.inside.offset;
      latest = c.self.inside.latest;
    } in
    let k = class_there v c.args.epoch c.args.class c.self.invariant (rw (← c.self.view_is) at c.requires.part) in
    let a = asking v c.args.epoch c.args.check (rw (← c.self.view_is) at c.requires.there)
    (rw (← c.self.view_is) at c.requires.of_epoch) (rw (← c.self.view_is) at c.requires.needs_none) in
    let ch = c.in-Ok.ensures.ok k.0 k.1 in
    resolved_engine v c.args.moment c.args.epoch c.args.class c.args.check c.args.key k.0 c.in-Ok.said
    c.resolve.new.self c.note.new.self c.puts_after-self-inside.result c.self.invariant a ch c.note.ensures.list
    c.note.ensures.rows c.puts_after-self-inside.ensures

pub returns-clause-told : goal.returns-clause-told
returns-clause-told c =
    let v : EngineView = record {
      conns = c.self.inside.conns;
      checks = c.self.inside.checks;
      asks = c.self.inside.asks;
      puts = c.self.inside.puts;
      epochs = c.self.inside.epochs;
      setup = c.self.inside.setup;
      offset = c.self.inside.offset;
      latest = c.self.inside.latest;
    } in
    let k = class_there v c.args.epoch c.args.class c.self.invariant (rw (← c.self.view_is) at c.requires.part) in
    let ch = c.in-Ok.ensures.ok k.0 k.1 in
    subst (λ z. step_next z.puts (says_here z c.args.moment c.args.epoch c.args.class c.args.key)
    ≡ gives (stepped_told (state_of z) c.args.epoch c.in-Ok.said.stepped)) c.self.view_is
    (told_resolved v c.args.moment c.args.epoch c.args.class c.args.check c.args.key k.0 c.in-Ok.said c.resolve.new.self
    k.1 ch)

pub returns-clause-ok : goal.returns-clause-ok
returns-clause-ok c =
    let v : EngineView = record {
      conns = c.self.inside.conns;
      checks = c.self.inside.checks;
      asks = c.self.inside.asks;
      puts = c.self.inside.puts;
      epochs = c.self.inside.epochs;
      setup = c.self.inside.setup;
      offset = c.self.inside.offset;
      latest = c.self.inside.latest;
    } in
    let k = class_there v c.args.epoch c.args.class c.self.invariant (rw (← c.self.view_is) at c.requires.part) in
    let ch = c.in-Ok.ensures.ok k.0 k.1 in
    subst (λ z. IsSame (state_of
    (record v {
      checks = c.note.new.self;
      puts = c.puts_after-self-inside.result;
      epochs = c.resolve.new.self;
      latest = c.args.moment;
    }))
    (after_step_of c.args.check c.args.epoch (says_here z c.args.moment c.args.epoch c.args.class c.args.key)
    c.args.moment (state_of z))) c.self.view_is
    (same_resolved v c.args.moment c.args.epoch c.args.class c.args.check c.args.key k.0 c.in-Ok.said c.resolve.new.self
    c.note.new.self c.puts_after-self-inside.result k.1 ch c.note.ensures.rows c.puts_after-self-inside.ensures)

pub returns-in-Err-Spent-clause-kept : goal.returns-in-Err-Spent-clause-kept
returns-in-Err-Spent-clause-kept c = subst (λ z. AreKept z.checks c.self.inside.checks) c.self.view_is
    (kept_same c.self.inside.checks)

pub returns-in-Err-WantOfMemory-clause-kept : goal.returns-in-Err-WantOfMemory-clause-kept
returns-in-Err-WantOfMemory-clause-kept c = subst (λ z. AreKept z.checks c.self.inside.checks) c.self.view_is
    (kept_same c.self.inside.checks)

pub returns-clause-kept : goal.returns-clause-kept
returns-clause-kept c =
    let v : EngineView = record {
      conns = c.self.inside.conns;
      checks = c.self.inside.checks;
      asks = c.self.inside.asks;
      puts = c.self.inside.puts;
      epochs = c.self.inside.epochs;
      setup = c.self.inside.setup;
      offset = c.self.inside.offset;
      latest = c.self.inside.latest;
    } in
    subst (λ z. AreKept z.checks c.note.new.self) c.self.view_is
    (kept_change c.args.check _ v.checks c.note.new.self c.note.ensures.list (λ k. refl))
