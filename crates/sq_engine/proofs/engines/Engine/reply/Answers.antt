use Rattle.std.proofs.Common.{◌≡◌, ◌∙◌, Some, is_some, true, false, ap, sym, subst}
use Rattle.sq_lookup.specs.Index.{IsListed}
use Rattle.sq_machine.specs.Channels.{is_open}
use Rattle.sq_machine.specs.Living.{slots_in}
use Rattle.sq_machine.specs.OpenLookups.{key_of}
use Rattle.sq_class.specs.Parts.{PartState}
use Rattle.sq_epochs.specs.EpochStates.{part_at}
use Rattle.sq_model.specs.States.{IsSame}
use Rattle.sq_engine.specs.EngineViews.{EngineView, state_of}
use Rattle.sq_engine.specs.Lines.{IsReplied}
use Rattle.sq_engine.proofs.AskingLaws.{class_there}
use Rattle.sq_engine.proofs.RepliedLaws.{on_err, part_there, reply_done, reply_list}
use Rattle.sq_engine.proofs.ReplyLaws.{reply_engine}
use Rattle.sq_engine.proofs.ResolvedLaws.{before_engine, same_before}
use Rattle.sq_engine.specs.Begun.{AreKept}
use Rattle.sq_engine.proofs.BegunLaws.{kept_given, kept_same}
use Rattle.sq_engine.proofs.engines.Engine.reply.Goals as goal

pub unreachable-requires : goal.unreachable-requires
unreachable-requires c =
    let v : EngineView = record {
      conns = c.self.inside.conns;
      checks = c.self.inside.checks;
      asks = c.self.inside.asks;
      puts = c.self.inside.puts;
      epochs = c.self.inside.epochs;
      setup = c.self.inside.setup;
      offset = c.self.inside.offset;
      latest = c.self.inside.latest;
    } in
    let x = part_there v c.args.epoch c.args.class (rw (← c.self.view_is) at c.requires.there) in
    let opened : (p : PartState) → part_at v.epochs c.args.epoch c.args.class ≡ Some p
    → is_open c.args.question (slots_in c.args.proc p.row.stock.procs) ≡ true = rw (← c.self.view_is)
    at c.requires.opened in
    let e : false ≡ true = c.in_default.ensures.sent x.part x.is c.args.proc (opened x.part x.is) in
    cc

pub invariant_of-self : goal.invariant_of-self
invariant_of-self c =
    let v : EngineView = record {
      conns = c.self.inside.conns;
      checks = c.self.inside.checks;
      asks = c.self.inside.asks;
      puts = c.self.inside.puts;
      epochs = c.self.inside.epochs;
      setup = c.self.inside.setup;
      offset = c.self.inside.offset;
      latest = c.self.inside.latest;
    } in
    before_engine v c.args.epoch c.args.class c.reply.new.self c.self.invariant c.in_err-_waited.ensures.err

pub returns-in_err-_waited-clause-err : goal.returns-in_err-_waited-clause-err
returns-in_err-_waited-clause-err c =
    let v : EngineView = record {
      conns = c.self.inside.conns;
      checks = c.self.inside.checks;
      asks = c.self.inside.asks;
      puts = c.self.inside.puts;
      epochs = c.self.inside.epochs;
      setup = c.self.inside.setup;
      offset = c.self.inside.offset;
      latest = c.self.inside.latest;
    } in
    on_err c.from_residual-in_err-_waited.result _
    (subst (λ z. IsSame (state_of (record v { epochs = c.reply.new.self })) (state_of z)) c.self.view_is
    (same_before v c.args.epoch c.args.class c.reply.new.self c.in_err-_waited.ensures.err))

pub invariant_of-self-2 : goal.invariant_of-self-2
invariant_of-self-2 c =
    let v : EngineView = record {
      conns = c.self.inside.conns;
      checks = c.self.inside.checks;
      asks = c.self.inside.asks;
      puts = c.self.inside.puts;
      epochs = c.self.inside.epochs;
      setup = c.self.inside.setup;
      offset = c.self.inside.offset;
      latest = c.self.inside.latest;
    } in
    let listed : (p : PartState) → part_at v.epochs c.args.epoch c.args.class ≡ Some p
    → IsListed (record { rows = p.row.lookups; waiting = p.waiting }) c.args.question c.in-Some.key.now
    c.in-Some.waiting.now = c.in-Some.ensures.listed in
    let there : is_some (part_at v.epochs c.args.epoch c.args.class) ≡ true = rw (← c.self.view_is)
    at c.requires.there in
    let x = part_there v c.args.epoch c.args.class there in
    let k = class_there v c.args.epoch c.args.class c.self.invariant there in
    let ch = c.in_ok-_waited.ensures.ok k.0 k.1 in
    let found : (p : PartState) → part_at v.epochs c.args.epoch c.args.class ≡ Some p
    → key_of c.args.question p.row.lookups ≡ Some c.in_ok-key.key = λ p at. (listed p at).key_is
    ∙ ap Some (sym c.in_ok-key.ensures) in
    let list = reply_list v c.args.epoch c.args.class c.args.question c.args.moment c.in-Some.key.now c.in_ok-what.what
    c.in-Some.waiting.now x.part c.in_ok-shares.shares.items c.give.new.checks c.self.invariant x.is
    (listed x.part x.is) c.len-checks.ensures.rise c.in_ok-shares.ensures c.give.ensures in
    reply_engine v c.reply.new.self c.give.new.checks c.args.epoch c.args.class c.args.proc c.args.question
    c.args.moment c.in_ok-key.key c.in_ok-what.what k.0 c.in_ok-_waited._waited c.self.invariant found ch list
    c.len-checks.ensures.rise

pub returns-clause-ok : goal.returns-clause-ok
returns-clause-ok c =
    let v : EngineView = record {
      conns = c.self.inside.conns;
      checks = c.self.inside.checks;
      asks = c.self.inside.asks;
      puts = c.self.inside.puts;
      epochs = c.self.inside.epochs;
      setup = c.self.inside.setup;
      offset = c.self.inside.offset;
      latest = c.self.inside.latest;
    } in
    let listed : (p : PartState) → part_at v.epochs c.args.epoch c.args.class ≡ Some p
    → IsListed (record { rows = p.row.lookups; waiting = p.waiting }) c.args.question c.in-Some.key.now
    c.in-Some.waiting.now = c.in-Some.ensures.listed in
    let there : is_some (part_at v.epochs c.args.epoch c.args.class) ≡ true = rw (← c.self.view_is)
    at c.requires.there in
    let x = part_there v c.args.epoch c.args.class there in
    let k = class_there v c.args.epoch c.args.class c.self.invariant there in
    let ch = c.in_ok-_waited.ensures.ok k.0 k.1 in
    let found : (p : PartState) → part_at v.epochs c.args.epoch c.args.class ≡ Some p
    → key_of c.args.question p.row.lookups ≡ Some c.in_ok-key.key = λ p at. (listed p at).key_is
    ∙ ap Some (sym c.in_ok-key.ensures) in
    let list = reply_list v c.args.epoch c.args.class c.args.question c.args.moment c.in-Some.key.now c.in_ok-what.what
    c.in-Some.waiting.now x.part c.in_ok-shares.shares.items c.give.new.checks c.self.invariant x.is
    (listed x.part x.is) c.len-checks.ensures.rise c.in_ok-shares.ensures c.give.ensures in
    subst (λ z. IsReplied (state_of z) c.args.proc c.args.question c.args.reply.now c.args.moment
    (state_of (record v { checks = c.give.new.checks; epochs = c.reply.new.self; latest = c.args.moment })))
    c.self.view_is
    (reply_done v c.reply.new.self c.give.new.checks c.args.epoch c.args.class c.args.proc c.args.question c.args.moment
    c.in_ok-key.key c.in_ok-what.what c.args.reply.now k.0 c.in_ok-_waited._waited x.part c.self.invariant
    (rw (← c.self.view_is) at c.requires.home) k.1 x.is found ch c.in_ok-what.ensures list c.len-checks.ensures.rise)

pub returns-clause-kept : goal.returns-clause-kept
returns-clause-kept c =
    let v : EngineView = record {
      conns = c.self.inside.conns;
      checks = c.self.inside.checks;
      asks = c.self.inside.asks;
      puts = c.self.inside.puts;
      epochs = c.self.inside.epochs;
      setup = c.self.inside.setup;
      offset = c.self.inside.offset;
      latest = c.self.inside.latest;
    } in
    subst (λ z. AreKept z.checks c.give.new.checks) c.self.view_is
    (subst (AreKept v.checks) (sym c.give.ensures)
    (kept_given c.args.question c.args.moment c.in_ok-shares.shares.items v.checks))

pub returns-in_err-_waited-clause-kept : goal.returns-in_err-_waited-clause-kept
returns-in_err-_waited-clause-kept c = subst (λ z. AreKept z.checks c.self.inside.checks) c.self.view_is
    (kept_same c.self.inside.checks)
