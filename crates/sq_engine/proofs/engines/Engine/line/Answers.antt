use Rattle.std.proofs.Common.{◌≡◌, ◌∙◌, None, Some, Ok, Err, is_some, true, max, ap, sym, subst}
use Rattle.sq_base.specs.declared.helpers.Cause.TheVariants as cause
use Rattle.sq_channel.specs.declared.replies.Got.TheVariants as got
use Rattle.sq_machine.specs.declared.entries.Told.TheVariants as told
use Rattle.sq_machine.specs.declared.refusals.Refusal.TheVariants as refusal
use Rattle.sq_machine.specs.Next.{gives}
use Rattle.sq_epochs.specs.EpochStates.{home_at, part_at}
use Rattle.sq_model.specs.Answers.{line_answer}
use Rattle.sq_model.specs.Changes.{after_end_at}
use Rattle.sq_model.specs.States.{IsSame}
use Rattle.sq_engine.specs.EngineViews.{EngineView, state_of}
use Rattle.sq_engine.specs.Lines.{IsRead, IsReplied}
use Rattle.sq_engine.proofs.LineLaws.{at_home, got_opened, home_alive, home_there, line_got, line_read, line_unknown}
use Rattle.sq_engine.proofs.PromiseLaws.{line_promised}
use Rattle.sq_engine.proofs.engines.Engine.line.Goals as goal

pub look-requires-clause-there : goal.look-requires-clause-there
look-requires-clause-there c =
    let v : EngineView = record {
      conns = c.self.inside.conns;
      checks = c.self.inside.checks;
      asks = c.self.inside.asks;
      puts = c.self.inside.puts;
      epochs = c.self.inside.epochs;
      setup = c.self.inside.setup;
      offset = c.self.inside.offset;
      latest = c.self.inside.latest;
    } in
    let e = c.home-2.inside.epoch in
    let d = c.home-2.inside.class in
    let home : home_at v.epochs c.args.proc ≡ Some (record { epoch = e; class = d }) =
    sym (ap (λ h. Some h.place) c.home-2.view_is ∙ c.in-Some.ensures.place) in
    home_there v e d c.args.proc c.facts.ensures.homed home

pub look-requires-clause-alive : goal.look-requires-clause-alive
look-requires-clause-alive c =
    let v : EngineView = record {
      conns = c.self.inside.conns;
      checks = c.self.inside.checks;
      asks = c.self.inside.asks;
      puts = c.self.inside.puts;
      epochs = c.self.inside.epochs;
      setup = c.self.inside.setup;
      offset = c.self.inside.offset;
      latest = c.self.inside.latest;
    } in
    let e = c.home-2.inside.epoch in
    let d = c.home-2.inside.class in
    let home : home_at v.epochs c.args.proc ≡ Some (record { epoch = e; class = d }) =
    sym (ap (λ h. Some h.place) c.home-2.view_is ∙ c.in-Some.ensures.place) in
    home_alive v e d c.args.proc c.facts.ensures.homed home

pub reply-requires-clause-there : goal.reply-requires-clause-there
reply-requires-clause-there c =
    let v : EngineView = record {
      conns = c.self.inside.conns;
      checks = c.self.inside.checks;
      asks = c.self.inside.asks;
      puts = c.self.inside.puts;
      epochs = c.self.inside.epochs;
      setup = c.self.inside.setup;
      offset = c.self.inside.offset;
      latest = c.self.inside.latest;
    } in
    let e = c.home-2.inside.epoch in
    let d = c.home-2.inside.class in
    let home : home_at v.epochs c.args.proc ≡ Some (record { epoch = e; class = d }) =
    sym (ap (λ h. Some h.place) c.home-2.view_is ∙ c.in-Some.ensures.place) in
    ap (λ z. is_some (part_at z.epochs e d)) (sym c.self.view_is)
    ∙ home_there v e d c.args.proc c.facts.ensures.homed home

pub reply-requires-clause-opened : goal.reply-requires-clause-opened
reply-requires-clause-opened c = λ p at.
    let e = c.home-2.inside.epoch in
    let d = c.home-2.inside.class in
    got_opened c.args.proc p c.args.bytes.now c.in-Reply.question c.in-Reply.reply
    (c.in-Ok.ensures p (ap (λ z. part_at z.epochs e d) c.self.view_is ∙ at) ∙ ap Some c.in-Reply.is)

pub returns-in-Bad-clause-told : goal.returns-in-Bad-clause-told
returns-in-Bad-clause-told c =
    let v : EngineView = record {
      conns = c.self.inside.conns;
      checks = c.self.inside.checks;
      asks = c.self.inside.asks;
      puts = c.self.inside.puts;
      epochs = c.self.inside.epochs;
      setup = c.self.inside.setup;
      offset = c.self.inside.offset;
      latest = c.self.inside.latest;
    } in
    let e = c.home-2.inside.epoch in
    let d = c.home-2.inside.class in
    let home : home_at v.epochs c.args.proc ≡ Some (record { epoch = e; class = d }) =
    sym (ap (λ h. Some h.place) c.home-2.view_is ∙ c.in-Some.ensures.place) in
    let x = at_home v e d c.args.proc c.facts.ensures.homed home in
    subst (λ z. line_answer (state_of z) c.args.proc c.args.bytes.now ≡ gives told.Bad) c.self.view_is
    (line_got v e d c.args.proc c.args.bytes.now got.Bad x.part home x.is
    (c.in-Ok.ensures x.part x.is ∙ ap Some c.in-Bad.is))

pub returns-in-Bad-clause-ok : goal.returns-in-Bad-clause-ok
returns-in-Bad-clause-ok c =
    let v : EngineView = record {
      conns = c.self.inside.conns;
      checks = c.self.inside.checks;
      asks = c.self.inside.asks;
      puts = c.self.inside.puts;
      epochs = c.self.inside.epochs;
      setup = c.self.inside.setup;
      offset = c.self.inside.offset;
      latest = c.self.inside.latest;
    } in
    let e = c.home-2.inside.epoch in
    let d = c.home-2.inside.class in
    let home : home_at v.epochs c.args.proc ≡ Some (record { epoch = e; class = d }) =
    sym (ap (λ h. Some h.place) c.home-2.view_is ∙ c.in-Some.ensures.place) in
    record {
      place = record { epoch = e; class = d };
      home_is = ap (λ z. home_at z.epochs c.args.proc) (sym c.self.view_is) ∙ home;
      same = subst (λ m. IsSame (state_of c.end.new.self)
          (after_end_at (record { epoch = e; class = d }) c.args.proc cause.BadReply true m (state_of c.args.self.now)))
          (c.later-moment.ensures ∙ ap (λ z. max c.args.now z.latest) c.self.view_is) c.end.ensures.same;
    }

pub returns-in-Stray-clause-told : goal.returns-in-Stray-clause-told
returns-in-Stray-clause-told c =
    let v : EngineView = record {
      conns = c.self.inside.conns;
      checks = c.self.inside.checks;
      asks = c.self.inside.asks;
      puts = c.self.inside.puts;
      epochs = c.self.inside.epochs;
      setup = c.self.inside.setup;
      offset = c.self.inside.offset;
      latest = c.self.inside.latest;
    } in
    let e = c.home-2.inside.epoch in
    let d = c.home-2.inside.class in
    let home : home_at v.epochs c.args.proc ≡ Some (record { epoch = e; class = d }) =
    sym (ap (λ h. Some h.place) c.home-2.view_is ∙ c.in-Some.ensures.place) in
    let x = at_home v e d c.args.proc c.facts.ensures.homed home in
    subst (λ z. line_answer (state_of z) c.args.proc c.args.bytes.now ≡ gives told.Stray) c.self.view_is
    (line_got v e d c.args.proc c.args.bytes.now got.Stray x.part home x.is
    (c.in-Ok.ensures x.part x.is ∙ ap Some c.in-Stray.is))

pub returns-in-Stray-clause-ok : goal.returns-in-Stray-clause-ok
returns-in-Stray-clause-ok c =
    let v : EngineView = record {
      conns = c.self.inside.conns;
      checks = c.self.inside.checks;
      asks = c.self.inside.asks;
      puts = c.self.inside.puts;
      epochs = c.self.inside.epochs;
      setup = c.self.inside.setup;
      offset = c.self.inside.offset;
      latest = c.self.inside.latest;
    } in
    let e = c.home-2.inside.epoch in
    let d = c.home-2.inside.class in
    let home : home_at v.epochs c.args.proc ≡ Some (record { epoch = e; class = d }) =
    sym (ap (λ h. Some h.place) c.home-2.view_is ∙ c.in-Some.ensures.place) in
    record {
      place = record { epoch = e; class = d };
      home_is = ap (λ z. home_at z.epochs c.args.proc) (sym c.self.view_is) ∙ home;
      same = subst (λ m. IsSame (state_of c.end-in-Stray.new.self)
          (after_end_at (record { epoch = e; class = d }) c.args.proc cause.Stray true m (state_of c.args.self.now)))
          (c.later-moment.ensures ∙ ap (λ z. max c.args.now z.latest) c.self.view_is) c.end-in-Stray.ensures.same;
    }

pub returns-in-Ok-reply-clause-told : goal.returns-in-Ok-reply-clause-told
returns-in-Ok-reply-clause-told c =
    let v : EngineView = record {
      conns = c.self.inside.conns;
      checks = c.self.inside.checks;
      asks = c.self.inside.asks;
      puts = c.self.inside.puts;
      epochs = c.self.inside.epochs;
      setup = c.self.inside.setup;
      offset = c.self.inside.offset;
      latest = c.self.inside.latest;
    } in
    let e = c.home-2.inside.epoch in
    let d = c.home-2.inside.class in
    let home : home_at v.epochs c.args.proc ≡ Some (record { epoch = e; class = d }) =
    sym (ap (λ h. Some h.place) c.home-2.view_is ∙ c.in-Some.ensures.place) in
    let x = at_home v e d c.args.proc c.facts.ensures.homed home in
    subst (λ z. line_answer (state_of z) c.args.proc c.args.bytes.now
    ≡ gives (told.Reply c.in-Reply.question c.in-Reply.reply.word)) c.self.view_is
    (line_got v e d c.args.proc c.args.bytes.now (got.Reply c.in-Reply.question c.in-Reply.reply) x.part home x.is
    (c.in-Ok.ensures x.part x.is ∙ ap Some c.in-Reply.is))

pub returns-in_default-clause-promised : goal.returns-in_default-clause-promised
returns-in_default-clause-promised c =
    let s = state_of c.args.self.now in
    let none : s.home c.args.proc ≡ None =
    sym (c.in_default.ensures.place ∙ ap (λ z. home_at z.epochs c.args.proc) c.self.view_is) in
    line_promised s s (max c.args.now c.args.self.now.latest) c.args.proc c.args.bytes.now
    (Err (refusal.UnknownProc c.args.proc)) (line_unknown s c.args.proc c.args.bytes.now none) tt tt

pub returns-in-Bad-clause-read : goal.returns-in-Bad-clause-read
returns-in-Bad-clause-read c =
    let v : EngineView = record {
      conns = c.self.inside.conns;
      checks = c.self.inside.checks;
      asks = c.self.inside.asks;
      puts = c.self.inside.puts;
      epochs = c.self.inside.epochs;
      setup = c.self.inside.setup;
      offset = c.self.inside.offset;
      latest = c.self.inside.latest;
    } in
    let e = c.home-2.inside.epoch in
    let d = c.home-2.inside.class in
    let home : home_at v.epochs c.args.proc ≡ Some (record { epoch = e; class = d }) =
    sym (ap (λ h. Some h.place) c.home-2.view_is ∙ c.in-Some.ensures.place) in
    let x = at_home v e d c.args.proc c.facts.ensures.homed home in
    subst (λ z. IsRead (state_of z) c.args.proc c.args.bytes.now got.Bad) c.self.view_is
    (line_read v e d c.args.proc c.args.bytes.now got.Bad x.part home x.is
    (c.in-Ok.ensures x.part x.is ∙ ap Some c.in-Bad.is))

pub returns-in-Bad-clause-promised : goal.returns-in-Bad-clause-promised
returns-in-Bad-clause-promised c =
    line_promised (state_of c.args.self.now) (state_of c.end.new.self) (max c.args.now c.args.self.now.latest)
    c.args.proc c.args.bytes.now (Ok got.Bad) (returns-in-Bad-clause-told c) (returns-in-Bad-clause-read c)
    (returns-in-Bad-clause-ok c)

pub returns-in-Stray-clause-read : goal.returns-in-Stray-clause-read
returns-in-Stray-clause-read c =
    let v : EngineView = record {
      conns = c.self.inside.conns;
      checks = c.self.inside.checks;
      asks = c.self.inside.asks;
      puts = c.self.inside.puts;
      epochs = c.self.inside.epochs;
      setup = c.self.inside.setup;
      offset = c.self.inside.offset;
      latest = c.self.inside.latest;
    } in
    let e = c.home-2.inside.epoch in
    let d = c.home-2.inside.class in
    let home : home_at v.epochs c.args.proc ≡ Some (record { epoch = e; class = d }) =
    sym (ap (λ h. Some h.place) c.home-2.view_is ∙ c.in-Some.ensures.place) in
    let x = at_home v e d c.args.proc c.facts.ensures.homed home in
    subst (λ z. IsRead (state_of z) c.args.proc c.args.bytes.now got.Stray) c.self.view_is
    (line_read v e d c.args.proc c.args.bytes.now got.Stray x.part home x.is
    (c.in-Ok.ensures x.part x.is ∙ ap Some c.in-Stray.is))

pub returns-in-Stray-clause-promised : goal.returns-in-Stray-clause-promised
returns-in-Stray-clause-promised c =
    line_promised (state_of c.args.self.now) (state_of c.end-in-Stray.new.self) (max c.args.now c.args.self.now.latest)
    c.args.proc c.args.bytes.now (Ok got.Stray) (returns-in-Stray-clause-told c) (returns-in-Stray-clause-read c)
    (returns-in-Stray-clause-ok c)

pub returns-in-Ok-reply-clause-read : goal.returns-in-Ok-reply-clause-read
returns-in-Ok-reply-clause-read c =
    let v : EngineView = record {
      conns = c.self.inside.conns;
      checks = c.self.inside.checks;
      asks = c.self.inside.asks;
      puts = c.self.inside.puts;
      epochs = c.self.inside.epochs;
      setup = c.self.inside.setup;
      offset = c.self.inside.offset;
      latest = c.self.inside.latest;
    } in
    let e = c.home-2.inside.epoch in
    let d = c.home-2.inside.class in
    let home : home_at v.epochs c.args.proc ≡ Some (record { epoch = e; class = d }) =
    sym (ap (λ h. Some h.place) c.home-2.view_is ∙ c.in-Some.ensures.place) in
    let x = at_home v e d c.args.proc c.facts.ensures.homed home in
    subst (λ z. IsRead (state_of z) c.args.proc c.args.bytes.now (got.Reply c.in-Reply.question c.in-Reply.reply))
    c.self.view_is
    (line_read v e d c.args.proc c.args.bytes.now (got.Reply c.in-Reply.question c.in-Reply.reply) x.part home x.is
    (c.in-Ok.ensures x.part x.is ∙ ap Some c.in-Reply.is))

pub returns-in-Ok-reply-clause-ok : goal.returns-in-Ok-reply-clause-ok
returns-in-Ok-reply-clause-ok c =
    subst (λ m. IsReplied (state_of c.args.self.now) c.args.proc c.in-Reply.question c.in-Reply.reply m
    (state_of c.reply.new.self)) (c.later-moment.ensures ∙ ap (λ z. max c.args.now z.latest) c.self.view_is)
    c.in-Ok-reply.ensures.ok

pub returns-in-Ok-reply-clause-promised : goal.returns-in-Ok-reply-clause-promised
returns-in-Ok-reply-clause-promised c =
    line_promised (state_of c.args.self.now) (state_of c.reply.new.self) (max c.args.now c.args.self.now.latest)
    c.args.proc c.args.bytes.now (Ok (got.Reply c.in-Reply.question c.in-Reply.reply))
    (returns-in-Ok-reply-clause-told c) (returns-in-Ok-reply-clause-read c) (returns-in-Ok-reply-clause-ok c)
