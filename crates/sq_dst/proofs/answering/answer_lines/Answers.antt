use Rattle.std.proofs.Common.{[], arith, take, subst, refl, ◌∙◌, true, false}
use Rattle.std.specs.Io.KnownBytes.{Consumes}
use Rattle.sq_dst.proofs.AnswerLaws.{lines_told}
use Rattle.sq_dst.proofs.ReadLaws.{all_read, failed_read, more_read, none_read, not_read, told_read}
use Rattle.sq_dst.specs.AnsweredLines.{WalksAnswers, answer_step}
use Rattle.sq_keeper.specs.declared.keeper.KeeperEnd.TheVariants.{Ended, ReadFault, Told, WantOfMemory}
use Rattle.sq_dst.proofs.answering.answer_lines.Goals as goal

pub loop-init : goal.loop-init
loop-init g c =
    record {
      read = none_read c.args.config.now (g.Q.Resolver.names c.args.resolver.now)
          (g.Q.Resolver.faults c.args.resolver.now) c.args.proc (g.S.Source.left c.args.from.now)
          (g.K.LineDesk.handed c.args.desk.now) c.in-Ok.line c.in-Ok.ensures;
      names = refl;
      looks = omega arith;
      faults = refl;
      refused = omega arith;
      passes = g.met.K.LineDesk.still c.args.desk.now;
    }

pub returns-in-Err-clause-lines : goal.returns-in-Err-clause-lines
returns-in-Err-clause-lines g c =
    failed_read c.args.config.now (g.Q.Resolver.names c.args.resolver.now) (g.Q.Resolver.faults c.args.resolver.now)
    (g.Q.Resolver.faults c.loop.resolver) c.args.proc _ (g.S.Source.left c.loop.from)
    (g.S.Source.left c.read.new.self) _ (g.K.LineDesk.handed c.loop.desk)
    (g.K.LineDesk.handed c.died.new.self) c.loop.line
    c.loop.invariant.read c.in-Err.ensures.bytes c.died.ensures.handed

pub returns-in-Err-clause-found : goal.returns-in-Err-clause-found
returns-in-Err-clause-found g c =
    lines_told c.args.config.now (g.Q.Resolver.names c.args.resolver.now) (g.Q.Resolver.faults c.args.resolver.now)
    (g.Q.Resolver.faults c.loop.resolver) c.args.proc (g.S.Source.left c.args.from.now)
    (g.S.Source.left c.read.new.self) (g.K.LineDesk.handed c.args.desk.now)
    (g.K.LineDesk.handed c.died.new.self) ReadFault
    (failed_read c.args.config.now (g.Q.Resolver.names c.args.resolver.now) (g.Q.Resolver.faults c.args.resolver.now)
    (g.Q.Resolver.faults c.loop.resolver) c.args.proc _ (g.S.Source.left c.loop.from)
    (g.S.Source.left c.read.new.self) _ (g.K.LineDesk.handed c.loop.desk)
    (g.K.LineDesk.handed c.died.new.self) c.loop.line
    c.loop.invariant.read c.in-Err.ensures.bytes c.died.ensures.handed)

pub returns-in-Ok-eq0-clause-lines : goal.returns-in-Ok-eq0-clause-lines
returns-in-Ok-eq0-clause-lines g c =
    let before = g.S.Source.left c.loop.from in
    let now = g.S.Source.left c.read.new.self in
    let none : Consumes before now [] =
    subst (λ n. Consumes before now (take n c.read.new.into)) c.in-Ok-eq0.field-0-test c.in-Ok-eq0.ensures.bytes.0 in
    all_read c.args.config.now (g.Q.Resolver.names c.args.resolver.now) (g.Q.Resolver.faults c.args.resolver.now)
    (g.Q.Resolver.faults c.loop.resolver) c.args.proc _ before now _ (g.K.LineDesk.handed c.loop.desk)
    (g.K.LineDesk.handed c.died-in-Ok-eq0.new.self) c.loop.line
    c.loop.invariant.read none c.died-in-Ok-eq0.ensures.handed

pub returns-in-Ok-eq0-clause-found : goal.returns-in-Ok-eq0-clause-found
returns-in-Ok-eq0-clause-found g c =
    let before = g.S.Source.left c.loop.from in
    let now = g.S.Source.left c.read.new.self in
    let none : Consumes before now [] =
    subst (λ n. Consumes before now (take n c.read.new.into)) c.in-Ok-eq0.field-0-test c.in-Ok-eq0.ensures.bytes.0 in
    lines_told c.args.config.now (g.Q.Resolver.names c.args.resolver.now) (g.Q.Resolver.faults c.args.resolver.now)
    (g.Q.Resolver.faults c.loop.resolver) c.args.proc (g.S.Source.left c.args.from.now) now
    (g.K.LineDesk.handed c.args.desk.now) (g.K.LineDesk.handed c.died-in-Ok-eq0.new.self) Ended
    (all_read c.args.config.now (g.Q.Resolver.names c.args.resolver.now) (g.Q.Resolver.faults c.args.resolver.now)
    (g.Q.Resolver.faults c.loop.resolver) c.args.proc _ before now _ (g.K.LineDesk.handed c.loop.desk)
    (g.K.LineDesk.handed c.died-in-Ok-eq0.new.self) c.loop.line
    c.loop.invariant.read none c.died-in-Ok-eq0.ensures.handed)

pub returns-then-not-take_bytes-clause-lines : goal.returns-then-not-take_bytes-clause-lines
returns-then-not-take_bytes-clause-lines g c =
    let config = c.args.config.now in
    let y = g.Q.Resolver.faults c.loop.resolver in
    let z = g.Q.Resolver.faults c.take_bytes.new.resolver in
    let now = g.K.LineDesk.handed c.loop.desk in
    let new = g.K.LineDesk.handed c.take_bytes.new.desk in
    let walks = subst (λ n. WalksAnswers config (answer_step n y z now new) c.args.proc c.loop.line
    c.take_bytes.new.line (take c.in-Ok-read.count c.read.new.into) false)
    c.loop.invariant.names c.if-not-take_bytes.ensures.walks in
    told_read config (g.Q.Resolver.names c.args.resolver.now) (g.Q.Resolver.faults c.args.resolver.now) y z
    c.args.proc _ (g.S.Source.left c.loop.from) (g.S.Source.left c.read.new.self) _ now new
    c.loop.line c.take_bytes.new.line _ c.loop.invariant.read c.in-Ok-read.ensures.bytes.0 walks

pub returns-then-not-take_bytes-clause-found : goal.returns-then-not-take_bytes-clause-found
returns-then-not-take_bytes-clause-found g c =
    let config = c.args.config.now in
    let names = g.Q.Resolver.names c.args.resolver.now in
    let x = g.Q.Resolver.faults c.args.resolver.now in
    let y = g.Q.Resolver.faults c.loop.resolver in
    let z = g.Q.Resolver.faults c.take_bytes.new.resolver in
    let now = g.K.LineDesk.handed c.loop.desk in
    let new = g.K.LineDesk.handed c.take_bytes.new.desk in
    let walks = subst (λ n. WalksAnswers config (answer_step n y z now new) c.args.proc c.loop.line
    c.take_bytes.new.line (take c.in-Ok-read.count c.read.new.into) false)
    c.loop.invariant.names c.if-not-take_bytes.ensures.walks in
    lines_told config names x z c.args.proc (g.S.Source.left c.args.from.now) (g.S.Source.left c.read.new.self)
    (g.K.LineDesk.handed c.args.desk.now) new Told
    (told_read config names x y z
    c.args.proc _ (g.S.Source.left c.loop.from) (g.S.Source.left c.read.new.self) _ now new
    c.loop.line c.take_bytes.new.line _ c.loop.invariant.read c.in-Ok-read.ensures.bytes.0 walks)

pub loop-preserved : goal.loop-preserved
loop-preserved g c =
    let config = c.args.config.now in
    let y = g.Q.Resolver.faults c.loop.resolver in
    let z = g.Q.Resolver.faults c.take_bytes.new.resolver in
    let now = g.K.LineDesk.handed c.loop.desk in
    let new = g.K.LineDesk.handed c.take_bytes.new.desk in
    let walks = subst (λ n. WalksAnswers config (answer_step n y z now new) c.args.proc c.loop.line
    c.take_bytes.new.line (take c.in-Ok-read.count c.read.new.into) true)
    c.loop.invariant.names c.if-not-take_bytes.ensures.walks in
    record {
      read = more_read config (g.Q.Resolver.names c.args.resolver.now) (g.Q.Resolver.faults c.args.resolver.now) y z
          c.args.proc _ (g.S.Source.left c.loop.from) (g.S.Source.left c.read.new.self) _ now new
          c.loop.line c.take_bytes.new.line _ c.loop.invariant.read c.in-Ok-read.ensures.bytes.0 walks;
      names = c.take_bytes.ensures.names ∙ c.loop.invariant.names;
      looks = omega arith;
      faults = c.in-Ok-read.ensures.cause.quiet ∙ c.loop.invariant.faults;
      refused = omega arith;
      passes = g.met.K.LineDesk.further _ c.loop.desk _ c.loop.invariant.passes c.if-not-take_bytes.ensures.passes;
    }

pub returns-in_default-clause-lines : goal.returns-in_default-clause-lines
returns-in_default-clause-lines g c =
    not_read c.args.config.now (g.Q.Resolver.names c.args.resolver.now) (g.Q.Resolver.faults c.args.resolver.now)
    c.args.proc (g.S.Source.left c.args.from.now) (g.K.LineDesk.handed c.args.desk.now)

pub returns-in_default-clause-found : goal.returns-in_default-clause-found
returns-in_default-clause-found g c =
    let names = g.Q.Resolver.names c.args.resolver.now in
    let faults = g.Q.Resolver.faults c.args.resolver.now in
    let left = g.S.Source.left c.args.from.now in
    let told = g.K.LineDesk.handed c.args.desk.now in
    lines_told c.args.config.now names faults faults c.args.proc left left told told WantOfMemory
    (not_read c.args.config.now names faults c.args.proc left told)
