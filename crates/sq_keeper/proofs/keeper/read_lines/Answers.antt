use Rattle.std.proofs.Common.{[], arith, take, subst, refl, ◌∙◌}
use Rattle.std.specs.Io.KnownBytes.{Consumes}
use Rattle.sq_keeper.proofs.KeeperLaws.{begins, goes_on, is_told, is_ended, is_failed}
use Rattle.sq_keeper.proofs.keeper.read_lines.Goals as goal

pub loop-init : goal.loop-init
loop-init g c =
    record {
      read = begins c.args.proc (g.S.Source.left c.args.from.now) (g.K.LineDesk.handed c.args.desk.now) c.in-Ok.line
          c.in-Ok.ensures;
      faults = refl;
      refused = omega arith;
      passes = g.met.K.LineDesk.still c.args.desk.now;
    }

pub returns-in-Err-clause-lines : goal.returns-in-Err-clause-lines
returns-in-Err-clause-lines g c =
    is_failed c.args.proc _ _ (g.S.Source.left c.read.new.self) _ _ (g.K.LineDesk.handed c.died.new.self) c.loop.line
    c.loop.invariant.read c.in-Err.ensures.bytes c.died.ensures.handed

pub returns-in-Ok-eq0-clause-lines : goal.returns-in-Ok-eq0-clause-lines
returns-in-Ok-eq0-clause-lines g c =
    let before = g.S.Source.left c.loop.from in
    let now = g.S.Source.left c.read.new.self in
    let none : Consumes before now [] =
    subst (λ n. Consumes before now (take n c.read.new.into)) c.in-Ok-eq0.field-0-test c.in-Ok-eq0.ensures.bytes.0 in
    is_ended c.args.proc _ before now _ _ (g.K.LineDesk.handed c.died-in-Ok-eq0.new.self) c.loop.line
    c.loop.invariant.read none c.died-in-Ok-eq0.ensures.handed

pub returns-then-not-take_bytes-clause-lines : goal.returns-then-not-take_bytes-clause-lines
returns-then-not-take_bytes-clause-lines g c =
    is_told c.args.proc _ (g.S.Source.left c.loop.from) (g.S.Source.left c.read.new.self) _
    (g.K.LineDesk.handed c.loop.desk) (g.K.LineDesk.handed c.take_bytes.new.desk)
    c.loop.line c.take_bytes.new.line _
    c.loop.invariant.read c.in-Ok-read.ensures.bytes.0 c.if-not-take_bytes.ensures.walks

pub loop-preserved : goal.loop-preserved
loop-preserved g c =
    record {
      read = goes_on c.args.proc _ (g.S.Source.left c.loop.from) (g.S.Source.left c.read.new.self) _
          (g.K.LineDesk.handed c.loop.desk) (g.K.LineDesk.handed c.take_bytes.new.desk)
          c.loop.line c.take_bytes.new.line _
          c.loop.invariant.read c.in-Ok-read.ensures.bytes.0 c.if-not-take_bytes.ensures.walks;
      faults = c.in-Ok-read.ensures.cause.quiet ∙ c.loop.invariant.faults;
      refused = omega arith;
      passes = g.met.K.LineDesk.further _ c.loop.desk _ c.loop.invariant.passes c.if-not-take_bytes.ensures.passes;
    }
