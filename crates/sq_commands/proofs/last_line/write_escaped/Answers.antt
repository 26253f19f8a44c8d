use Rattle.std.proofs.Common.{◌≡◌, ◌∙◌, ap, subst}
use Rattle.std.specs.Io.KnownBytes.{Appends}
use Rattle.percent_encoding.specs.Iter.{encoded_text}
use Rattle.sq_base.specs.Escapes.{escaped}
use Rattle.sq_outside.specs.Output.{Grew, IsPrefix}
use Rattle.sq_journal.proofs.EscapeLaws.{encodes}
use Rattle.sq_commands.proofs.HalfwayLaws.{halfway_more, halfway_done, halfway_part}
use Rattle.sq_commands.proofs.last_line.write_escaped.Goals as goal

pub loop-piece-preserved : goal.loop-piece-preserved
loop-piece-preserved g c =
    let contents = g.O.Sink.contents in
    record {
      going = halfway_more (contents c.args.out.now) (contents c.loop-piece.out) (contents c.write_all.new.out) _ _
          c.in-Some.piece.now _
          c.loop-piece.invariant.going c.in-Some.ensures.steps
          (subst (Appends (contents c.loop-piece.out) (contents c.write_all.new.out)) c.as_bytes.ensures.value
          c.in-Ok.ensures.ok);
      quiet = c.in-Ok.ensures.cause.quiet ∙ c.loop-piece.invariant.quiet;
    }

pub returns-in-Err-clause-err : goal.returns-in-Err-clause-err
returns-in-Err-clause-err g c =
    let contents = g.O.Sink.contents in
    let a = contents c.args.out.now in
    let b = contents c.loop-piece.out in
    let d = contents c.write_all.new.out in
    let start : encoded_text c.into_iter-piece-iterator.result ≡ escaped c.args.bytes.now =
    ap encoded_text c.into_iter-piece-iterator.ensures.into_iter_gives ∙ c.percent_encode-piece-items.ensures.text
    ∙ encodes c.args.bytes.now in
    subst (λ whole. Grew a d (λ part. IsPrefix part whole)) start
    (halfway_part a b d _ _ c.in-Some.piece.now _ c.loop-piece.invariant.going c.in-Some.ensures.steps
    (subst (λ p. Grew b d (λ part. IsPrefix part p)) c.as_bytes.ensures.value c.in-Err.ensures.err))

pub returns-clause-ok : goal.returns-clause-ok
returns-clause-ok g c =
    let contents = g.O.Sink.contents in
    let start : encoded_text c.into_iter-piece-iterator.result ≡ escaped c.args.bytes.now =
    ap encoded_text c.into_iter-piece-iterator.ensures.into_iter_gives ∙ c.percent_encode-piece-items.ensures.text
    ∙ encodes c.args.bytes.now in
    subst (Appends (contents c.args.out.now) (contents c.loop-piece.out)) start
    (halfway_done (contents c.args.out.now) (contents c.loop-piece.out) _ _ c.loop-piece.invariant.going
    c.in-None.ensures.steps)
