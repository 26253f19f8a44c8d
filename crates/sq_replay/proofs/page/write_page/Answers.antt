use Rattle.std.proofs.Common.{subst}
use Rattle.std.specs.Io.KnownBytes.{Appends}
use Rattle.sq_outside.specs.Output.{Grew, IsProperPrefix}
use Rattle.sq_replay.proofs.PageLaws.{page_written, page_failed}
use Rattle.sq_replay.proofs.page.write_page.Goals as goal

pub returns-clause-ok : goal.returns-clause-ok
returns-clause-ok g c =
    let a = g.O.Sink.contents c.args.out.now in
    let b = g.O.Sink.contents c.write_all.new.out in
    λ base text w. page_written base a b c.args.page.now.items _ text w
    (subst (Appends a b) c.as_slice.ensures.value c.in-Ok.ensures.ok) c.clear.ensures.items

pub returns-in-Err-clause-err : goal.returns-in-Err-clause-err
returns-in-Err-clause-err g c =
    let a = g.O.Sink.contents c.args.out.now in
    let b = g.O.Sink.contents c.write_all.new.out in
    λ base text w. page_failed base a b c.args.page.now.items text w
    (subst (λ p. Grew a b (λ part. IsProperPrefix part p)) c.as_slice.ensures.value c.in-Err.ensures.short)
