use Rattle.std.proofs.Common.{◌≡◌, ◌∙◌, ap}
use Rattle.percent_encoding.specs.Iter.{encoded_text}
use Rattle.sq_base.specs.Escapes.{escaped}
use Rattle.sq_journal.proofs.EscapeLaws.{encodes}
use Rattle.sq_journal.proofs.PutSameLaws.{puts_as}
use Rattle.sq_journal.proofs.PutLaws.{halfway_more, halfway_stop, halfway_done}
use Rattle.sq_journal.proofs.escapes.put_escaped.Goals as goal

pub loop-piece-preserved : goal.loop-piece-preserved
loop-piece-preserved g c =
    halfway_more _ _ _ _ _ _ _ _ _ c.in-Some.piece.now _ c.loop-piece.invariant c.in-Some.ensures.steps
    (puts_as _ _ _ _ _ _ _ c.as_bytes.ensures.value c.in-Ok.ensures)

pub returns-in-Err : goal.returns-in-Err
returns-in-Err g c =
    let start : encoded_text c.into_iter-piece-iterator.result ≡ escaped c.args.bytes.now =
    ap encoded_text c.into_iter-piece-iterator.ensures.into_iter_gives ∙ c.percent_encode-piece-items.ensures.text
    ∙ encodes c.args.bytes.now in
    puts_as _ _ _ _ _ _ _ start
    (halfway_stop _ _ _ _ _ _ _ _ _ _ c.in-Some.piece.now _ c.loop-piece.invariant c.in-Some.ensures.steps
    (puts_as _ _ _ _ _ _ _ c.as_bytes.ensures.value c.in-Err.ensures))

pub returns : goal.returns
returns g c =
    let start : encoded_text c.into_iter-piece-iterator.result ≡ escaped c.args.bytes.now =
    ap encoded_text c.into_iter-piece-iterator.ensures.into_iter_gives ∙ c.percent_encode-piece-items.ensures.text
    ∙ encodes c.args.bytes.now in
    puts_as _ _ _ _ _ _ _ start (halfway_done _ _ _ _ _ _ _ c.loop-piece.invariant c.in-None.ensures.steps)
