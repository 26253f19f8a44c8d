use Rattle.std.proofs.Common.{◌+◌, ◌∷◌, ◌++◌, ◌∙◌, ap, sym, map, drop}
use Rattle.sq_journal.specs.Lines.{after_spaces}
use Rattle.sq_journal.specs.Printing.{piece_text}
use Rattle.sq_journal.proofs.PutLaws.{halfway_more, halfway_stop, halfway_done, spaced_next, spaced_end}
use Rattle.sq_journal.proofs.printing.put_pieces.Goals as goal

pub loop-piece-preserved : goal.loop-piece-preserved
loop-piece-preserved g c =
    let p = c.piece-item.result in
    halfway_more _ _ _ _ _ _ _ _ _ (32 ∷ piece_text p) _ c.loop-piece.invariant
    (spaced_next piece_text c.args.pieces.now c.loop-piece.piece-index p c.loop-piece-test.true
    ∙ ap (λ x. (32 ∷ piece_text x)
    ++ after_spaces (map piece_text (drop (c.loop-piece.piece-index + 1) c.args.pieces.now))) (sym c.piece-item.is))
    c.in-Ok.ensures

pub returns-in-Err : goal.returns-in-Err
returns-in-Err g c =
    let p = c.piece-item.result in
    halfway_stop _ _ _ _ _ _ _ _ _ _ (32 ∷ piece_text p) _ c.loop-piece.invariant
    (spaced_next piece_text c.args.pieces.now c.loop-piece.piece-index p c.loop-piece-test.true
    ∙ ap (λ x. (32 ∷ piece_text x)
    ++ after_spaces (map piece_text (drop (c.loop-piece.piece-index + 1) c.args.pieces.now))) (sym c.piece-item.is))
    c.in-Err.ensures

pub returns : goal.returns
returns g c =
    halfway_done _ _ _ _ _ _ _ c.loop-piece.invariant
    (spaced_end piece_text c.args.pieces.now c.loop-piece.piece-index c.loop-piece-test.false)
