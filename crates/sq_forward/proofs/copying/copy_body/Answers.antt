use Rattle.std.proofs.Common.{refl, ◌∙◌, arith, rules}
use Rattle.sq_forward.proofs.CopyLaws.{begins, goes_on, ends, piece_as}
use Rattle.sq_forward.proofs.copying.copy_body.Goals as goal

pub loop-init : goal.loop-init
loop-init g c = record {
  chunked = c.new-cursor.ensures.chunked;
  so_far = begins (g.M.Meter.seated c.args.meter.now) c.args.plan c.args.chunked_out c.new-cursor.result.place _ _
      (g.M.Meter.granted c.args.meter.now) c.new-cursor.ensures.place (search (rules, g.M.laws));
  dry = c.requires.dry;
  seated = refl;
  besides = refl;
  source_later = omega arith;
  sink_later = omega arith;
  origin = refl;
  few = omega arith;
}

pub loop-preserved : goal.loop-preserved
loop-preserved g c =
    let inv = c.loop.invariant in
    record {
      chunked = c.copy_piece.ensures.chunked ∙ inv.chunked;
      so_far = goes_on _ _ _ inv.so_far (piece_as inv.seated inv.chunked c.in-None-copy_piece.ensures.copies);
      dry = c.in-None-copy_piece.ensures.dry;
      seated = c.copy_piece.ensures.seated ∙ inv.seated;
      besides = c.copy_piece.ensures.besides ∙ inv.besides;
      source_later = omega (arith, inv.source_later, c.copy_piece.ensures.source_later);
      sink_later = omega (arith, inv.sink_later, c.copy_piece.ensures.sink_later);
      origin = c.copy_piece.ensures.origin ∙ inv.origin;
      few = omega (arith, inv.few, c.copy_piece.ensures.few);
    }

pub returns-in-Some-copy_piece-clause-copies : goal.returns-in-Some-copy_piece-clause-copies
returns-in-Some-copy_piece-clause-copies g c =
    let inv = c.loop.invariant in
    ends _ _ _ c.in-Some-copy_piece.copied inv.so_far
    (piece_as inv.seated inv.chunked c.in-Some-copy_piece.ensures.copies)
