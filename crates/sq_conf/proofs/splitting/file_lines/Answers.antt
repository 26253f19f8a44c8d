use Rattle.std.proofs.Common.{◌++◌, ◌∷◌, [], ◌∙◌, ap}
use Rattle.sq_conf.proofs.LineLaws.{lf_step, byte_step, last_step}
use Rattle.sq_conf.proofs.splitting.file_lines.Goals as goal
use Rattle.sq_conf.proofs.splitting.file_lines.Goals.{then-byte-eq10+in_ok-push, else-byte-eq10+in_ok-push-2}

pub loop-byte-preserved : goal.loop-byte-preserved
loop-byte-preserved c =
    elim c.if-byte-eq10.branch [
      | then-byte-eq10+in_ok-push w ↦
          lf_step c.loop-byte.lines c.if-byte-eq10.lines c.loop-byte.line c.if-byte-eq10.line c.args.text.now
          c.loop-byte.byte-index c.loop-byte-test.true w.if-byte-eq10.true
          c.loop-byte.invariant.0 c.loop-byte.invariant.1
          (w.lines-is ∙ w.in_ok-push.ensures.ok ∙ ap (λ t. c.loop-byte.lines ++ t ∷ []) w.without_cr.ensures)
          (w.line-is ∙ w.new-line-then-byte-eq10.ensures)
      | else-byte-eq10+in_ok-push-2 w ↦
          byte_step c.loop-byte.lines c.if-byte-eq10.lines c.loop-byte.line c.if-byte-eq10.line c.args.text.now
          c.loop-byte.byte-index c.loop-byte-test.true w.if-byte-eq10.false
          c.loop-byte.invariant.0 c.loop-byte.invariant.1 w.lines-is (w.line-is ∙ w.in_ok-push-2.ensures.ok)
    ]

pub returns : goal.returns
returns c = record {
  lines = last_step c.loop-byte.lines c.push-2.new.self c.loop-byte.line c.args.text.now c.loop-byte.byte-index
      c.loop-byte-test.false c.loop-byte.invariant.0 c.loop-byte.invariant.1 c.in_ok-push-3.ensures.ok;
}
