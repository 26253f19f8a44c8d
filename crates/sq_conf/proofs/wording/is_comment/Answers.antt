use Rattle.std.proofs.Common.{arith}
use Rattle.std.proofs.lemmas.Grind.{common_steps}
use Rattle.sq_conf.proofs.WordLaws.{comment_at, comment_later, comment_nowhere}
use Rattle.sq_conf.proofs.wording.is_comment.Goals as goal

pub returns-then-not-is_blank : goal.returns-then-not-is_blank
returns-then-not-is_blank c = comment_at c.args.line.now c.loop-byte.byte-index c.loop-byte-test.true
    (grind (arith, common_steps)) c.loop-byte.invariant

pub loop-byte-preserved : goal.loop-byte-preserved
loop-byte-preserved c = comment_later c.args.line.now c.loop-byte.byte-index c.loop-byte-test.true
    (grind (arith, common_steps)) c.loop-byte.invariant

pub returns : goal.returns
returns c = comment_nowhere c.args.line.now c.loop-byte.byte-index c.loop-byte-test.false c.loop-byte.invariant
