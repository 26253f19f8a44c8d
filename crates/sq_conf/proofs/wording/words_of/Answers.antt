use Rattle.std.proofs.Common.{sym, ◌∙◌}
use Rattle.sq_conf.proofs.WordLaws.{words_end, words_skip, words_stop, words_longer, words_last_one, words_no_more}
use Rattle.sq_conf.proofs.wording.words_of.Goals as goal
use Rattle.sq_conf.proofs.wording.words_of.Goals.{then-is_blank+then-not-is_empty+in_ok-push, then-is_blank+else-not-is_empty, else-is_blank+else-begins_comment+in_ok-push-2, then-not-is_empty-2+in_ok-push-3, else-not-is_empty-2}

pub returns-then-begins_comment : goal.returns-then-begins_comment
returns-then-begins_comment c =
    words_stop c.loop-byte.words c.loop-byte.word c.args.line.now c.loop-byte.byte-index c.loop-byte-test.true
    c.loop-byte.invariant
    (sym c.begins_comment.ensures ∙ c.if-begins_comment.true)

pub loop-byte-preserved : goal.loop-byte-preserved
loop-byte-preserved c =
    elim c.if-is_blank.branch [
      | then-is_blank+then-not-is_empty+in_ok-push w ↦
          words_end c.loop-byte.words c.if-is_blank.words c.loop-byte.word c.if-is_blank.word c.args.line.now
          c.loop-byte.byte-index c.loop-byte-test.true c.loop-byte.invariant
          (sym c.is_blank.ensures ∙ w.if-is_blank.true) (sym w.is_empty.ensures ∙ w.if-not-is_empty.true)
          (w.words-is ∙ w.in_ok-push.ensures.ok) (w.word-is ∙ w.new-word-then-not-is_empty.ensures)
      | then-is_blank+else-not-is_empty w ↦
          words_skip c.loop-byte.words c.if-is_blank.words c.loop-byte.word c.if-is_blank.word c.args.line.now
          c.loop-byte.byte-index c.loop-byte-test.true c.loop-byte.invariant
          (sym c.is_blank.ensures ∙ w.if-is_blank.true) (sym w.is_empty.ensures ∙ w.if-not-is_empty.false)
          w.words-is w.word-is
      | else-is_blank+else-begins_comment+in_ok-push-2 w ↦
          words_longer c.loop-byte.words c.if-is_blank.words c.loop-byte.word c.if-is_blank.word c.args.line.now
          c.loop-byte.byte-index c.loop-byte-test.true c.loop-byte.invariant
          (sym c.is_blank.ensures ∙ w.if-is_blank.false) (sym w.begins_comment.ensures ∙ w.if-begins_comment.false)
          w.words-is (w.word-is ∙ w.in_ok-push-2.ensures.ok)
    ]

pub returns : goal.returns
returns c =
    elim c.if-not-is_empty-2.branch [
      | then-not-is_empty-2+in_ok-push-3 w ↦
          words_last_one c.loop-byte.words c.if-not-is_empty-2.words c.loop-byte.word c.args.line.now
          c.loop-byte.byte-index c.loop-byte-test.false c.loop-byte.invariant
          (sym c.is_empty-2.ensures ∙ w.if-not-is_empty-2.true) (w.words-is ∙ w.in_ok-push-3.ensures.ok)
      | else-not-is_empty-2 w ↦
          words_no_more c.loop-byte.words c.if-not-is_empty-2.words c.loop-byte.word c.args.line.now
          c.loop-byte.byte-index c.loop-byte-test.false c.loop-byte.invariant
          (sym c.is_empty-2.ensures ∙ w.if-not-is_empty-2.false) w.words-is
    ]
