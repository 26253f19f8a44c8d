use Rattle.std.proofs.Common.{get_or, refl, sym}
use Rattle.sq_conf.proofs.DayLaws.{days_step}
use Rattle.sq_conf.proofs.NumberLaws.{seven_days}
use Rattle.sq_conf.proofs.times.days_of.Goals as goal

pub loop-letter-preserved : goal.loop-letter-preserved
loop-letter-preserved c =
    let word = c.args.word.now in
    let days = c.loop-letter.days in
    let more = c.in_ok-days.field-0 in
    let at = c.loop-letter.letter-index in (
      days_step days more at (get_or word at 0) word c.loop-letter-test.true refl (sym c.in_ok-days.ensures.bits)
          c.loop-letter.invariant.0,
      seven_days days more c.loop-letter.invariant.1 c.in_ok-days.ensures.seven,
    )
