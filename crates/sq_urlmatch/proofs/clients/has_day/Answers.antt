use Rattle.std.proofs.Common.{◌≡◌, false, nat_lt, arith, sym, ◌∙◌}
use Rattle.sq_urlmatch.proofs.DayLaws.{no_day}
use Rattle.sq_urlmatch.proofs.clients.has_day.Goals as goal

pub returns-else-day-lt8 : goal.returns-else-day-lt8
returns-else-day-lt8 c =
    let late : nat_lt c.args.day 8 ≡ false = grind (arith, c.if-day-lt8.false) in
    late ∙ sym (no_day c.args.days c.args.day (omega (arith, c.ranges.days.fits)) c.if-day-lt8.false)
