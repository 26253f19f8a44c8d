use Rattle.std.proofs.Common.{◌≡◌, ◌+◌, ◌*◌, ◌∷◌, ◌∙◌, sym, ap, arith, drop, get_or, drop-cons, add-one}
use Rattle.sq_base.specs.Decimals.{read_on}
use Rattle.sq_base.proofs.NumberLaws.{read_on_grows}
use Rattle.sq_message.proofs.LengthLaws.{too_great}
use Rattle.sq_message.proofs.plans.digits_value.Goals as goal

pub returns-then-next : goal.returns-then-next
returns-then-next c =
    let word = c.args.digits.now in
    let at = c.loop-byte.byte-index in
    let number = c.loop-byte.number in
    let rest = drop (at + 1) word in
    let cons : drop at word ≡ get_or word at 0 ∷ rest = rw (add-one) (drop-cons word at 0 c.loop-byte-test.true) in
    let step : read_on (number * 10 + c.saturating_sub.result) rest ≡ read_on 0 word =
    rw (c.saturating_sub.ensures) (ap (λ l. read_on number l) (sym cons) ∙ c.loop-byte.invariant.0) in
    too_great (read_on 0 word)
    (omega (arith, read_on_grows (number * 10 + c.saturating_sub.result) rest, step, c.if-next.true))
