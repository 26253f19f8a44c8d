use Rattle.std.proofs.Common.{◌≡◌, ◌+◌, ◌*◌, ◌∷◌, ◌∙◌, sym, ap, arith, drop, get_or, drop-cons, add-one, true, false, decimal}
use Rattle.std.proofs.Math.ListN.{drop_of_length-le}
use Rattle.std.specs.Str.{bytes_eq}
use Rattle.sq_base.specs.Decimals.{read_on}
use Rattle.sq_base.proofs.NumberLaws.{read_on_grows, number_past, number_other, number_taken}
use Rattle.sq_base.proofs.decimals.number_of.Goals as goal

pub returns-then-next-limit-clause-read : goal.returns-then-next-limit-clause-read
returns-then-next-limit-clause-read c =
    let word = c.args.word.now in
    let at = c.loop-byte.byte-index in
    let number = c.loop-byte.number in
    let rest = drop (at + 1) word in
    let cons : drop at word ≡ get_or word at 0 ∷ rest = rw (add-one) (drop-cons word at 0 c.loop-byte-test.true) in
    let step : read_on (number * 10 + c.saturating_sub.result) rest ≡ read_on 0 word =
    rw (c.saturating_sub.ensures) (ap (λ l. read_on number l) (sym cons) ∙ c.loop-byte.invariant) in
    sym (number_past c.args.limit word
    (omega (arith, read_on_grows (number * 10 + c.saturating_sub.result) rest, step)))

pub returns-then-number-limit-clause-read : goal.returns-then-number-limit-clause-read
returns-then-number-limit-clause-read c =
    let word = c.args.word.now in
    let value : c.loop-byte.number ≡ read_on 0 word =
    ap (read_on c.loop-byte.number) (sym (drop_of_length-le word c.loop-byte-test.false)) ∙ c.loop-byte.invariant in
    sym (number_past c.args.limit word (omega (arith, value)))

pub returns-then-eq-clause-read : goal.returns-then-eq-clause-read
returns-then-eq-clause-read c =
    let word = c.args.word.now in
    let value : read_on 0 word ≡ c.loop-byte.number =
    sym (ap (read_on c.loop-byte.number) (sym (drop_of_length-le word c.loop-byte-test.false))
    ∙ c.loop-byte.invariant) in
    let text : bytes_eq (decimal c.loop-byte.number) word ≡ true =
    rw (← c.format.ensures.text, ← c.as_bytes.ensures.value) (sym c.if-eq.ensures) in
    sym (number_taken c.args.limit c.loop-byte.number word value c.if-number-limit.false text)

pub returns-else-eq-clause-read : goal.returns-else-eq-clause-read
returns-else-eq-clause-read c =
    let word = c.args.word.now in
    let value : read_on 0 word ≡ c.loop-byte.number =
    sym (ap (read_on c.loop-byte.number) (sym (drop_of_length-le word c.loop-byte-test.false))
    ∙ c.loop-byte.invariant) in
    let text : bytes_eq (decimal c.loop-byte.number) word ≡ false =
    rw (← c.format.ensures.text, ← c.as_bytes.ensures.value) (sym c.if-eq.ensures) in
    sym (number_other c.args.limit c.loop-byte.number word value text)
