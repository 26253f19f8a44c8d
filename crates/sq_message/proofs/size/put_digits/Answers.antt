use Rattle.std.proofs.Common.{◌≡◌, ◌<◌, ◌+◌, ◌-◌, ◌/◌, ◌∷◌, length, length-set, drop, sym, ap, ◌∙◌, arith, false}
use Rattle.std.proofs.lemmas.List.{drop-set}
use Rattle.std.specs.Fmt.{digits_onto}
use Rattle.sq_message.proofs.SizeLaws.{onto_digits, onto_last, onto_step}
use Rattle.sq_message.proofs.size.put_digits.Goals as goal

pub loop-at-preserved : goal.loop-at-preserved
loop-at-preserved c =
    let l = c.loop-at in
    let inside : l.at - 1 < length l.line = omega (arith, c.loop-at-test.true, l.invariant.0, l.invariant.1) in
    let one : l.at - 1 + 1 ≡ l.at = omega (arith, c.loop-at-test.true) in
    let written = drop-set l.line (l.at - 1) c.hex_digit.result inside
    ∙ ap (λ i. c.hex_digit.result ∷ drop i l.line) one
    ∙ ap (λ d. d ∷ drop l.at l.line) c.hex_digit.ensures in (
      omega (arith, l.invariant.0),
      length-set l.line (l.at - 1) c.hex_digit.result ∙ l.invariant.1,
      ap (digits_onto (l.at - 1) 16 false (l.rest / 16)) written
          ∙ sym (onto_step l.at l.rest (drop l.at l.line) c.loop-at-test.true c.if-rest-eq0.false) ∙ l.invariant.2,
    )

pub returns-then-rest-eq0-clause-digits : goal.returns-then-rest-eq0-clause-digits
returns-then-rest-eq0-clause-digits c =
    let l = c.loop-at in
    let inside : l.at - 1 < length l.line = omega (arith, c.loop-at-test.true, l.invariant.0, l.invariant.1) in
    let one : l.at - 1 + 1 ≡ l.at = omega (arith, c.loop-at-test.true) in
    drop-set l.line (l.at - 1) c.hex_digit.result inside ∙ ap (λ i. c.hex_digit.result ∷ drop i l.line) one
    ∙ ap (λ d. d ∷ drop l.at l.line) c.hex_digit.ensures
    ∙ sym (onto_last l.at l.rest (drop l.at l.line) c.loop-at-test.true c.if-rest-eq0.true) ∙ l.invariant.2
    ∙ onto_digits c.args.number (drop 64 c.args.line.now)

pub returns-clause-digits : goal.returns-clause-digits
returns-clause-digits c =
    let l = c.loop-at in
    let none : l.at ≡ 0 = omega (arith, c.loop-at-test.false) in
    sym (ap (λ k. digits_onto k 16 false l.rest (drop l.at l.line)) none) ∙ l.invariant.2
    ∙ onto_digits c.args.number (drop 64 c.args.line.now)
