-- What stands behind `://`.
use Rattle.std.proofs.Common.{◌≡◌, ℕ, ◌+◌, ◌-◌, ◌<◌, List, [], length, take, drop, sym, ap, ◌∙◌, arith, length-drop, length-take, drop-drop}
use Rattle.std.proofs.lemmas.List.{take_rest, nil_from_length}
use Rattle.std.specs.List.{after_first, position_or_len}
use Rattle.sq_base.specs.Addresses.{is_colon}

-- the rest from a place on, as a slice has it
abbrev pub from_place : List ℕ → ℕ → List ℕ
from_place text i = take (length text - i) (drop i text)

-- fewer than three bytes from the first colon on
pub short_rest : (text rest : List ℕ) (i : ℕ) → i ≡ position_or_len is_colon text → length (from_place text i) < 3
    → rest ≡ [] → rest ≡ drop 2 (after_first is_colon text)
short_rest text rest i at short none =
    let p = position_or_len is_colon text in
    none
    ∙ sym (nil_from_length (drop 2 (drop (p + 1) text))
    (omega (
      arith,
      at,
      short,
      length-drop 2 (drop (p + 1) text),
      length-drop (p + 1) text,
      length-take (length text - i) (drop i text),
      length-drop i text,
    )))

-- what is behind three bytes from the first colon on
pub long_rest : (text : List ℕ) (i : ℕ) → i ≡ position_or_len is_colon text
    → take (length (from_place text i) - 3) (drop 3 (from_place text i)) ≡ drop 2 (after_first is_colon text)
long_rest text i at =
    let p = position_or_len is_colon text in
    let same : i + 3 ≡ p + 1 + 2 = omega (arith, at) in
    take_rest (from_place text i) 3 ∙ ap (drop 3) (take_rest text i) ∙ drop-drop 3 i text ∙ ap (λ n. drop n text) same
    ∙ sym (drop-drop 2 (p + 1) text)
