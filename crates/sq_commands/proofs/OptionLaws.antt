-- What pairs of an option and its value state.
use Rattle.std.proofs.Common.{◌≡◌, ℕ, ◌-◌, ◌≤◌, List, [], ◌∷◌, length, take, drop, get_or, Some, option_and_then, ap, ◌∙◌, arith}
use Rattle.std.proofs.Math.Seq.{take-length}
use Rattle.sq_commands.specs.declared.options.Options.{Options}
use Rattle.sq_commands.specs.Serving.{options_from, with_option}

-- the first pair was stated, and then the others
pub stated_on : (words : List (List ℕ)) (word value : List ℕ) (o next : Options) → 2 ≤ length words
    → word ≡ get_or words 0 word → value ≡ get_or words 1 value
    → Some next ≡ with_option word value o
    → options_from (take (length words - 2) (drop 2 words)) next ≡ options_from words o
stated_on [] word value o next two a b is = absurd (omega (arith, two))
stated_on (w ∷ []) word value o next two a b is = absurd (omega (arith, two))
stated_on (w ∷ v ∷ rest) word value o next two a b is =
    let count : length (w ∷ v ∷ rest) - 2 ≡ length rest = omega arith in
    ap (λ (ws : List (List ℕ)). options_from ws next) (ap (λ (n : ℕ). take n rest) count ∙ take-length rest)
    ∙ ap (option_and_then (options_from rest))
    (is ∙ ap (λ (x : List ℕ). with_option x value o) a ∙ ap (λ (x : List ℕ). with_option w x o) b)
