-- Lists in the values of fields, an element at a time.
use Rattle.std.proofs.Common.{◌≡◌, ◌≢◌, ℕ, zero, suc, ◌<◌, List, [], ◌∷◌, cond, map, length, get_or, take, drop, refl, ap, ◌∙◌, arith}
use Rattle.std.proofs.lemmas.Bool.{eq-eqb, ne_eqb}
use Rattle.httparse.specs.Grammar.{trim_ows}
use Rattle.sq_message.specs.FieldNames.{before_first, comma_pieces, elements}

-- the first piece ends at the first comma
pieces_at : (xs : List ℕ) (i : ℕ) → i < length xs → get_or xs i 0 ≡ 44 → ((k : ℕ) → k < i → get_or xs k 0 ≢ 44)
    → comma_pieces xs ≡ take i xs ∷ comma_pieces (drop (suc i) xs)
pieces_at [] i inside comma before = absurd (omega arith)
pieces_at (b ∷ bs) zero inside comma before =
    ap (λ t. cond t ([] ∷ comma_pieces bs) (before_first b (comma_pieces bs))) (eq-eqb b 44 comma)
pieces_at (b ∷ bs) (suc i) inside comma before =
    ap (λ t. cond t ([] ∷ comma_pieces bs) (before_first b (comma_pieces bs))) (ne_eqb b 44 (before 0 (omega arith)))
    ∙ ap (before_first b) (pieces_at bs i (omega arith) comma (λ k below. before (suc k) (omega arith)))

pieces_whole : (xs : List ℕ) → ((k : ℕ) → k < length xs → get_or xs k 0 ≢ 44) → comma_pieces xs ≡ xs ∷ []
pieces_whole [] none = refl
pieces_whole (b ∷ bs) none =
    ap (λ t. cond t ([] ∷ comma_pieces bs) (before_first b (comma_pieces bs))) (ne_eqb b 44 (none 0 (omega arith)))
    ∙ ap (before_first b) (pieces_whole bs (λ k below. none (suc k) (omega arith)))

-- the first element ends at the first comma
pub elements_at : (xs : List ℕ) (i : ℕ) → i < length xs → get_or xs i 0 ≡ 44 → ((k : ℕ) → k < i → get_or xs k 0 ≢ 44)
    → elements xs ≡ trim_ows (take i xs) ∷ elements (drop (suc i) xs)
unfolding elements
elements_at xs i inside comma before = ap (map trim_ows) (pieces_at xs i inside comma before)

-- without a comma there is one element
pub elements_whole : (xs : List ℕ) → ((k : ℕ) → k < length xs → get_or xs k 0 ≢ 44) → elements xs ≡ trim_ows xs ∷ []
unfolding elements
elements_whole xs none = ap (map trim_ows) (pieces_whole xs none)
