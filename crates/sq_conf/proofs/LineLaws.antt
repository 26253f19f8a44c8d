-- The lines of a file, byte by byte.
use Rattle.std.proofs.Common.{◌≡◌, ◌≢◌, ℕ, suc, ◌+◌, ◌<◌, ◌≤◌, ◌++◌, List, [], ◌∷◌, Bool, false, All, length, get_or, drop, zero, refl, sym, ◌∙◌, ap, append_assoc, arith, ne_eqb}
use Rattle.std.proofs.Math.ListN.{drop_of_length-le}
use Rattle.std.proofs.lemmas.List.{append-nil}
use Rattle.std.proofs.lemmas.List.Elements.{All-append}
use Rattle.std.proofs.lemmas.List.Sums.{count_by-le-length}
use Rattle.std.proofs.lemmas.List.Splits.{slice_split_at, slice_split_none, length-slice_split}
use Rattle.std.specs.List.{slice_split}
use Rattle.sq_base.proofs.CommonLaws.{cons_at}
use Rattle.sq_base.specs.Lines.{is_lf, without_cr, trimmed_lines, file_lines}

-- no byte, and one that fails the test
pub none_pass : (p : ℕ → Bool) → All (λ b. p b ≡ false) []
none_pass p k d h = absurd (omega arith)

pub one_fails : (p : ℕ → Bool) (b : ℕ) → p b ≡ false → All (λ b. p b ≡ false) (b ∷ [])
one_fails p b e zero d h = e
one_fails p b e (suc k) d h = absurd (omega arith)

ended_cons : (l : List ℕ) (ls : List (List ℕ)) → 0 < length ls
    → trimmed_lines (l ∷ ls) ≡ without_cr l ∷ trimmed_lines ls
ended_cons l [] h = absurd (omega arith)
ended_cons l (m ∷ ls) h = refl

-- a line that LF ends
pub ended_at_lf : (line rest : List ℕ) → All (λ b. is_lf b ≡ false) line
    → trimmed_lines (slice_split is_lf (line ++ 10 ∷ rest)) ≡ without_cr line ∷ trimmed_lines (slice_split is_lf rest)
ended_at_lf line rest h =
    let some : 0 < length (slice_split is_lf rest) = omega (arith, length-slice_split is_lf rest) in
    ap trimmed_lines (slice_split_at is_lf line 10 rest h refl) ∙ ended_cons line (slice_split is_lf rest) some

-- at LF a line ends
pub lf_step : (lines lines' : List (List ℕ)) (line line' text : List ℕ) (i : ℕ) → i < length text → get_or text i 0 ≡ 10
    → lines ++ trimmed_lines (slice_split is_lf (line ++ drop i text)) ≡ trimmed_lines (slice_split is_lf text)
    → All (λ b. is_lf b ≡ false) line
    → lines' ≡ lines ++ without_cr line ∷ []
    → line' ≡ []
    → (lines' ++ trimmed_lines (slice_split is_lf (line' ++ drop (i + 1) text))
    ≡ trimmed_lines (slice_split is_lf text)) × All (λ b. is_lf b ≡ false) line'
lf_step lines lines' line line' text i h b inv none e f =
    let rest = drop (i + 1) text in
    let shown : trimmed_lines (slice_split is_lf (line ++ drop i text)) ≡ without_cr line
    ∷ trimmed_lines (slice_split is_lf rest) =
    ap (λ t. trimmed_lines (slice_split is_lf (line ++ t))) (cons_at text i 10 h b) ∙ ended_at_lf line rest none in
    rw (e, f) (
      append_assoc lines (without_cr line ∷ []) (trimmed_lines (slice_split is_lf rest))
          ∙ ap (λ t. lines ++ t) (sym shown) ∙ inv,
      none_pass is_lf,
    )

-- another byte belongs to the line
pub byte_step : (lines lines' : List (List ℕ)) (line line' text : List ℕ) (i : ℕ) → i < length text
    → get_or text i 0 ≢ 10
    → lines ++ trimmed_lines (slice_split is_lf (line ++ drop i text)) ≡ trimmed_lines (slice_split is_lf text)
    → All (λ b. is_lf b ≡ false) line
    → lines' ≡ lines
    → line' ≡ line ++ get_or text i 0 ∷ []
    → (lines' ++ trimmed_lines (slice_split is_lf (line' ++ drop (i + 1) text))
    ≡ trimmed_lines (slice_split is_lf text)) × All (λ b. is_lf b ≡ false) line'
byte_step lines lines' line line' text i h b inv none e f =
    let rest = drop (i + 1) text in
    let shown : (line ++ get_or text i 0 ∷ []) ++ rest ≡ line ++ drop i text =
    append_assoc line (get_or text i 0 ∷ []) rest
    ∙ ap (λ t. line ++ t) (sym (cons_at text i (get_or text i 0) h refl)) in
    rw (e, f) (
      ap (λ t. lines ++ trimmed_lines (slice_split is_lf t)) shown ∙ inv,
      All-append (λ b. is_lf b ≡ false) line (get_or text i 0 ∷ []) none
          (one_fails is_lf (get_or text i 0) (ne_eqb (get_or text i 0) 10 b)),
    )

-- the last line
pub last_step : (lines lines' : List (List ℕ)) (line text : List ℕ) (i : ℕ) → length text ≤ i
    → lines ++ trimmed_lines (slice_split is_lf (line ++ drop i text)) ≡ trimmed_lines (slice_split is_lf text)
    → All (λ b. is_lf b ≡ false) line
    → lines' ≡ lines ++ line ∷ []
    → lines' ≡ file_lines text
unfolding file_lines
last_step lines lines' line text i h inv none e =
    let shown : trimmed_lines (slice_split is_lf (line ++ drop i text)) ≡ line ∷ [] =
    ap (λ t. trimmed_lines (slice_split is_lf t)) (ap (λ t. line ++ t) (drop_of_length-le text h) ∙ append-nil line)
    ∙ ap trimmed_lines (slice_split_none is_lf line none) in
    e ∙ ap (λ t. lines ++ t) (sym shown) ∙ inv

length_ended : (ls : List (List ℕ)) → length (trimmed_lines ls) ≡ length ls
length_ended [] = refl
length_ended (l ∷ []) = refl
length_ended (l ∷ m ∷ ls) = ap (λ n. suc n) (length_ended (m ∷ ls))

-- a text has fewer lines than bytes, and one
pub file_lines_count : (text : List ℕ) → length (file_lines text) ≤ length text + 1
unfolding file_lines
file_lines_count text = omega
    (arith, length_ended (slice_split is_lf text), length-slice_split is_lf text, count_by-le-length is_lf text)
