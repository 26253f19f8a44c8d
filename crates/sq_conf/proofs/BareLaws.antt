-- No word of a line holds a blank.
use Rattle.std.proofs.Common.{◌≡◌, ℕ, suc, zero, List, [], ◌∷◌, Bool, true, false, not, ◌&&◌, ◌||◌, cond, Option, Some, None, Result, Ok, Err, IfOk, take, filter, refl, ap, ◌∙◌}
use Rattle.std.proofs.lemmas.List.Splits.{slice_split-cons_yes, slice_split-cons_no}
use Rattle.std.specs.List.{list_all, list_any, onto_first, slice_split}
use Rattle.sq_base.specs.Lines.{Joined, fault_of, file_lines, is_blank, is_word, joined, lexed, lexed_before, lexed_lines, line_before, words_of}
use Rattle.sq_base.specs.declared.config_lines.Lexed.{Lexed}
use Rattle.sq_base.specs.declared.config_lines.LineFault.{LineFault}
use Rattle.sq_conf.specs.Words.{are_bare, is_bare, is_bare_line}

onto_bare : (b : ℕ) → is_blank b ≡ false → (parts : List (List ℕ)) → are_bare parts ≡ true
    → are_bare (onto_first b parts) ≡ true
onto_bare b plain [] all = ap (λ x. not (x || false) && true) plain
onto_bare b plain (part ∷ parts) all = ap (λ x. not (x || list_any is_blank part) && are_bare parts) plain ∙ all

-- what stands between blanks holds none
split_bare : (line : List ℕ) → are_bare (slice_split is_blank line) ≡ true
split_bare [] = refl
split_bare (b ∷ rest) = by (is_blank b) refl (split_bare rest)
  where
    by : (t : Bool) → is_blank b ≡ t → are_bare (slice_split is_blank rest) ≡ true
        → are_bare (slice_split is_blank (b ∷ rest)) ≡ true
    by true blank so = ap are_bare (slice_split-cons_yes is_blank b rest blank) ∙ so
    by false plain so = ap are_bare (slice_split-cons_no is_blank b rest plain)
        ∙ onto_bare b plain (slice_split is_blank rest) so

kept_or_not : (q : Bool) (x : List ℕ) (rest others : List (List ℕ)) → (is_bare x && are_bare others) ≡ true
    → (are_bare others ≡ true → are_bare rest ≡ true) → are_bare (cond q (x ∷ rest) rest) ≡ true
kept_or_not q x rest others all so = by q (is_bare x) refl all
  where
    by : (q t : Bool) → is_bare x ≡ t → (t && are_bare others) ≡ true → are_bare (cond q (x ∷ rest) rest) ≡ true
    by true true e all = ap (λ z. z && are_bare rest) e ∙ so all
    by false true e all = so all
    by q false e all = absurd (cc)

filter_bare : (q : List ℕ → Bool) (words : List (List ℕ)) → are_bare words ≡ true → are_bare (filter q words) ≡ true
filter_bare q [] all = refl
filter_bare q (w ∷ words) all = kept_or_not (q w) w (filter q words) words all (filter_bare q words)

take_bare : (n : ℕ) (words : List (List ℕ)) → are_bare words ≡ true → are_bare (take n words) ≡ true
take_bare zero words all = refl
take_bare (suc n) [] all = refl
take_bare (suc n) (w ∷ words) all = by (is_bare w) refl all (take_bare n words)
  where
    by : (t : Bool) → is_bare w ≡ t → (t && are_bare words) ≡ true
        → (are_bare words ≡ true → are_bare (take n words) ≡ true) → are_bare (w ∷ take n words) ≡ true
    by true e all so = ap (λ z. z && are_bare (take n words)) e ∙ so all
    by false e all so = absurd (cc)

-- the words of a line
pub words_bare : (line : List ℕ) → are_bare (words_of line) ≡ true
unfolding words_of
words_bare line = take_bare _ (filter is_word (slice_split is_blank line))
    (filter_bare is_word (slice_split is_blank line) (split_bare line))

before_bare : (n : ℕ) (words : List (List ℕ)) (later : Lexed) → are_bare words ≡ true
    → list_all is_bare_line later.lines ≡ true → list_all is_bare_line (line_before n words later).lines ≡ true
before_bare n [] later bare all = all
before_bare n (w ∷ words) later bare all = ap (λ z. z && list_all is_bare_line later.lines) bare ∙ all

fault_bare : (j : Joined) (o : Option LineFault) (later : Lexed) → list_all is_bare_line later.lines ≡ true
    → list_all is_bare_line (lexed_before j o later).lines ≡ true
fault_bare j (Some fault) later all = refl
fault_bare j None later all = before_bare j.number (words_of j.text) later (words_bare j.text) all

lines_bare : (js : List Joined) → list_all is_bare_line (lexed_lines js).lines ≡ true
lines_bare [] = refl
lines_bare (j ∷ js) = fault_bare j (fault_of j) (lexed_lines js) (lines_bare js)

-- the words of the lines of a text
pub lexed_bare : (text : List ℕ) → list_all is_bare_line (lexed text).lines ≡ true
unfolding lexed
lexed_bare text = lines_bare (joined 1 (file_lines text))

pub bare_by : {E : Type 0} (r : Result Lexed E) (text : List ℕ) → IfOk r (λ l. l ≡ lexed text)
    → IfOk r (λ l. list_all is_bare_line l.lines ≡ true)
bare_by (Ok l) text is = ap (λ (x : Lexed). list_all is_bare_line x.lines) is ∙ lexed_bare text
bare_by (Err e) text is = tt
