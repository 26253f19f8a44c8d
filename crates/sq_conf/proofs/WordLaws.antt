-- The words of a line, byte by byte.
use Rattle.std.proofs.Common.{◌≡◌, ℕ, ◌+◌, ◌<◌, ◌≤◌, ◌++◌, List, [], ◌∷◌, Bool, true, false, not, ◌&&◌, ◌==◌, All, length, get_or, drop, take_while, filter, refl, sym, ◌∙◌, ap, append_assoc, arith, eqb-true, one-add}
use Rattle.std.proofs.Math.ListN.{drop_of_length-le}
use Rattle.std.proofs.lemmas.List.{append-nil}
use Rattle.std.proofs.lemmas.List.Elements.{All-append}
use Rattle.std.proofs.lemmas.List.Splits.{slice_split_at, slice_split_none, slice_split-cons_yes, slice_split-cons_no}
use Rattle.std.specs.List.{slice_split, onto_first}
use Rattle.sq_base.proofs.CommonLaws.{cons_at}
use Rattle.sq_base.specs.Lines.{is_blank, is_word, begins_comment, first_begins, pieces, words_of, is_comment}
use Rattle.sq_conf.proofs.LineLaws.{none_pass, one_fails}

-- a blank before a line
pieces_blank : (b : ℕ) (rest : List ℕ) → is_blank b ≡ true → pieces (b ∷ rest) ≡ pieces rest
pieces_blank b rest h = ap (filter is_word) (slice_split-cons_yes is_blank b rest h)

-- a word before a blank, and the last one
pieces_word : (word : List ℕ) (b : ℕ) (rest : List ℕ) → is_word word ≡ true → All (λ c. is_blank c ≡ false) word
    → is_blank b ≡ true → pieces (word ++ b ∷ rest) ≡ word ∷ pieces rest
pieces_word [] b rest w none h = cc
pieces_word (c ∷ cs) b rest w none h = ap (filter is_word) (slice_split_at is_blank (c ∷ cs) b rest none h)

pieces_last : (word : List ℕ) → is_word word ≡ true → All (λ c. is_blank c ≡ false) word → pieces word ≡ word ∷ []
pieces_last [] w none = cc
pieces_last (c ∷ cs) w none = ap (filter is_word) (slice_split_none is_blank (c ∷ cs) none)

first_onto : (b : ℕ) (parts : List (List ℕ)) → first_begins (filter is_word (onto_first b parts)) ≡ (b == 35)
first_onto b [] = refl
first_onto b (part ∷ parts) = refl

-- the first byte of a word decides whether the line is a comment
pub comment_at : (line : List ℕ) (i : ℕ) → i < length line → is_blank (get_or line i 0) ≡ false
    → is_comment (drop i line) ≡ is_comment line → (get_or line i 0 == 35) ≡ is_comment line
unfolding is_comment
comment_at line i h e inv =
    let b = get_or line i 0 in
    let rest = drop (i + 1) line in
    sym (first_onto b (slice_split is_blank rest))
    ∙ ap (λ ps. first_begins (filter is_word ps)) (sym (slice_split-cons_no is_blank b rest e))
    ∙ ap is_comment (sym (cons_at line i b h refl)) ∙ inv

-- a blank does not
pub comment_later : (line : List ℕ) (i : ℕ) → i < length line → is_blank (get_or line i 0) ≡ true
    → is_comment (drop i line) ≡ is_comment line → is_comment (drop (i + 1) line) ≡ is_comment line
unfolding is_comment
comment_later line i h e inv =
    let b = get_or line i 0 in
    ap first_begins (sym (pieces_blank b (drop (i + 1) line) e)) ∙ ap is_comment (sym (cons_at line i b h refl)) ∙ inv

-- a line of blanks is none
pub comment_nowhere : (line : List ℕ) (i : ℕ) → length line ≤ i → is_comment (drop i line) ≡ is_comment line
    → false ≡ is_comment line
unfolding is_comment
comment_nowhere line i h inv = ap is_comment (sym (drop_of_length-le line h)) ∙ inv

words_blank : (b : ℕ) (rest : List ℕ) → is_blank b ≡ true → words_of (b ∷ rest) ≡ words_of rest
unfolding words_of
words_blank b rest h = ap (take_while (λ word. not (begins_comment word))) (pieces_blank b rest h)

taken : (word : List ℕ) (words : List (List ℕ)) → begins_comment word ≡ false
    → take_while (λ word. not (begins_comment word)) (word ∷ words) ≡ word
    ∷ take_while (λ word. not (begins_comment word)) words
taken word words h = rw (h, one-add) refl

words_word : (word : List ℕ) (b : ℕ) (rest : List ℕ) → is_word word ≡ true → All (λ c. is_blank c ≡ false) word
    → begins_comment word ≡ false → is_blank b ≡ true
    → words_of (word ++ b ∷ rest) ≡ word ∷ words_of rest
unfolding words_of
words_word word b rest w none c h =
    ap (take_while (λ word. not (begins_comment word))) (pieces_word word b rest w none h) ∙ taken word (pieces rest) c

words_last : (word : List ℕ) → is_word word ≡ true → All (λ c. is_blank c ≡ false) word → begins_comment word ≡ false
    → words_of word ≡ word ∷ []
unfolding words_of
words_last word w none c = ap (take_while (λ word. not (begins_comment word))) (pieces_last word w none)
    ∙ taken word [] c

comment_onto : (parts : List (List ℕ))
    → take_while (λ word. not (begins_comment word)) (filter is_word (onto_first 35 parts)) ≡ []
comment_onto [] = refl
comment_onto (part ∷ parts) = refl

words_comment : (rest : List ℕ) → words_of (35 ∷ rest) ≡ []
unfolding words_of
words_comment rest =
    ap (λ ps. take_while (λ word. not (begins_comment word)) (filter is_word ps))
    (slice_split-cons_no is_blank 35 rest refl) ∙ comment_onto (slice_split is_blank rest)

-- what the loop over a line keeps: the words so far, then those of the word under way and the rest,
-- are all; the word under way has no blank and begins no comment
pub record WordsSoFar (words : List (List ℕ)) (word rest line : List ℕ) : Type 0 where
  pub all : words ++ words_of (word ++ rest) ≡ words_of line
  pub plain : All (λ b. is_blank b ≡ false) word
  pub kept : begins_comment word ≡ false

some_word : (word : List ℕ) → (length word == 0) ≡ false → is_word word ≡ true
some_word [] e = cc
some_word (c ∷ cs) e = refl

no_word : (word : List ℕ) → (length word == 0) ≡ true → word ≡ []
no_word [] e = refl
no_word (c ∷ cs) e = absurd (omega (arith, eqb-true (length (c ∷ cs)) 0 e))

-- a blank ends a word
pub words_end : (words words' : List (List ℕ)) (word word' line : List ℕ) (i : ℕ) → i < length line
    → WordsSoFar words word (drop i line) line
    → is_blank (get_or line i 0) ≡ true → (length word == 0) ≡ false → words' ≡ words ++ word ∷ [] → word' ≡ []
    → WordsSoFar words' word' (drop (i + 1) line) line
words_end words words' word word' line i h s blank some e f =
    let rest = drop (i + 1) line in
    let shown : words_of (word ++ drop i line) ≡ word ∷ words_of rest =
    ap (λ t. words_of (word ++ t)) (cons_at line i (get_or line i 0) h refl)
    ∙ words_word word (get_or line i 0) rest (some_word word some) s.plain s.kept blank in
    rw (e, f) (record {
      all = append_assoc words (word ∷ []) (words_of rest) ∙ ap (λ t. words ++ t) (sym shown) ∙ s.all;
      plain = none_pass is_blank;
      kept = refl;
    })

-- or stands where no word is under way
pub words_skip : (words words' : List (List ℕ)) (word word' line : List ℕ) (i : ℕ) → i < length line
    → WordsSoFar words word (drop i line) line
    → is_blank (get_or line i 0) ≡ true → (length word == 0) ≡ true → words' ≡ words → word' ≡ word
    → WordsSoFar words' word' (drop (i + 1) line) line
words_skip words words' word word' line i h s blank none e f =
    let rest = drop (i + 1) line in
    let empty = no_word word none in
    let shown : words_of (word ++ drop i line) ≡ words_of rest =
    ap (λ t. words_of (t ++ drop i line)) empty ∙ ap words_of (cons_at line i (get_or line i 0) h refl)
    ∙ words_blank (get_or line i 0) rest blank in
    rw (e, f, empty) (record {
      all = ap (λ t. words ++ t) (sym shown) ∙ s.all;
      plain = none_pass is_blank;
      kept = refl;
    })

both_hold : (a b : Bool) → (a && b) ≡ true → (a ≡ true) × (b ≡ true)
both_hold true b e = (refl, e)
both_hold false b e = (e, cc)

-- `#` where no word is under way begins a comment
pub words_stop : (words : List (List ℕ)) (word line : List ℕ) (i : ℕ) → i < length line
    → WordsSoFar words word (drop i line) line
    → (get_or line i 0 == 35 && length word == 0) ≡ true → words ≡ words_of line
words_stop words word line i h s begins =
    let parts = both_hold (get_or line i 0 == 35) (length word == 0) begins in
    let hash : get_or line i 0 ≡ 35 = eqb-true (get_or line i 0) 35 parts.0 in
    let rest = drop (i + 1) line in
    let shown : words_of (word ++ drop i line) ≡ [] =
    ap (λ t. words_of (t ++ drop i line)) (no_word word parts.1) ∙ ap words_of (cons_at line i 35 h hash)
    ∙ words_comment rest in
    sym (append-nil words) ∙ ap (λ t. words ++ t) (sym shown) ∙ s.all

first_fails : (a : Bool) → (a && true) ≡ false → a ≡ false
first_fails true e = e
first_fails false e = refl

kept_longer : (word : List ℕ) (b : ℕ) → (b == 35 && length word == 0) ≡ false → begins_comment word ≡ false
    → begins_comment (word ++ b ∷ []) ≡ false
kept_longer [] b e h = first_fails (b == 35) e
kept_longer (c ∷ cs) b e h = h

-- every other byte belongs to the word: inside one, also `#`
pub words_longer : (words words' : List (List ℕ)) (word word' line : List ℕ) (i : ℕ) → i < length line
    → WordsSoFar words word (drop i line) line
    → is_blank (get_or line i 0) ≡ false → (get_or line i 0 == 35 && length word == 0) ≡ false → words' ≡ words
    → word' ≡ word ++ get_or line i 0 ∷ []
    → WordsSoFar words' word' (drop (i + 1) line) line
words_longer words words' word word' line i h s plain goes e f =
    let b = get_or line i 0 in
    let shown : (word ++ b ∷ []) ++ drop (i + 1) line ≡ word ++ drop i line =
    append_assoc word (b ∷ []) (drop (i + 1) line) ∙ ap (λ t. word ++ t) (sym (cons_at line i b h refl)) in
    rw (e, f) (record {
      all = ap (λ t. words ++ words_of t) shown ∙ s.all;
      plain = All-append (λ c. is_blank c ≡ false) word (b ∷ []) s.plain (one_fails is_blank b plain);
      kept = kept_longer word b goes s.kept;
    })

at_end : (words : List (List ℕ)) (word line : List ℕ) (i : ℕ) → length line ≤ i
    → WordsSoFar words word (drop i line) line → words ++ words_of word ≡ words_of line
at_end words word line i h s = ap (λ t. words ++ words_of t)
    (sym (ap (λ t. word ++ t) (drop_of_length-le line h) ∙ append-nil word)) ∙ s.all

-- the line's end ends a word
pub words_last_one : (words words' : List (List ℕ)) (word line : List ℕ) (i : ℕ) → length line ≤ i
    → WordsSoFar words word (drop i line) line
    → (length word == 0) ≡ false → words' ≡ words ++ word ∷ [] → words' ≡ words_of line
words_last_one words words' word line i h s some e =
    e ∙ ap (λ t. words ++ t) (sym (words_last word (some_word word some) s.plain s.kept)) ∙ at_end words word line i h s

words_nil : words_of [] ≡ []
unfolding words_of
words_nil = refl

-- or stands where no word is under way
pub words_no_more : (words words' : List (List ℕ)) (word line : List ℕ) (i : ℕ) → length line ≤ i
    → WordsSoFar words word (drop i line) line
    → (length word == 0) ≡ true → words' ≡ words → words' ≡ words_of line
words_no_more words words' word line i h s none e =
    e ∙ sym (append-nil words) ∙ ap (λ t. words ++ t) (sym (ap words_of (no_word word none) ∙ words_nil))
    ∙ at_end words word line i h s
