-- Lines cut into words and joined again.
use Rattle.std.proofs.Common.{◌≡◌, ℕ, ◌+◌, ◌<◌, List, [], ◌∷◌, ◌++◌, Bool, true, false, ◌==◌, length, take, drop, refl, sym, ◌∙◌, ap, arith, Some, Bor, Option, All, not, cond, append-nil, append_assoc}
use Rattle.std.proofs.lemmas.List.{drop-drop}
use Rattle.std.proofs.lemmas.List.Elements.{All-nil, All-cons, All-head, All-tail}
use Rattle.std.proofs.lemmas.List.Splits.{slice_split_none, slice_split_first, slice_split_at, length-slice_split, join_with_byte-slice_split}
use Rattle.std.proofs.lemmas.List.Sums.{position_or_len_is}
use Rattle.std.proofs.lemmas.Grind.{get_or_default_zero}
use Rattle.std.specs.List.{slice_split, position_or_len, count_by, list_all, onto_first}
use Rattle.memchr.specs.Find.{Nowhere, NoneBefore, Passes, is_byte}
use Rattle.std.proofs.lemmas.Bool.{and_parts, false_from_ne_true}
use Rattle.sq_base.specs.Texts.{AreBytes}
use Rattle.sq_journal.specs.Lines.{is_space, spaced_words, words_left, line_of, after_spaces}
use Rattle.sq_rules.specs.Steps.{WordList}

-- where the first space stands, the line is cut
pub cut_at : (text : List ℕ) (k : ℕ)
    → NoneBefore (Passes (is_byte 32) text) 0 (length text) k × Passes (is_byte 32) text k
    → spaced_words text ≡ take k text ∷ spaced_words (drop 1 (drop k text))
unfolding spaced_words
cut_at text k h =
    let bound : k < length text = omega (arith, h.0.high) in
    let at : position_or_len is_space text ≡ k =
    position_or_len_is is_space text k 0 (omega (arith, bound))
    (λ j below. false_from_ne_true _ (h.0.before j (omega arith) below)) (λ _. h.1) in
    let first = slice_split_first is_space text 0 (omega (arith, at, bound)) in
    first ∙ rw (at, drop-drop 1 k text) refl

-- where there is none, the line is its one word
pub cut_nowhere : (text : List ℕ) → Nowhere (Passes (is_byte 32) text) 0 (length text) → spaced_words text ≡ text ∷ []
unfolding spaced_words
cut_nowhere text h = slice_split_none is_space text
    (λ k d below. rw (get_or_default_zero text k d below) (false_from_ne_true _ (h k (omega arith) below)))

-- there is always a word
pub words_stand : (rest : Option (Bor (List ℕ))) (text : Bor (List ℕ)) (left : WordList) → words_left rest ≡ left
    → rest ≡ Some text → false ≡ (length left == 0)
unfolding spaced_words
words_stand rest text left e is =
    let cut : slice_split is_space text.now ≡ left = sym (ap words_left is) ∙ e in
    let count : length left ≡ count_by is_space text.now + 1 = sym (ap length cut)
    ∙ length-slice_split is_space text.now in
    grind (arith, count)

-- no space is in the word, and each number of it is a byte
abbrev pub IsPlain : List ℕ → Type 0
IsPlain w = All (λ b. is_space b ≡ false) w

-- no space is in any of the words
abbrev pub ArePlain : WordList → Type 0
ArePlain [] = Unit {0}
ArePlain (w ∷ ws) = IsPlain w × ArePlain ws

-- each word is of bytes
abbrev pub AreWords : WordList → Type 0
AreWords [] = Unit {0}
AreWords (w ∷ ws) = AreBytes w × AreWords ws

-- words without spaces, some after others
pub plain_both : (xs ys : WordList) → ArePlain xs → ArePlain ys → ArePlain (xs ++ ys)
plain_both [] ys p q = q
plain_both (x ∷ xs) ys p q = (p.0, plain_both xs ys p.1 q)

not_space : (b : Bool) → not b ≡ true → b ≡ false
not_space true h = absurd (cc)
not_space false h = refl

-- a word that is tested whole
pub plain_word : (w : List ℕ) → list_all (λ b. not (is_space b)) w ≡ true → IsPlain w
plain_word [] h = All-nil (λ b. is_space b ≡ false)
plain_word (b ∷ bs) h =
    let both = and_parts (not (is_space b)) (list_all (λ c. not (is_space c)) bs) h in
    All-cons (λ c. is_space c ≡ false) b bs (not_space (is_space b) both.0) (plain_word bs both.1)

-- the words of a line, joined, are the line
pub line_again : (line : List ℕ) → line_of (spaced_words line) ≡ line
unfolding spaced_words
line_again line = join_with_byte-slice_split 32 line

-- words without a space, joined, are cut again
pub words_again : (w : List ℕ) (ws : WordList) → IsPlain w → ArePlain ws → spaced_words (line_of (w ∷ ws)) ≡ w ∷ ws
unfolding spaced_words
words_again w [] p q = slice_split_none is_space w p
words_again w (v ∷ ws) p q = slice_split_at is_space w 32 (line_of (v ∷ ws)) p refl
    ∙ ap (λ l. w ∷ l) (words_again v ws q.0 q.1)

bytes_parts : (x : ℕ) (parts : WordList) (b : Bool) → x < 256 → AreWords parts
    → AreWords (cond b ([] ∷ parts) (onto_first x parts))
bytes_parts x parts true h k = (All-nil (λ c. c < 256), k)
bytes_parts x [] false h k = (All-cons (λ c. c < 256) x [] h (All-nil (λ c. c < 256)), tt)
bytes_parts x (part ∷ parts) false h k = (All-cons (λ c. c < 256) x part h k.0, k.1)

bytes_cut : (line : List ℕ) → AreBytes line → AreWords (slice_split is_space line)
bytes_cut [] h = (All-nil (λ c. c < 256), tt)
bytes_cut (b ∷ bs) h =
    bytes_parts b (slice_split is_space bs) (is_space b) (All-head (λ c. c < 256) b bs h)
    (bytes_cut bs (All-tail (λ c. c < 256) b bs h))

-- the words of bytes are of bytes
pub words_bytes : (line : List ℕ) → AreBytes line → AreWords (spaced_words line)
unfolding spaced_words
words_bytes line h = bytes_cut line h

-- a line is its first word, and each other word after a space
pub line_joined : (w : List ℕ) (ws : WordList) → line_of (w ∷ ws) ≡ w ++ after_spaces ws
line_joined w [] = sym (append-nil w)
line_joined w (v ∷ ws) = ap (λ l. w ++ 32 ∷ l) (line_joined v ws)

-- words after spaces, some after others
pub both_after : (xs ys : WordList) → after_spaces (xs ++ ys) ≡ after_spaces xs ++ after_spaces ys
both_after [] ys = refl
both_after (x ∷ xs) ys = ap (λ l. 32 ∷ (x ++ l)) (both_after xs ys)
    ∙ ap (λ l. 32 ∷ l) (sym (append_assoc x (after_spaces xs) (after_spaces ys)))
