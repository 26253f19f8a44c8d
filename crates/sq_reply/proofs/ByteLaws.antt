-- Bytes by kind: where a front of one kind ends, and what one kind says of another.
use Rattle.std.proofs.Common.{◌≡◌, ℕ, suc, ◌+◌, ◌<◌, ◌^◌, ◌++◌, List, [], ◌∷◌, length, drop, take, Bool, true, false, not, ◌||◌, ◌==◌, if◌then◌else◌, refl, ap, ◌∙◌, arith, decimal, rules}
use Rattle.std.proofs.Math.Seq.{drop-append_seam, take-append_seam}
use Rattle.std.proofs.lemmas.Bool.{and_parts, and_from, not-true}
use Rattle.std.proofs.lemmas.Bool.Decides.{nat_tests}
use Rattle.std.proofs.lemmas.Slice.Eq.{bytes_eq-Decides}
use Rattle.std.proofs.lemmas.Str.Parse.{IsNumeralModel, numerals_by_fold}
use Rattle.std.proofs.lemmas.Fmt.{digits_decimal}
use Rattle.std.specs.Char.{is_ascii_digit}
use Rattle.std.specs.List.{list_all, prefix_len}
use Rattle.std.specs.Str.{bytes_eq, all_ascii_digits}
use Rattle.sq_base.specs.Decimals.{read_on}
use Rattle.sq_base.specs.Replies.{is_line_byte, is_word_byte, is_value_byte, is_key_byte, is_key, ends_word}

-- the first of these is of another kind, if there is one
abbrev pub stops : (ℕ → Bool) → List ℕ → Bool
stops p [] = true
stops p (b ∷ bs) = not (p b)

pub cut_len : (p : ℕ → Bool) (xs ys : List ℕ) → list_all p xs ≡ true → stops p ys ≡ true
    → prefix_len p (xs ++ ys) ≡ length xs
cut_len p [] [] h k = refl
cut_len p [] (y ∷ ys) h k = rw (not-true (p y) k) refl
cut_len p (x ∷ xs) ys h k = let both = and_parts (p x) (list_all p xs) h in
    rw (both.0, cut_len p xs ys both.1 k) (omega arith)

-- where a front of one kind is written before another kind, it is cut there
pub cut_front : (p : ℕ → Bool) (xs ys : List ℕ) → list_all p xs ≡ true → stops p ys ≡ true
    → take (prefix_len p (xs ++ ys)) (xs ++ ys) ≡ xs
cut_front p xs ys h k = ap (λ n. take n (xs ++ ys)) (cut_len p xs ys h k) ∙ take-append_seam xs ys

pub cut_back : (p : ℕ → Bool) (xs ys : List ℕ) → list_all p xs ≡ true → stops p ys ≡ true
    → drop (prefix_len p (xs ++ ys)) (xs ++ ys) ≡ ys
cut_back p xs ys h k = ap (λ n. drop n (xs ++ ys)) (cut_len p xs ys h k) ∙ drop-append_seam xs ys

front_by : (t : Bool) (p : ℕ → Bool) (x n : ℕ) (xs : List ℕ) → p x ≡ t → list_all p (take n xs) ≡ true
    → list_all p (take (if t then 1 + n else 0) (x ∷ xs)) ≡ true
front_by true p x n xs h k = let one : 1 + n ≡ suc n = omega arith in
    rw one (and_from (p x) (list_all p (take n xs)) h k)
front_by false p x n xs h k = refl

-- a front that was cut is of its kind
pub front_passes : (p : ℕ → Bool) (xs : List ℕ) → list_all p (take (prefix_len p xs) xs) ≡ true
front_passes p [] = refl
front_passes p (x ∷ xs) = front_by (p x) p x (prefix_len p xs) xs refl (front_passes p xs)

pub all_are : (p q : ℕ → Bool) → ((b : ℕ) → p b ≡ true → q b ≡ true) → (xs : List ℕ) → list_all p xs ≡ true
    → list_all q xs ≡ true
all_are p q f [] h = refl
all_are p q f (x ∷ xs) h = let both = and_parts (p x) (list_all p xs) h in
    and_from (q x) (list_all q xs) (f x both.0) (all_are p q f xs both.1)

pub key_is_word : (b : ℕ) → is_key_byte b ≡ true → is_word_byte b ≡ true
key_is_word b h = grind (arith, nat_tests)

pub digit_is_word : (b : ℕ) → is_ascii_digit b ≡ true → is_word_byte b ≡ true
digit_is_word b h = grind (arith, nat_tests)

pub word_is_line : (b : ℕ) → is_word_byte b ≡ true → is_line_byte b ≡ true
word_is_line b h = (and_parts (is_line_byte b) (not (b == 32 || b == 34 || b == 61)) h).0

pub value_is_line : (b : ℕ) → is_value_byte b ≡ true → is_line_byte b ≡ true
value_is_line b h = (and_parts (is_line_byte b) (not (b == 32)) h).0

pub word_no_space : (b : ℕ) → is_word_byte b ≡ true → (b == 32) ≡ false
word_no_space b h = grind (arith, nat_tests)

pub line_no_cr : (b : ℕ) → is_line_byte b ≡ true → (b == 13) ≡ false
line_no_cr b h = grind (arith, nat_tests)

-- a key's bytes
pub key_bytes : (key : List ℕ) → is_key key ≡ true → list_all is_word_byte key ≡ true
key_bytes [] h = absurd (cc)
key_bytes (b ∷ bs) h = all_are is_key_byte is_word_byte key_is_word (b ∷ bs) h

space_stops : (p : ℕ → Bool) (b : ℕ) → p 32 ≡ false → (b == 32) ≡ true → not (p b) ≡ true
space_stops p b h e = let same : b ≡ 32 = grind (arith, nat_tests) in rw (same, h) refl

-- the end of a word ends what holds no space
pub end_stops : (p : ℕ → Bool) (rest : List ℕ) → p 32 ≡ false → ends_word rest ≡ true → stops p rest ≡ true
end_stops p [] h e = refl
end_stops p (b ∷ bs) h e = space_stops p b h e

digits_words : (ds : List ℕ) → all_ascii_digits ds ≡ true → list_all is_word_byte ds ≡ true
digits_words [] h = refl
digits_words (c ∷ cs) h =
    let both = and_parts (is_ascii_digit c) (all_ascii_digits cs) h in
    and_from (is_word_byte c) (list_all is_word_byte cs) (digit_is_word c both.0) (digits_words cs both.1)

own : IsNumeralModel (λ ds. all_ascii_digits ds ≡ true) (read_on 0)
own = numerals_by_fold _ (search rules) read_on (search rules)

-- a number's text
pub number_bytes : (n : ℕ) → n < 2 ^ 64 → list_all is_word_byte (decimal n) ≡ true
number_bytes n h = digits_words (decimal n) (digits_decimal own n h)

pub same_bytes : (xs ys : List ℕ) → bytes_eq xs ys ≡ true → xs ≡ ys
same_bytes xs ys h = (bytes_eq-Decides xs ys).0 h
