-- Decimal numbers: what reading gives, and that what is printed reads back.
use Rattle.std.proofs.Common.{◌≡◌, ℕ, ◌+◌, ◌-◌, ◌*◌, ◌^◌, ◌<◌, ◌≤◌, List, [], ◌∷◌, true, false, Some, None, nat_lt, decimal, arith, refl, sym, ap, ◌∙◌, ltb-true, rules}
use Rattle.std.proofs.lemmas.Bool.Decides.{nat_tests}
use Rattle.std.proofs.lemmas.Slice.Eq.{bytes_eq-Decides}
use Rattle.std.proofs.lemmas.Str.Parse.{IsNumeralModel, numerals_by_fold}
use Rattle.std.proofs.lemmas.Fmt.{digits_value-decimal}
use Rattle.std.specs.Str.{bytes_eq, all_ascii_digits}
use Rattle.sq_base.proofs.CommonLaws.{if_both_some, left_out}
use Rattle.sq_base.specs.Decimals.{read_on, number_of}

-- reading on never lowers the number
pub read_on_grows : (n : ℕ) (cs : List ℕ) → n ≤ read_on n cs
read_on_grows n [] = omega arith
read_on_grows n (c ∷ cs) = let more = read_on_grows (n * 10 + (c - 48)) cs in omega arith

-- a number that is not below the limit
pub number_past : (limit : ℕ) (word : List ℕ) → limit ≤ read_on 0 word → number_of limit word ≡ None
unfolding number_of
number_past limit word h = let past : nat_lt (read_on 0 word) limit ≡ false = grind (arith, nat_tests) in rw past refl

-- a word that is not the number's text
pub number_other : (limit n : ℕ) (word : List ℕ) → read_on 0 word ≡ n → bytes_eq (decimal n) word ≡ false
    → number_of limit word ≡ None
unfolding number_of
number_other limit n word e h = left_out (nat_lt (read_on 0 word) limit) (bytes_eq (decimal (read_on 0 word)) word)
    (read_on 0 word) (rw (e, h) refl)

-- a word that is the text of a number below the limit
pub number_taken : (limit n : ℕ) (word : List ℕ) → read_on 0 word ≡ n → n < limit → bytes_eq (decimal n) word ≡ true
    → number_of limit word ≡ Some n
unfolding number_of
number_taken limit n word e h q =
    let below : nat_lt n limit ≡ true = grind (arith, nat_tests) in
    rw (e, below, q) refl

own : IsNumeralModel (λ ds. all_ascii_digits ds ≡ true) (read_on 0)
own = numerals_by_fold _ (search rules) read_on (search rules)

-- the text of a number below the limit reads back
pub number_again : (limit n : ℕ) → n < limit → limit ≤ 2 ^ 64 → number_of limit (decimal n) ≡ Some n
number_again limit n h top =
    number_taken limit n (decimal n) (digits_value-decimal own n (omega arith)) h
    ((bytes_eq-Decides (decimal n) (decimal n)).1 refl)

-- only the text of a number below the limit is read as it
pub number_sound : (limit : ℕ) (word : List ℕ) (n : ℕ) → number_of limit word ≡ Some n
    → (word ≡ decimal n) × (n < limit)
unfolding number_of
number_sound limit word n e =
    let v = read_on 0 word in
    let parts = if_both_some (nat_lt v limit) (bytes_eq (decimal v) word) v n e in (
      sym ((bytes_eq-Decides (decimal v) word).0 parts.1) ∙ ap decimal parts.2,
      omega (arith, parts.2, ltb-true v limit parts.0),
    )
