-- Formats of few tokens, with the token of an acl's arguments added or not.
use Rattle.std.proofs.Common.{◌≡◌, ◌≤◌, suc, List, [], ◌∷◌, ◌++◌, length, Bool, true, false, not, ◌&&◌, ◌||◌, nat_le, refl, arith}
use Rattle.std.proofs.lemmas.Bool.Decides.{nat_tests}
use Rattle.std.proofs.lemmas.List.{length_push}
use Rattle.std.specs.List.{list_any}
use Rattle.sq_rules.specs.Classes.{ends_in_arguments, has_few_tokens, is_arguments}
use Rattle.sq_rules.specs.Limits.{token_limit}
use Rattle.sq_rules.specs.declared.classes.Token.{Token}
use Rattle.sq_rules.specs.declared.classes.Token.TheVariants as token

one_more : (here rest ends : Bool) → (here || rest) ≡ false → (rest ≡ false → ends ≡ true) → (not here && ends) ≡ true
one_more true rest ends none go = cc
one_more false rest ends none go = go none

ends_added : (format : List Token) → list_any is_arguments format ≡ false
    → ends_in_arguments (format ++ token.Arguments ∷ []) ≡ true
ends_added [] none = refl
ends_added (t ∷ []) none = one_more (is_arguments t) false true none (λ e. refl)
ends_added (t ∷ u ∷ format) none =
    one_more (is_arguments t) (list_any is_arguments (u ∷ format))
    (ends_in_arguments (u ∷ format ++ token.Arguments ∷ [])) none (ends_added (u ∷ format))

either : (few : Bool) (more ends : Bool) → more ≡ true → ends ≡ true → (few || (more && ends)) ≡ true
either few more ends a b = grind (arith, a, b)

-- as many as may be written, and that one
pub few_added : (format : List Token) → list_any is_arguments format ≡ false → length format ≤ token_limit
    → has_few_tokens (format ++ token.Arguments ∷ []) ≡ true
few_added format none few =
    let more : nat_le (length (format ++ token.Arguments ∷ [])) (suc token_limit) ≡ true =
    grind (arith, nat_tests, length_push format token.Arguments, few) in
    either (nat_le (length (format ++ token.Arguments ∷ [])) token_limit)
    (nat_le (length (format ++ token.Arguments ∷ [])) (suc token_limit))
    (ends_in_arguments (format ++ token.Arguments ∷ [])) more
    (ends_added format none)

first : (few : Bool) (other : Bool) → few ≡ true → (few || other) ≡ true
first few other e = grind (arith, e)

-- as many as may be written
pub few_kept : (format : List Token) → length format ≤ token_limit → has_few_tokens format ≡ true
few_kept format few =
    let is : nat_le (length format) token_limit ≡ true = grind (arith, nat_tests, few) in
    first (nat_le (length format) token_limit) (nat_le (length format) (suc token_limit) && ends_in_arguments format) is

or_right : (here rest : Bool) → rest ≡ true → (here || rest) ≡ true
or_right true rest e = refl
or_right false rest e = e

or_left : (here rest : Bool) → here ≡ true → (here || rest) ≡ true
or_left here rest e = rw e refl

and_right : (a b : Bool) → (a && b) ≡ true → b ≡ true
and_right true b e = e
and_right false b e = cc

ends_has : (format : List Token) → ends_in_arguments format ≡ true → list_any is_arguments format ≡ true
ends_has [] e = cc
ends_has (t ∷ []) e = or_left (is_arguments t) false e
ends_has (t ∷ u ∷ format) e =
    or_right (is_arguments t) (list_any is_arguments (u ∷ format))
    (ends_has (u ∷ format) (and_right (not (is_arguments t)) (ends_in_arguments (u ∷ format)) e))

none_ends : (format : List Token) → list_any is_arguments format ≡ false → (b : Bool) → ends_in_arguments format ≡ b
    → b ≡ false
none_ends format none true e = let has : list_any is_arguments format ≡ true = ends_has format e in cc
none_ends format none false e = refl

only_few : (few more ends : Bool) → ends ≡ false → (few || (more && ends)) ≡ true → few ≡ true
only_few true more ends none e = refl
only_few false true ends none e = cc
only_few false false ends none e = cc

-- few tokens without that one are as few as may be written
written_few : (format : List Token) → list_any is_arguments format ≡ false → has_few_tokens format ≡ true
    → length format ≤ token_limit
written_few format none few =
    let is : nat_le (length format) token_limit ≡ true =
    only_few (nat_le (length format) token_limit) (nat_le (length format) (suc token_limit)) (ends_in_arguments format)
    (none_ends format none (ends_in_arguments format) refl) few in
    grind (arith, nat_tests, is)

-- few tokens stay few where that one is added
pub few_more : (format : List Token) → list_any is_arguments format ≡ false → has_few_tokens format ≡ true
    → has_few_tokens (format ++ token.Arguments ∷ []) ≡ true
few_more format none few = few_added format none (written_few format none few)
