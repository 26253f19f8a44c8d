-- A question's line, in pieces.
use Rattle.std.proofs.Common.{◌≡◌, ℕ, List, [], ◌∷◌, ◌++◌, Some, sym, ap, ◌∙◌, subst, append_assoc, decimal}
use Rattle.std.specs.declared.option.Option.{Option}
use Rattle.std.specs.Io.KnownBytes.{Appends}
use Rattle.sq_base.specs.Replies.{question_text}
use Rattle.sq_outside.specs.Output.{Grew, IsProperPrefix}
use Rattle.sq_outside.proofs.Writing.{Grew_proper_more, Grew_proper_after}

abbrev rest_of : List ℕ → List ℕ
rest_of text = (32 ∷ []) ++ text ++ 10 ∷ []

question_is : (n : ℕ) (text : List ℕ) → decimal n ++ rest_of text ≡ question_text (Some n) text
unfolding question_text
question_is n text =
    sym (ap (λ l. l ++ 10 ∷ []) (append_assoc (decimal n) (32 ∷ []) text)
    ∙ append_assoc (decimal n) ((32 ∷ []) ++ text) (10 ∷ []))

whole_is : (n : ℕ) (channel : Option ℕ) (text : List ℕ) → channel ≡ Some n
    → decimal n ++ rest_of text ≡ question_text channel text
whole_is n channel text e = question_is n text ∙ ap (λ c. question_text c text) (sym e)

-- a fault in the channel's number
pub failed_in_number : (a b : Option (List ℕ)) (n : ℕ) (channel : Option ℕ) (text : List ℕ) → channel ≡ Some n
    → Grew a b (λ part. IsProperPrefix part (decimal n))
    → Grew a b (λ part. IsProperPrefix part (question_text channel text))
failed_in_number a b n channel text e grew =
    subst (λ w. Grew a b (λ part. IsProperPrefix part w)) (whole_is n channel text e)
    (Grew_proper_more a b (decimal n) (rest_of text) grew)

-- a fault behind it
pub failed_behind : (a b c : Option (List ℕ)) (n : ℕ) (channel : Option ℕ) (text : List ℕ) → channel ≡ Some n
    → Appends a b (decimal n)
    → Grew b c (λ part. IsProperPrefix part (rest_of text))
    → Grew a c (λ part. IsProperPrefix part (question_text channel text))
failed_behind a b c n channel text e first grew =
    subst (λ w. Grew a c (λ part. IsProperPrefix part w)) (whole_is n channel text e)
    (Grew_proper_after a b c (decimal n) (rest_of text) first grew)
