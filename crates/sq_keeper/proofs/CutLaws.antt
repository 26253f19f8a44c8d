-- The front of a line that is handed on.
use Rattle.std.proofs.Common.{◌≡◌, ℕ, ◌≤◌, ◌++◌, List, [], length, take, refl, sym, ap, ◌∙◌, ⊎_elim, arith}
use Rattle.std.proofs.lemmas.Bool.{cases_lt}
use Rattle.std.proofs.lemmas.List.{take_at, take-append-le, length-take-le}
use Rattle.std.proofs.lemmas.Grind.{common_steps}
use Rattle.sq_keeper.specs.Lines.{line_room, cut}

whole : (n : ℕ) (xs : List ℕ) → length xs ≤ n → take n xs ≡ xs
whole n xs h = grind (arith, common_steps)

pub cut_none : cut [] ≡ []
unfolding cut
cut_none = refl

pub cut_whole : (xs : List ℕ) → length xs ≤ line_room → cut xs ≡ xs
unfolding cut
cut_whole xs h = whole line_room xs h

pub cut_full : (xs ys : List ℕ) → length xs ≡ line_room → cut (xs ++ ys) ≡ xs
unfolding cut
cut_full xs ys h = take_at xs ys line_room h

cut_len : (xs : List ℕ) → line_room ≤ length xs → length (cut xs) ≡ line_room
unfolding cut
cut_len xs h = length-take-le line_room xs h

cut_front : (xs ys : List ℕ) → line_room ≤ length xs → cut (xs ++ ys) ≡ cut xs
unfolding cut
cut_front xs ys h = take-append-le line_room xs ys h

-- what is past the front doesn't come back
pub cut_again : (xs ys : List ℕ) → cut (cut xs ++ ys) ≡ cut (xs ++ ys)
cut_again xs ys =
    ⊎_elim
    (λ less. ap (λ l. cut (l ++ ys)) (cut_whole xs (omega arith)))
    (λ more. cut_full (cut xs) ys (cut_len xs more) ∙ sym (cut_front xs ys more))
    (cases_lt (length xs) line_room)
