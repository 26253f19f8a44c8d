-- The end of a head does not change by what follows it.
use Rattle.std.proofs.Common.{◌≡◌, ℕ, zero, suc, ◌+◌, ◌<◌, ◌≤◌, List, [], ◌∷◌, ◌++◌, Bool, true, false, not, ◌&&◌, ◌||◌, length, take, drop, Some, None, Option, option_map, refl, sym, ap, ◌∙◌, arith, length-append, length-drop, length-take, take-append-drop}
use Rattle.std.proofs.lemmas.List.{take-append-le, drop-append-le}
use Rattle.std.proofs.lemmas.Option.{none-some}
use Rattle.std.specs.List.{position}
use Rattle.sq_base.proofs.CommonLaws.{map_some}
use Rattle.sq_base.specs.Lines.{is_lf, ended_lines}
use Rattle.sq_request.proofs.EndLaws.{ends_from, position_cons, position_below, head_end_is, lines_none, line_first}
use Rattle.sq_request.proofs.WholeLaws.{place_by_first, step, lines_later, whole_front}
use Rattle.sq_request.specs.Endings.{is_empty_line, head_end, IsWholeHead}

-- the first place that passes, with more behind the list
position_more : (p : ℕ → Bool) (xs ys : List ℕ) (k : ℕ) → position p xs ≡ Some k → position p (xs ++ ys) ≡ Some k
position_more p [] ys k e = absurd (none-some k e)
position_more p (x ∷ xs) ys k e =
    position_cons p x (xs ++ ys)
    ∙ place_by_first (p x) (position p xs) (position p (xs ++ ys)) k (sym (position_cons p x xs) ∙ e)
    (λ m at is. position_more p xs ys m at)

-- what a line comes to, where the lines behind it come to the same
step_more : (b : Bool) (k n : ℕ) (o o' : Option ℕ) → step b k o ≡ Some n → ((m : ℕ) → o ≡ Some m → o' ≡ Some m)
    → step b k o' ≡ Some n
step_more true k n o o' e more = e
step_more false k n o o' e more =
    let rest = map_some (λ m. k + 1 + m) o n e in
    ap (option_map (λ m. k + 1 + m)) (more rest.0 rest.1) ∙ ap (λ m. Some m) (sym rest.2)

more_by_place : (begun : Bool) (a b : List ℕ) (n : ℕ) (o : Option ℕ) → position is_lf a ≡ o
    → ends_from begun (ended_lines a) ≡ Some n
    → ((k : ℕ) → k < length a → (m : ℕ) → lines_later begun (take k a) k a ≡ Some m
    → ends_from (begun || not (is_empty_line (take k a))) (ended_lines (drop (k + 1) a ++ b)) ≡ Some m)
    → ends_from begun (ended_lines (a ++ b)) ≡ Some n
more_by_place begun a b n None at e more = absurd (none-some n (sym (ap (ends_from begun) (lines_none a at)) ∙ e))
more_by_place begun a b n (Some k) at e more =
    let below = position_below is_lf a k at in
    let long : k < length (a ++ b) = omega (arith, below, length-append a b) in
    let line : take k (a ++ b) ≡ take k a = take-append-le k a b (omega arith) in
    let rest : drop (k + 1) (a ++ b) ≡ drop (k + 1) a ++ b = drop-append-le (k + 1) a b (omega arith) in
    let behind = begun || not (is_empty_line (take k a)) in
    line_first begun k (a ++ b) (position_more is_lf a b k at) long
    ∙ ap (λ l. step (begun && is_empty_line l) k (lines_later begun l k (a ++ b))) line
    ∙ step_more (begun && is_empty_line (take k a)) k n (lines_later begun (take k a) k a)
    (lines_later begun (take k a) k (a ++ b)) (sym (line_first begun k a at below) ∙ e)
    (λ m h. ap (λ r. ends_from behind (ended_lines r)) rest ∙ more k below m h)

more_ends : (most : ℕ) (begun : Bool) (a b : List ℕ) (n : ℕ) → length a ≤ most
    → ends_from begun (ended_lines a) ≡ Some n → ends_from begun (ended_lines (a ++ b)) ≡ Some n
more_ends zero begun a b n room e =
    more_by_place begun a b n (position is_lf a) refl e (λ k below. absurd (omega arith))
more_ends (suc most) begun a b n room e =
    more_by_place begun a b n (position is_lf a) refl e
    (λ k below m rest. more_ends most (begun || not (is_empty_line (take k a))) (drop (k + 1) a) b m
    (omega (arith, length-drop (k + 1) a)) rest)

-- a head that ends in the first bytes ends there
pub head_end_more : (a b : List ℕ) (n : ℕ) → head_end a ≡ Some n → head_end (a ++ b) ≡ Some n
head_end_more a b n e = sym (head_end_is (a ++ b)) ∙ more_ends (length a) false a b n (omega arith) (head_end_is a ∙ e)

-- a head that ends within the first bytes ends in them
pub head_end_within : (a b : List ℕ) (n : ℕ) → head_end (a ++ b) ≡ Some n → n ≤ length a → head_end a ≡ Some n
head_end_within a b n e within =
    let whole : IsWholeHead (take n (a ++ b)) = whole_front (a ++ b) (Some n) e in
    let front : take n (a ++ b) ≡ take n a = take-append-le n a b within in
    let count : length (take n a) ≡ n = omega (arith, length-take n a) in
    let here : head_end (take n a) ≡ Some n = ap head_end (sym front) ∙ whole ∙ ap (λ l. Some (length l)) front
    ∙ ap (λ m. Some m) count in
    ap head_end (sym (take-append-drop n a)) ∙ head_end_more (take n a) (drop n a) n here
