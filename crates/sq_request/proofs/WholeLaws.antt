-- The bytes up to the end of a head are a whole head.
use Rattle.std.proofs.Common.{◌≡◌, ℕ, zero, suc, ◌+◌, ◌<◌, ◌≤◌, List, [], ◌∷◌, Bool, true, false, not, if◌then◌else◌, ◌&&◌, ◌||◌, length, take, drop, Some, None, Option, option_map, IfSome, refl, sym, ap, ◌∙◌, arith, length-take, length-drop}
use Rattle.std.proofs.lemmas.List.{take-take, drop-take}
use Rattle.std.proofs.lemmas.Option.{none-some, same_Some}
use Rattle.std.specs.List.{position}
use Rattle.sq_base.proofs.CommonLaws.{map_some}
use Rattle.sq_base.specs.Lines.{is_lf, ended_lines}
use Rattle.sq_request.proofs.EndLaws.{ends_from, position_cons, position_below, head_end_is, lines_none, line_first}
use Rattle.sq_request.specs.Endings.{is_empty_line, head_end, IsWholeHead}

-- a place in a list, by that in the list behind its first element
pub place_by_first : (b : Bool) (o o' : Option ℕ) (k : ℕ) → (if b then Some 0 else option_map (λ m. 1 + m) o) ≡ Some k
    → ((m : ℕ) → o ≡ Some m → 1 + m ≡ k → o' ≡ Some m) → (if b then Some 0 else option_map (λ m. 1 + m) o') ≡ Some k
place_by_first true o o' k h more = h
place_by_first false o o' k h more =
    let behind = map_some (λ m. 1 + m) o k h in
    ap (option_map (λ m. 1 + m)) (more behind.0 behind.1 (sym behind.2)) ∙ ap (λ m. Some m) (sym behind.2)

-- the first place that passes stands in a longer front of the list
position_take : (p : ℕ → Bool) (xs : List ℕ) (n k : ℕ) → position p xs ≡ Some k → k < n
    → position p (take n xs) ≡ Some k
position_take p [] n k e below = absurd (none-some k e)
position_take p (x ∷ xs) zero k e below = absurd (omega arith)
position_take p (x ∷ xs) (suc n) k e below =
    position_cons p x (take n xs)
    ∙ place_by_first (p x) (position p xs) (position p (take n xs)) k (sym (position_cons p x xs) ∙ e)
    (λ m at is. position_take p xs n m at (omega arith))

-- what a line of k bytes comes to, where the lines behind it come to o
abbrev pub step : Bool → ℕ → Option ℕ → Option ℕ
step b k o = if b then Some (k + 1) else option_map (λ m. k + 1 + m) o

-- the lines behind the first one
abbrev pub lines_later : Bool → List ℕ → ℕ → List ℕ → Option ℕ
lines_later begun line k bytes = ends_from (begun || not (is_empty_line line)) (ended_lines (drop (k + 1) bytes))

-- a front of the bytes that has the first line
first_of_front : (begun : Bool) (bytes : List ℕ) (n k : ℕ) → position is_lf bytes ≡ Some k → k < n → n ≤ length bytes
    → ends_from begun (ended_lines (take n bytes))
    ≡ step (begun && is_empty_line (take k bytes)) k (lines_later begun (take k bytes) k (take n bytes))
first_of_front begun bytes n k at below within =
    let fits : k < length (take n bytes) = omega (arith, length-take n bytes) in
    let same : take k (take n bytes) ≡ take k bytes = take-take k n bytes (omega arith) in
    line_first begun k (take n bytes) (position_take is_lf bytes n k at below) fits
    ∙ ap (λ line. step (begun && is_empty_line line) k (lines_later begun line k (take n bytes))) same

-- the same end, where the first line ends the head or not
front_by_line : (b begun : Bool) (bytes : List ℕ) (n k : ℕ) → (begun && is_empty_line (take k bytes)) ≡ b
    → position is_lf bytes ≡ Some k → k < length bytes
    → step b k (lines_later begun (take k bytes) k bytes) ≡ Some n
    → ((m : ℕ) → lines_later begun (take k bytes) k bytes ≡ Some m
    → (m ≤ length (drop (k + 1) bytes))
    × (ends_from (begun || not (is_empty_line (take k bytes))) (ended_lines (take m (drop (k + 1) bytes))) ≡ Some m))
    → (n ≤ length bytes) × (ends_from begun (ended_lines (take n bytes)) ≡ Some n)
front_by_line true begun bytes n k b at below e more =
    let is : k + 1 ≡ n = same_Some (k + 1) n e in
    (omega arith, first_of_front begun bytes n k at (omega arith) (omega arith) ∙ rw b e)
front_by_line false begun bytes n k b at below e more =
    let rest = map_some (λ m. k + 1 + m) (lines_later begun (take k bytes) k bytes) n e in
    let m = rest.0 in
    let is : k + 1 + m ≡ n = sym rest.2 in
    let front = more m rest.1 in
    let within : n ≤ length bytes = omega (arith, length-drop (k + 1) bytes, front.0) in
    let cut : drop (k + 1) (take n bytes) ≡ take m (drop (k + 1) bytes) = ap (λ j. drop (k + 1) (take j bytes)) (sym is)
    ∙ drop-take (k + 1) m bytes in
    let behind = begun || not (is_empty_line (take k bytes)) in
    let ends : lines_later begun (take k bytes) k (take n bytes) ≡ Some m =
    ap (λ x. ends_from behind (ended_lines x)) cut ∙ front.1 in (
      within,
      first_of_front begun bytes n k at (omega arith) within
          ∙ rw b (ap (option_map (λ j. k + 1 + j)) ends ∙ ap (λ j. Some j) is),
    )

-- the front of the bytes has the same end
abbrev SameEnd : Bool → List ℕ → ℕ → Type 0
SameEnd begun bytes n = (n ≤ length bytes) × (ends_from begun (ended_lines (take n bytes)) ≡ Some n)

front_by_place : (begun : Bool) (bytes : List ℕ) (n : ℕ) (o : Option ℕ) → position is_lf bytes ≡ o
    → ends_from begun (ended_lines bytes) ≡ Some n
    → ((k : ℕ) → k < length bytes → (m : ℕ) → lines_later begun (take k bytes) k bytes ≡ Some m
    → SameEnd (begun || not (is_empty_line (take k bytes))) (drop (k + 1) bytes) m)
    → SameEnd begun bytes n
front_by_place begun bytes n None at e more = absurd
    (none-some n (sym (ap (ends_from begun) (lines_none bytes at)) ∙ e))
front_by_place begun bytes n (Some k) at e more =
    let below = position_below is_lf bytes k at in
    front_by_line (begun && is_empty_line (take k bytes)) begun bytes n k refl
    at below (sym (line_first begun k bytes at below) ∙ e) (more k below)

front_ends : (most : ℕ) (begun : Bool) (bytes : List ℕ) (n : ℕ) → length bytes ≤ most
    → ends_from begun (ended_lines bytes) ≡ Some n → SameEnd begun bytes n
front_ends zero begun bytes n room e =
    front_by_place begun bytes n (position is_lf bytes) refl e (λ k below. absurd (omega arith))
front_ends (suc most) begun bytes n room e =
    front_by_place begun bytes n (position is_lf bytes) refl e
    (λ k below m rest. front_ends most (begun || not (is_empty_line (take k bytes))) (drop (k + 1) bytes) m
    (omega (arith, length-drop (k + 1) bytes)) rest)

-- the bytes up to the end of a head end where the head does
pub whole_front : (bytes : List ℕ) (o : Option ℕ) → head_end bytes ≡ o → IfSome o (λ n. IsWholeHead (take n bytes))
whole_front bytes None e = tt
whole_front bytes (Some n) e =
    let front = front_ends (length bytes) false bytes n (omega arith) (head_end_is bytes ∙ e) in
    let count : n ≡ length (take n bytes) = omega (arith, length-take n bytes, front.0) in
    sym (head_end_is (take n bytes)) ∙ front.1 ∙ ap (λ m. Some m) count
