-- A list without its first elements.
use Rattle.std.proofs.Common.{◌≡◌, ◌+◌, ◌<◌, ◌≤◌, ℕ, List, drop, length, sym, arith, length-drop}
use Rattle.std.proofs.lemmas.List.{drop-drop}

pub drop_one : {X : Type 0} (n : ℕ) (xs : List X) → drop (n + 1) xs ≡ drop 1 (drop n xs)
drop_one n xs = sym (drop-drop 1 n xs)

pub more_left : {X : Type 0} (n : ℕ) (xs : List X) → 0 < length (drop n xs) → n + 1 ≤ length xs
more_left n xs some = omega (arith, some, length-drop n xs)
