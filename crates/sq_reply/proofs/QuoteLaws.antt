-- Bytes between quotes, one at a time.
use Rattle.std.proofs.Common.{◌≡◌, ℕ, ◌+◌, ◌++◌, List, [], ◌∷◌, Bool, true, false, not, ◌&&◌, ◌==◌, Some, None, refl, sym, ap, arith, append_assoc}
use Rattle.std.specs.Option.{option_map}
use Rattle.std.specs.declared.option.Option.{Option}
use Rattle.sq_base.specs.Replies.{is_line_byte, quoted_len, unquoted, meant}

-- the place of a quote, counted from further back
abbrev pub front : ℕ → Option ℕ → Option ℕ
front i place = option_map (λ n. i + n) place

front_one : (i : ℕ) (place : Option ℕ) → front i (option_map (λ n. n + 1) place) ≡ front (i + 1) place
front_one i None = refl
front_one i (Some n) = ap (λ (k : ℕ). Some k) (omega arith)

pub front_start : (place : Option ℕ) → front 0 place ≡ place
front_start None = refl
front_start (Some n) = ap (λ (k : ℕ). Some k) (omega arith)

-- the closing quote
pub quote_here : (after : Bool) (b : ℕ) (bs : List ℕ) → (not after && b == 34) ≡ true
    → quoted_len after (b ∷ bs) ≡ Some 0
unfolding quoted_len
quote_here after b bs h = rw h refl

-- a byte that may not stand there
pub quote_fails : (after : Bool) (b : ℕ) (bs : List ℕ) → (not after && b == 34) ≡ false → is_line_byte b ≡ false
    → quoted_len after (b ∷ bs) ≡ None
unfolding quoted_len
quote_fails after b bs h k = rw (h, k) refl

-- the end without a quote
pub quote_ends : (after : Bool) → quoted_len after [] ≡ None
unfolding quoted_len
quote_ends after = refl

-- a byte between quotes
pub quote_later : (i : ℕ) (after : Bool) (b : ℕ) (bs : List ℕ) → (not after && b == 34) ≡ false → is_line_byte b ≡ true
    → front i (quoted_len after (b ∷ bs)) ≡ front (i + 1) (quoted_len (not after && b == 92) bs)
unfolding quoted_len
quote_later i after b bs h k = rw (h, k) (front_one i (quoted_len (not after && b == 92) bs))

-- the byte behind a `\`
pub unquoted_meant : (front : List ℕ) (b : ℕ) (bs : List ℕ)
    → front ++ unquoted true (b ∷ bs) ≡ (front ++ meant b ∷ []) ++ unquoted false bs
unfolding unquoted
unquoted_meant front b bs = sym (append_assoc front (meant b ∷ []) (unquoted false bs))

-- a `\`
pub unquoted_mark : (front : List ℕ) (b : ℕ) (bs : List ℕ) → b ≡ 92
    → front ++ unquoted false (b ∷ bs) ≡ front ++ unquoted true bs
unfolding unquoted
unquoted_mark front b bs h = rw h refl

-- another byte
pub unquoted_itself : (front : List ℕ) (b : ℕ) (bs : List ℕ) → (b == 92) ≡ false
    → front ++ unquoted false (b ∷ bs) ≡ (front ++ b ∷ []) ++ unquoted false bs
unfolding unquoted
unquoted_itself front b bs h = rw h (sym (append_assoc front (b ∷ []) (unquoted false bs)))

pub unquoted_ends : (after : Bool) → unquoted after [] ≡ []
unfolding unquoted
unquoted_ends true = refl
unquoted_ends false = refl
