-- What pools of both kinds granted, and the book of their grants.
use Rattle.std.proofs.Common.{◌≡◌, ℕ, ◌+◌, ◌^◌, min, arith}

-- a grant of the one kind
pub kept_grant : (pools tags total amount now more : ℕ) → min (2 ^ 127) (pools + tags) ≡ min (2 ^ 127) total
    → now ≡ min (2 ^ 127) (pools + amount) → more ≡ total + amount
    → min (2 ^ 127) (now + tags) ≡ min (2 ^ 127) more
kept_grant pools tags total amount now more e f g = grind arith

-- and of the other
pub kept_tag_grant : (pools tags total amount now more : ℕ) → min (2 ^ 127) (pools + tags) ≡ min (2 ^ 127) total
    → now ≡ min (2 ^ 127) (tags + amount) → more ≡ total + amount
    → min (2 ^ 127) (pools + now) ≡ min (2 ^ 127) more
kept_tag_grant pools tags total amount now more e f g = grind arith
