-- What is said of a link that came of a listener behind its lock.
use Rattle.std.specs.Prelude.{ℕ, List}
use Rattle.std.specs.declared.option.Option.{Option}
use Rattle.sq_base.specs.Addresses.{Address}
use Rattle.sq_outside.specs.Dials.{Coming, LinkComes}

-- the link is the one that came between two states of a listener, which tells so much of them
abbrev pub ComesFrom : {L : Type 0} → (L → Option (List Coming)) → Address → ℕ → Option (List ℕ)
    → Option (List ℕ) → Type 0
ComesFrom {L} coming addr port left written = (before : L) × (now : L)
    × LinkComes (coming before) (coming now) addr port left written
