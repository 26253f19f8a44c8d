use Rattle.std.proofs.Common.{◌≡◌, ℕ, List, IfSome}
use Rattle.sq_forward.specs.Standings.{standing_at}
use Rattle.sq_forward.specs.declared.standing.Standing.TheVariants.{Unnamed}
use Rattle.sq_forward.proofs.access_table.names_of.Given as goal

-- no rule came for any name so far
abbrev pub invariant-loop-field : goal.invariant-loop-field
invariant-loop-field l = (key : List ℕ) → IfSome (standing_at l.table key) (λ s. s ≡ Unnamed)
