-- The entries of a journal in memory, seen from the newest.
use Rattle.std.proofs.Common.{◌≡◌, List, [], ◌∷◌, ◌++◌, reverse, ap, ◌∙◌}
use Rattle.std.proofs.lemmas.List.{reverse-append}
use Rattle.sq_machine.specs.Entries.{Noted}

-- an entry at the end is the newest
pub newest_first : (old new : List Noted) (e : Noted) → new ≡ old ++ e ∷ [] → reverse new ≡ e ∷ reverse old
newest_first old new e is = ap reverse is ∙ reverse-append old (e ∷ [])
