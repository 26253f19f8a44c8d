use Rattle.std.proofs.Common.{◌≡◌, ℕ, List, false, take}
use Rattle.sq_message.specs.Marks.{mark_of, marked_if, names_some}
use Rattle.sq_message.proofs.listing.names_of.Given as goal

-- the names of the fields so far
abbrev pub invariant-loop-field : goal.invariant-loop-field
invariant-loop-field l = (name : List ℕ)
    → mark_of l.marks name ≡ marked_if (names_some (take l.field-index l.fields) name) false
