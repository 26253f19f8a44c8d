use Rattle.std.proofs.Common.{ℕ, List, map, take}
use Rattle.std.specs.Borrow.{Bor}
use Rattle.sq_message.specs.Marks.{IsMarked}
use Rattle.sq_message.proofs.listing.telling.Given as goal

-- what is kept tells what the options so far tell
abbrev pub invariant-loop-option : goal.invariant-loop-option
invariant-loop-option l =
    IsMarked l.fn.fields l.marks (map (λ (o : Bor (List ℕ)). o.now) l.kept.items)
    (map (λ (o : Bor (List ℕ)). o.now) (take l.option-index l.fn.options.items))
