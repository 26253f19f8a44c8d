use Rattle.std.proofs.Common.{◌≡◌, ℕ, ◌<◌, get_or}
use Rattle.sq_base.specs.declared.requests.Field.{Field}
use Rattle.sq_turns.proofs.same.same_list.Given as goal

-- the fields before this place are the same
abbrev pub invariant-loop-i : goal.invariant-loop-i
invariant-loop-i l = (k : ℕ) (d : Field) → k < l.i → get_or l.one k d ≡ get_or l.other k d
