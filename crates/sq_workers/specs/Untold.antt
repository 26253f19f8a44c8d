-- What is seen of a front over a hub that tells nothing of its journal.
use Rattle.std.specs.Prelude.{ℕ, None}
use Rattle.sq_turns.specs.Pieces.{hub_seen}
use Rattle.sq_turns.specs.Steps.{FrontSeen}

-- the front of this connection, which stands for no answers, whatever was refused
abbrev pub front_untold : ℕ → FrontSeen
front_untold conn = hub_seen conn None 0 None 0
