-- Lost questions with their room.
use Rattle.std.specs.Prelude.{ℕ, List}
use Rattle.sq_machine.specs.Losses.{Loss}

-- the lost questions, and for how many there is room
pub record LostOnes : Type 0 where
  pub losses : List Loss
  pub room : ℕ
