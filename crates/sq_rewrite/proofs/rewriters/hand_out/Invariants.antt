use Rattle.std.proofs.Common.{◌≡◌, length}
use Rattle.sq_rewrite.specs.States.{lost_rows}
use Rattle.sq_rewrite.proofs.LostLaws.{without_losses}
use Rattle.sq_rewrite.proofs.rewriters.hand_out.Given as goal

abbrev pub decreases-loop-loss : goal.decreases-loop-loss
decreases-loop-loss l = length l.farm.losses

-- what is left to hand out comes to the same
abbrev pub invariant-loop-loss : goal.invariant-loop-loss
invariant-loop-loss l = record {
  rows : lost_rows l.farm.losses l.questions ≡ lost_rows l.fn.farm.losses l.fn.questions;
  stock : without_losses l.farm ≡ without_losses l.fn.farm;
}
