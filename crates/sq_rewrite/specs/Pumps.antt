-- What a pump of a rewriter holds.
use Rattle.std.specs.Prelude.{ℕ, List}
use Rattle.std.specs.declared.option.Option.{Option}
use Rattle.sq_outside.specs.World.{Starts}
use Rattle.sq_keeper.specs.declared.pipes.Pipe.{Pipe}
use Rattle.sq_rewrite.specs.States.{RewriteState}
use Rattle.sq_rewrite.specs.declared.turns.RewriterTurn.{RewriterTurn}
use Rattle.sq_rewrite.specs.declared.turns.StartedHalves.{StartedHalves}
use Rattle.sq_rewrite.specs.declared.unread.UnreadHalf.{UnreadHalf}

-- what its rewriter tells; the words of the program; of the spawner: the words of the starts that
-- were made, where they are told, and how often it failed; the halves of processes that are written
-- to, those that are read and that no keeper has, for how many more of these there is room, and the
-- process that an earlier turn started and could not note
pub record RewritePumpView (P Q : Type 0) : Type 0 where
  pub told : Option RewriteState
  pub words : List (List ℕ)
  pub starts : Starts
  pub faults : ℕ
  pub pipes : List (Pipe Q)
  pub readers : List (UnreadHalf P)
  pub room : ℕ
  pub left : Option (StartedHalves P Q)

-- what is seen of a pump round a call of it: at which moment it is, the pump before, what the call
-- answered, and the pump after
pub record RewriteStep (P Q : Type 0) : Type 0 where
  pub moment : ℕ
  pub before : RewritePumpView P Q
  pub result : RewriterTurn
  pub now : RewritePumpView P Q

abbrev pub step : {P Q : Type 0} → ℕ → RewritePumpView P Q → RewriterTurn → RewritePumpView P Q
    → RewriteStep P Q
step moment before result now = record {
  moment = moment;
  before = before;
  result = result;
  now = now;
}
