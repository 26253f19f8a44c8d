use Rattle.std.proofs.Common.{ap, ◌∙◌}
use Rattle.sq_message.specs.declared.body_state.BodyState.TheVariants.{Line}
use Rattle.sq_message.specs.Feeding.{is_sound}
use Rattle.sq_message.proofs.TakeLaws.{holds_fresh}
use Rattle.sq_message.proofs.cursor.BodyCursor.new.Goals as goal
use Rattle.sq_message.proofs.cursor.BodyCursor.new.Goals.{in-None, in-Length, in-Chunked, in-ToClose}

pub invariant_of-result : goal.invariant_of-result
invariant_of-result c =
    elim c.match-plan.branch [
      | in-None w ↦ ap is_sound w.place-is
      | in-Length w ↦ ap is_sound w.place-is
      | in-Chunked w ↦ ap is_sound (w.place-is ∙ ap Line w.new.ensures) ∙ holds_fresh
      | in-ToClose w ↦ ap is_sound w.place-is
    ]
