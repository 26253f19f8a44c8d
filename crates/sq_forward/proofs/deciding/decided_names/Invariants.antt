use Rattle.sq_forward.specs.Standings.{AreDecided}
use Rattle.sq_forward.proofs.deciding.decided_names.Given as goal

-- what was decided so far is right
abbrev pub invariant-loop-field : goal.invariant-loop-field
invariant-loop-field l = AreDecided l.config l.facts l.reply l.names.items
