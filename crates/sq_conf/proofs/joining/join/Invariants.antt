use Rattle.std.proofs.Common.{◌≡◌, ◌+◌, drop}
use Rattle.sq_conf.proofs.JoinLaws.{JoinedSoFar}
use Rattle.sq_conf.proofs.joining.join.Given as goal

abbrev pub invariant-loop-line : goal.invariant-loop-line
invariant-loop-line l = JoinedSoFar l.all l.first l.front l.next (drop l.line-index l.lines) l.lines
    × (l.next ≡ l.line-index + 1)
