use Rattle.sq_checks.specs.GivenValues.{left_in}
use Rattle.sq_checks.specs.Standing.{looks_in}
use Rattle.sq_checks.specs.Givens.{AreFrames}
use Rattle.sq_checks.proofs.GivenLaws.{AreGoing}
use Rattle.sq_checks.proofs.going.come_to.Given as goal

-- the frames were given what the answers give, and the looks so far are counted
abbrev pub invariant-needs : goal.invariant-needs
invariant-needs g l = record {
  frames : AreFrames l.config l.sight l.answers l.facts l.frames;
  going : AreGoing l.facts l.frames l.fn.steps l.steps (looks_in l.fn.frames);
}

abbrev pub decreases-needs : goal.decreases-needs
decreases-needs g l = left_in l.frames.table
