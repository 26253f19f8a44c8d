use Rattle.sq_mem_hub.proofs.WaitLaws.{works_on_before, works_on_same}
use Rattle.sq_mem_hub.proofs.rewriting.perform.Goals as goal
use Rattle.sq_mem_hub.proofs.rewriting.perform.Goals.{in-Stop, in-Send, in-Start}

pub returns : goal.returns
returns c = record {
  works = elim c.match-act.branch [
    | in-Stop w ↦ works_on_same _ _ w.rewriter-is
    | in-Send w ↦ works_on_same _ _ w.rewriter-is
    | in-Start w ↦ works_on_before _ _ _ w.rewriter-is w.start.ensures.works
  ];
}
