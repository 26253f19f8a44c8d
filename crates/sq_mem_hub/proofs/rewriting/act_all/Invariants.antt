use Rattle.sq_mem_hub.specs.MemHubs.{WorksOn}
use Rattle.sq_mem_hub.proofs.rewriting.act_all.Given as goal

-- the rewriter went on by its processes
abbrev pub invariant-loop : goal.invariant-loop
invariant-loop g l = WorksOn l.fn.rewriter l.rewriter
