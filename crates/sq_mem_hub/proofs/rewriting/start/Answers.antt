use Rattle.std.proofs.Common.{refl}
use Rattle.sq_rewrite.specs.Calls.{Started}
use Rattle.sq_mem_hub.proofs.WaitLaws.{works_call}
use Rattle.sq_mem_hub.proofs.rewriting.start.Goals as goal

pub returns : goal.returns
returns c =
    let made = c.started-proc.ensures in
    record { works = works_call Started c.started-proc.result _ _ (λ k. refl) made.answers made.ok made.err }
