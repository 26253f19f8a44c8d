use Rattle.std.proofs.Common.{refl}
use Rattle.sq_rewrite.specs.Calls.{Died, Wrote}
use Rattle.sq_mem_hub.proofs.WaitLaws.{works_call, works_done}
use Rattle.sq_mem_hub.proofs.rewriting.give_line.Goals as goal

pub returns-in-Some : goal.returns-in-Some
returns-in-Some c =
    let made = c.line-got.ensures in
    record {
      works = works_call (Wrote c.args.proc c.as_bytes.result.now) c.line-got.result _ _ (λ g. refl) made.answers
          made.ok
          made.err;
    }

pub returns-in-None : goal.returns-in-None
returns-in-None c =
    let made = c.died-died.ensures in
    record { works = works_done (Died c.args.proc) c.died-died.result _ _ refl made.answers made.ok made.err }
