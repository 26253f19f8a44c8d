use Rattle.sq_machine.specs.declared.entries.Told.TheVariants as told
use Rattle.sq_mem_hub.proofs.CallLaws.{kept_same, unmade}
use Rattle.sq_mem_hub.proofs.WaitLaws.{waited_start}
use Rattle.sq_mem_hub.proofs.acting.start.Goals as goal

pub returns : goal.returns
returns c =
    let made = c.started-proc.ensures in
    record {
      waited = λ rewriter pools.
          waited_start told.Proc c.args.engine.now c.started-proc.new.self rewriter pools c.args.moment
          (record { epoch = c.args.epoch; class = c.args.class }) c.started-proc.result
          (kept_same _ _ made.checks) made.promised (unmade c.started-proc.result _ _ made.err);
    }
