use Rattle.std.proofs.Common.{refl}
use Rattle.sq_machine.specs.declared.entries.Event.TheVariants as event
use Rattle.sq_machine.specs.declared.entries.Told.TheVariants as told
use Rattle.sq_engine.specs.Lines.{got_told}
use Rattle.sq_mem_hub.proofs.CallLaws.{kept_by, unmade}
use Rattle.sq_mem_hub.proofs.WaitLaws.{waited_by}
use Rattle.sq_mem_hub.proofs.acting.give_line.Goals as goal

pub returns-in-Some : goal.returns-in-Some
returns-in-Some c =
    let made = c.line-got.ensures in
    record {
      waited = λ rewriter pools.
          waited_by got_told c.args.engine.now c.line-got.new.self rewriter pools c.args.moment
          (event.Line c.args.proc c.as_bytes.result.now) c.line-got.result refl refl (kept_by _ _ made.kept)
          made.promised made.err;
    }

pub returns-in-None : goal.returns-in-None
returns-in-None c =
    let made = c.died-died.ensures in
    record {
      waited = λ rewriter pools.
          waited_by (λ u. told.Fine) c.args.engine.now c.died-died.new.self rewriter pools c.args.moment
          (event.Died c.args.proc)
          c.died-died.result refl refl (kept_by _ _ made.kept) made.promised (unmade c.died-died.result _ _ made.err);
    }
