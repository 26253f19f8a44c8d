use Rattle.std.proofs.Common.{◌∙◌, ap, sym}
use Rattle.sq_engine.specs.Lines.{all_given}
use Rattle.sq_engine.proofs.GiveLaws.{given_last}
use Rattle.sq_engine.proofs.lines.give.Goals as goal

pub loop-share-preserved : goal.loop-share-preserved
loop-share-preserved c =
    let q = c.args.question in
    let now = c.args.now in
    ap (all_given q now c.pop.new.self.items) c.serve.ensures
    ∙ sym (given_last q now c.pop.new.self.items c.in-Some.share c.loop-share.checks)
    ∙ ap (λ xs. all_given q now xs c.loop-share.checks) (sym c.in-Some.ensures.items) ∙ c.loop-share.invariant
