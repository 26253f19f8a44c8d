use Rattle.std.proofs.Common.{◌∙◌, ap, sym, length, arith}
use Rattle.sq_machine.specs.Farms.{Stock}
use Rattle.sq_machine.specs.Losses.{later_lost}
use Rattle.sq_rewrite.specs.States.{lost_rows}
use Rattle.sq_rewrite.proofs.LostLaws.{hand_end, hand_fewer, hand_step, without_losses}
use Rattle.sq_rewrite.proofs.rewriters.hand_out.Goals as goal

pub loop-loss-preserved : goal.loop-loss-preserved
loop-loss-preserved c =
    let old = c.loop-loss in
    record {
      rows = ap (λ (v : Stock). lost_rows v.losses c.end.new.self) c.next_lost.ensures.value
          ∙ ap (lost_rows (later_lost old.farm.losses)) c.end.ensures
          ∙ hand_step c.in-Some.loss.0 c.in-Some.loss.1 old.farm.losses old.questions (sym c.in-Some.ensures.lost)
          ∙ old.invariant.rows;
      stock = ap without_losses c.next_lost.ensures.value ∙ old.invariant.stock;
    }

pub loop-loss-smaller : goal.loop-loss-smaller
loop-loss-smaller c =
    let fewer = hand_fewer c.in-Some.loss.0 c.in-Some.loss.1 c.loop-loss.farm.losses (sym c.in-Some.ensures.lost) in
    let is = ap (λ (v : Stock). length v.losses) c.next_lost.ensures.value in
    grind (arith, fewer, is)

pub returns-clause-farm : goal.returns-clause-farm
returns-clause-farm c =
    c.next_lost.ensures.value
    ∙ ap (λ ls. let v : Stock = record c.loop-loss.farm { losses = later_lost ls } in v)
    (hand_end c.loop-loss.farm.losses (sym c.in_default.ensures.lost)) ∙ c.loop-loss.invariant.stock

pub returns-clause-questions : goal.returns-clause-questions
returns-clause-questions c =
    sym (ap (λ ls. lost_rows ls c.loop-loss.questions)
    (hand_end c.loop-loss.farm.losses (sym c.in_default.ensures.lost))) ∙ c.loop-loss.invariant.rows
