use Rattle.std.proofs.Common.{refl, sym}
use Rattle.sq_mem_hub.proofs.WaitLaws.{works_act, works_on_before, works_on_same, works_on_then}
use Rattle.sq_mem_hub.proofs.rewriting.act_all.Goals as goal

pub loop-init : goal.loop-init
loop-init g c = works_on_same _ _ refl

pub loop-preserved : goal.loop-preserved
loop-preserved g c =
    let acted = works_act c.in-Some-act.act c.loop.rewriter c.act.new.self (sym c.in-Some-act.ensures.due)
    c.in-Some-act.ensures.some in
    works_on_then _ _ _ (works_on_then _ _ _ c.loop.invariant acted) c.perform.ensures.works

pub returns-in-None-act : goal.returns-in-None-act
returns-in-None-act g c = record { works = works_on_before _ _ _ c.in-None-act.ensures.none c.loop.invariant }
