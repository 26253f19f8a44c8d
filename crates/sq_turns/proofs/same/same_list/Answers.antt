use Rattle.std.proofs.Common.{refl, arith}
use Rattle.std.proofs.lemmas.List.{same_lists}
use Rattle.sq_turns.proofs.SameLaws.{next_same, differs}
use Rattle.sq_turns.proofs.same.same_list.Goals as goal

pub loop-i-init : goal.loop-i-init
loop-i-init c = λ k d below. absurd (omega (arith, below))

pub loop-i-preserved : goal.loop-i-preserved
loop-i-preserved c =
    next_same c.args.one.now c.args.other.now c.loop-i.i c.index-one-i.result c.index-other-i.result (omega arith)
    (omega arith) c.index-one-i.is c.index-other-i.is (c.same_field.ensures.0 c.if-not-same_field.false)
    c.loop-i.invariant

pub returns-then-not-same_field : goal.returns-then-not-same_field
returns-then-not-same_field c =
    differs c.args.one.now c.args.other.now c.loop-i.i c.index-one-i.result c.index-other-i.result c.same_field.result
    (omega arith) c.index-one-i.is c.index-other-i.is c.same_field.ensures.1 c.if-not-same_field.true

pub returns : goal.returns
returns c = (
  λ _. same_lists c.args.one.now c.args.other.now (omega arith)
      (λ k d below. c.loop-i.invariant k d (omega (arith, below))),
  λ _. refl,
)
