use Rattle.std.proofs.Common.{◌≡◌, ◌+◌, ◌∙◌, Some, sym, subst}
use Rattle.sq_request.proofs.EndLaws.{LeavesEnd, leaves_all, no_end, end_here, line_begins, stays}
use Rattle.sq_request.proofs.WholeLaws.{whole_front}
use Rattle.sq_request.specs.Endings.{head_end}
use Rattle.sq_request.proofs.ending.head_end.Goals as goal
use Rattle.sq_request.proofs.ending.head_end.Goals.{then-not-is_empty_line, else-not-is_empty_line+else-begun}

pub loop-len-init : goal.loop-len-init
loop-len-init c = leaves_all c.args.bytes.now

-- the end that was found
found : (c : goal.Then-begun) → head_end c.args.bytes.now ≡ Some (c.loop-len.passed + (c.in-Some.len + 1))
found c =
    let h = subst (λ b. LeavesEnd c.loop-len.passed b c.loop-len.rest.now c.args.bytes.now) c.if-begun.true
    c.loop-len.invariant in
    end_here c.loop-len.passed c.in-Some.len c.loop-len.rest.now c.args.bytes.now h (sym c.in-Some.ensures.first)
    c.in-Some.ensures.bound (sym c.is_empty_line.ensures ∙ c.if-not-is_empty_line.false)

pub returns-then-begun-clause-place : goal.returns-then-begun-clause-place
returns-then-begun-clause-place c = sym (found c)

pub returns-then-begun-clause-whole : goal.returns-then-begun-clause-whole
returns-then-begun-clause-whole c = whole_front c.args.bytes.now (Some (c.loop-len.passed + (c.in-Some.len + 1)))
    (found c)

pub loop-len-preserved : goal.loop-len-preserved
loop-len-preserved c =
    elim c.if-not-is_empty_line.branch [
      | then-not-is_empty_line w ↦
          line_begins c.loop-len.passed c.in-Some.len c.loop-len.begun c.if-not-is_empty_line.begun c.loop-len.rest.now
          c.args.bytes.now c.loop-len.invariant
          (sym c.in-Some.ensures.first) c.in-Some.ensures.bound
          (sym c.is_empty_line.ensures ∙ w.if-not-is_empty_line.true) w.begun-is
      | else-not-is_empty_line+else-begun w ↦
          stays c.loop-len.passed c.in-Some.len c.loop-len.begun c.if-not-is_empty_line.begun c.loop-len.rest.now
          c.args.bytes.now c.loop-len.invariant
          (sym c.in-Some.ensures.first) c.in-Some.ensures.bound
          (sym c.is_empty_line.ensures ∙ w.if-not-is_empty_line.false) w.if-begun.false w.begun-is
    ]

pub returns-clause-place : goal.returns-clause-place
returns-clause-place c = sym
    (no_end c.loop-len.passed c.loop-len.begun c.loop-len.rest.now c.args.bytes.now c.loop-len.invariant
    (sym c.in_default.ensures.first))
