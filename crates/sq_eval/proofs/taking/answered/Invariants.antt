use Rattle.std.proofs.Common.{◌≡◌, drop}
use Rattle.sq_rules.specs.Values.{answer_for}
use Rattle.sq_eval.proofs.taking.answered.Given as goal

-- no answer so far is for the key
abbrev pub invariant-loop-answer : goal.invariant-loop-answer
invariant-loop-answer l = answer_for (drop l.answer-index l.answers) l.class l.fn.key
    ≡ answer_for l.answers l.class l.fn.key
