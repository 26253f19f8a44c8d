use Rattle.std.proofs.Common.{◌≡◌, ◌∙◌, ◌+◌, ◌++◌, ◌∷◌, [], refl, sym, ap, subst, arith, false, true, append_assoc, append-nil, add-one, take, drop, get_or, drop-cons, take-append-drop}
use Rattle.std.proofs.Math.Seq.{take-suc}
use Rattle.sq_dst.proofs.AnswerLaws.{hands_more, hands_none}
use Rattle.sq_dst.specs.AnsweredLines.{HandsAnswers, answer_step}
use Rattle.sq_keeper.proofs.WalkLaws.{walk_none, line_none, one_more_handed, one_more_line}
use Rattle.sq_keeper.specs.Walk.{closing, step_handed, walk_handed, walk_line}
use Rattle.sq_dst.proofs.answering.take_bytes.Goals as goal

pub loop-byte-init : goal.loop-byte-init
loop-byte-init g c =
    let told = g.K.LineDesk.handed c.args.desk.now in
    let names = g.Q.Resolver.names c.args.resolver.now in
    let faults = g.Q.Resolver.faults c.args.resolver.now in
    record {
      hands = subst (HandsAnswers c.args.config.now (answer_step names faults faults told told))
          (sym (walk_none c.args.proc c.args.line.now)) (hands_none c.args.config.now names faults told);
      names = refl;
      looks = omega arith;
      line = sym (line_none c.args.line.now);
      later = omega arith;
      passes = g.met.K.LineDesk.still c.args.desk.now;
    }

pub returns-then-not-take_byte-clause-walks : goal.returns-then-not-take_byte-clause-walks
returns-then-not-take_byte-clause-walks g c =
    let config = c.args.config.now in
    let names = g.Q.Resolver.names c.args.resolver.now in
    let x = g.Q.Resolver.faults c.args.resolver.now in
    let y = g.Q.Resolver.faults c.loop-byte.resolver in
    let z = g.Q.Resolver.faults c.take_byte.new.resolver in
    let bytes = c.args.bytes.now in
    let i = c.loop-byte.byte-index in
    let b = get_or bytes i 0 in
    let before = c.args.line.now in
    let front = take i bytes in
    let old = g.K.LineDesk.handed c.args.desk.now in
    let now = g.K.LineDesk.handed c.loop-byte.desk in
    let new = g.K.LineDesk.handed c.take_byte.new.desk in
    let cons : drop i bytes ≡ b ∷ drop (i + 1) bytes = rw (add-one) (drop-cons bytes i 0 c.loop-byte-test.true) in
    let end : b ≡ 10 = c.if-not-take_byte.ensures.ended refl in
    let one = subst (λ n. HandsAnswers config (answer_step n y z now new)
    (step_handed c.args.proc c.loop-byte.line b ++ closing c.args.proc false))
    c.loop-byte.invariant.names c.if-not-take_byte.ensures.hands in
    let all = hands_more config names x y z old now new _ _ c.loop-byte.invariant.hands one in
    let shape = one_more_handed c.args.proc before c.loop-byte.line front b c.loop-byte.invariant.line in (
      front,
      drop (i + 1) bytes,
      sym (take-append-drop i bytes) ∙ ap (λ l. front ++ l) cons ∙ ap (λ t. front ++ t ∷ drop (i + 1) bytes) end,
      subst (λ t. HandsAnswers config (answer_step names x z old new)
          (walk_handed c.args.proc before (front ++ t ∷ []) ++ closing c.args.proc false)) end
          (subst (HandsAnswers config (answer_step names x z old new))
          (sym (append_assoc _ _ (closing c.args.proc false)) ∙ ap (λ l. l ++ closing c.args.proc false) shape) all),
    )

pub loop-byte-preserved : goal.loop-byte-preserved
loop-byte-preserved g c =
    let config = c.args.config.now in
    let names = g.Q.Resolver.names c.args.resolver.now in
    let x = g.Q.Resolver.faults c.args.resolver.now in
    let y = g.Q.Resolver.faults c.loop-byte.resolver in
    let z = g.Q.Resolver.faults c.take_byte.new.resolver in
    let bytes = c.args.bytes.now in
    let i = c.loop-byte.byte-index in
    let b = get_or bytes i 0 in
    let before = c.args.line.now in
    let front = take i bytes in
    let old = g.K.LineDesk.handed c.args.desk.now in
    let now = g.K.LineDesk.handed c.loop-byte.desk in
    let new = g.K.LineDesk.handed c.take_byte.new.desk in
    let longer : front ++ b ∷ [] ≡ take (i + 1) bytes = rw (add-one) (sym (take-suc bytes i 0 c.loop-byte-test.true)) in
    let one = subst (λ n. HandsAnswers config (answer_step n y z now new)
    (step_handed c.args.proc c.loop-byte.line b ++ closing c.args.proc true))
    c.loop-byte.invariant.names c.if-not-take_byte.ensures.hands in
    let all = hands_more config names x y z old now new _ _ c.loop-byte.invariant.hands one in
    let shape = one_more_handed c.args.proc before c.loop-byte.line front b c.loop-byte.invariant.line in
    record {
      hands = subst (HandsAnswers config (answer_step names x z old new))
          (ap (λ l. walk_handed c.args.proc before front ++ l) (append-nil (step_handed c.args.proc c.loop-byte.line b))
          ∙ shape ∙ ap (walk_handed c.args.proc before) longer) all;
      names = c.take_byte.ensures.names ∙ c.loop-byte.invariant.names;
      looks = omega arith;
      line = c.take_byte.ensures.line ∙ one_more_line before c.loop-byte.line front b c.loop-byte.invariant.line
          ∙ ap (walk_line before) longer;
      later = omega arith;
      passes = g.met.K.LineDesk.further _ c.loop-byte.desk _ c.loop-byte.invariant.passes
          c.if-not-take_byte.ensures.passes;
    }
