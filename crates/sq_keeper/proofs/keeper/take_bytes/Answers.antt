use Rattle.std.proofs.Common.{◌≡◌, ◌∙◌, ◌+◌, ◌++◌, ◌∷◌, [], refl, sym, ap, subst, arith, false, append_assoc, append-nil, add-one, take, drop, get_or, drop-cons, take-append-drop}
use Rattle.std.proofs.Math.Seq.{take-suc}
use Rattle.sq_keeper.specs.Handing.{Adds}
use Rattle.sq_keeper.specs.Walk.{walk_line, walk_handed, step_handed, closing}
use Rattle.sq_keeper.proofs.AddLaws.{adds_none, adds_more}
use Rattle.sq_keeper.proofs.WalkLaws.{walk_none, line_none, one_more_handed, one_more_line}
use Rattle.sq_keeper.proofs.keeper.take_bytes.Goals as goal

pub loop-byte-init : goal.loop-byte-init
loop-byte-init g c =
    let told = g.K.LineDesk.handed c.args.desk.now in
    record {
      adds = subst (Adds told told) (sym (walk_none c.args.proc c.args.line.now)) (adds_none told);
      line = sym (line_none c.args.line.now);
      later = omega arith;
      passes = g.met.K.LineDesk.still c.args.desk.now;
    }

pub returns-then-not-take_byte-clause-walks : goal.returns-then-not-take_byte-clause-walks
returns-then-not-take_byte-clause-walks g c =
    let bytes = c.args.bytes.now in
    let i = c.loop-byte.byte-index in
    let b = get_or bytes i 0 in
    let before = c.args.line.now in
    let front = take i bytes in
    let old = g.K.LineDesk.handed c.args.desk.now in
    let new = g.K.LineDesk.handed c.take_byte.new.desk in
    let cons : drop i bytes ≡ b ∷ drop (i + 1) bytes = rw (add-one) (drop-cons bytes i 0 c.loop-byte-test.true) in
    let end : b ≡ 10 = c.if-not-take_byte.ensures.ended refl in
    let all = adds_more old (g.K.LineDesk.handed c.loop-byte.desk) new _ _ c.loop-byte.invariant.adds
    c.if-not-take_byte.ensures.adds in
    let shape = one_more_handed c.args.proc before c.loop-byte.line front b c.loop-byte.invariant.line in (
      front,
      drop (i + 1) bytes,
      sym (take-append-drop i bytes) ∙ ap (λ l. front ++ l) cons ∙ ap (λ x. front ++ x ∷ drop (i + 1) bytes) end,
      subst (λ x. Adds old new (walk_handed c.args.proc before (front ++ x ∷ []) ++ closing c.args.proc false)) end
          (subst (Adds old new) (sym (append_assoc _ _ (closing c.args.proc false))
          ∙ ap (λ l. l ++ closing c.args.proc false) shape) all),
    )

pub loop-byte-preserved : goal.loop-byte-preserved
loop-byte-preserved g c =
    let bytes = c.args.bytes.now in
    let i = c.loop-byte.byte-index in
    let b = get_or bytes i 0 in
    let before = c.args.line.now in
    let front = take i bytes in
    let old = g.K.LineDesk.handed c.args.desk.now in
    let new = g.K.LineDesk.handed c.take_byte.new.desk in
    let longer : front ++ b ∷ [] ≡ take (i + 1) bytes = rw (add-one) (sym (take-suc bytes i 0 c.loop-byte-test.true)) in
    let all = adds_more old (g.K.LineDesk.handed c.loop-byte.desk) new _ _ c.loop-byte.invariant.adds
    c.if-not-take_byte.ensures.adds in
    let shape = one_more_handed c.args.proc before c.loop-byte.line front b c.loop-byte.invariant.line in
    record {
      adds = subst (Adds old new)
          (ap (λ l. walk_handed c.args.proc before front ++ l) (append-nil (step_handed c.args.proc c.loop-byte.line b))
          ∙ shape ∙ ap (walk_handed c.args.proc before) longer) all;
      line = c.take_byte.ensures.line ∙ one_more_line before c.loop-byte.line front b c.loop-byte.invariant.line
          ∙ ap (walk_line before) longer;
      later = omega arith;
      passes = g.met.K.LineDesk.further _ c.loop-byte.desk _ c.loop-byte.invariant.passes
          c.if-not-take_byte.ensures.passes;
    }
