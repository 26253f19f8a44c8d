use Rattle.std.proofs.Common.{length, ap, ◌∙◌, arith, subst, true, false}
use Rattle.sq_forward.specs.Halves.{Filled}
use Rattle.sq_forward.proofs.CopyLaws.{fed_at, fed_so, unfed_at, piece_unfed, piece_whole, piece_goes, piece_no_source, piece_no_room, piece_cut, all_used, passed}
use Rattle.sq_forward.proofs.copying.copy_piece.Goals as goal

pub returns-in-Err-clause-copies : goal.returns-in-Err-clause-copies
returns-in-Err-clause-copies g c = piece_unfed _ c.args.from.now.ahead (g.S.Source.left c.args.from.now.source) _
    c.in-Err.copied (unfed_at c.as_bytes.ensures.value c.in-Err.ensures.unfed)

pub returns-then-fed-clause-copies : goal.returns-then-fed-clause-copies
returns-then-fed-clause-copies g c =
    let left = g.S.Source.left in
    piece_whole c.args.from.now.ahead (left c.args.from.now.source) _
    (passed left c.args.from.now.ahead c.in-Ok.fed.used c.drop_front.ensures.ahead c.drop_front.ensures.source)
    (fed_at c.as_bytes.ensures.value (fed_so true c.if-fed.true c.in-Ok.ensures.fed))

pub returns-in-Ok-true-clause-copies : goal.returns-in-Ok-true-clause-copies
returns-in-Ok-true-clause-copies g c =
    let left = g.S.Source.left in
    piece_goes c.args.from.now.ahead (left c.args.from.now.source) _ _
    (passed left c.args.from.now.ahead c.in-Ok.fed.used c.drop_front.ensures.ahead c.drop_front.ensures.source)
    c.fill.ensures.kept
    (fed_at c.as_bytes.ensures.value (fed_so false c.if-fed.false c.in-Ok.ensures.fed))

pub returns-in-Ok-false-clause-copies : goal.returns-in-Ok-false-clause-copies
returns-in-Ok-false-clause-copies g c =
    let left = g.S.Source.left in
    let filled : Filled c.drop_front.new.self.ahead c.fill.new.from.ahead (left c.fill.new.from.source) false =
    subst (λ t. Filled c.drop_front.new.self.ahead c.fill.new.from.ahead (left c.fill.new.from.source) t)
    c.in-Ok-false.field-0-test c.in-Ok-false.ensures.filled in
    piece_cut c.args.from.now.ahead c.fill.new.from.ahead (left c.args.from.now.source) _ (left c.fill.new.from.source)
    (passed left c.args.from.now.ahead c.in-Ok.fed.used c.drop_front.ensures.ahead c.drop_front.ensures.source)
    c.fill.ensures.kept
    (filled.0 ∙ c.drop_front.ensures.ahead) filled.1
    (fed_at c.as_bytes.ensures.value (fed_so false c.if-fed.false c.in-Ok.ensures.fed))

pub returns-in-Err-Failed-clause-copies : goal.returns-in-Err-Failed-clause-copies
returns-in-Err-Failed-clause-copies g c =
    piece_no_source c.args.from.now.ahead (g.S.Source.left c.args.from.now.source) _
    (fed_at c.as_bytes.ensures.value (fed_so false c.if-fed.false c.in-Ok.ensures.fed))

pub returns-in-Err-WantOfMemory-clause-copies : goal.returns-in-Err-WantOfMemory-clause-copies
returns-in-Err-WantOfMemory-clause-copies g c =
    piece_no_room c.args.from.now.ahead (g.S.Source.left c.args.from.now.source) _
    (fed_at c.as_bytes.ensures.value (fed_so false c.if-fed.false c.in-Ok.ensures.fed))

pub returns-in-Ok-true-clause-few : goal.returns-in-Ok-true-clause-few
returns-in-Ok-true-clause-few g c =
    let none = all_used c.args.from.now.ahead
    (fed_at c.as_bytes.ensures.value (fed_so false c.if-fed.false c.in-Ok.ensures.fed)) in
    omega (arith, c.fill.ensures.few, ap length (c.drop_front.ensures.ahead ∙ none))

pub returns-in-Err-Failed-clause-few : goal.returns-in-Err-Failed-clause-few
returns-in-Err-Failed-clause-few g c =
    let none = all_used c.args.from.now.ahead
    (fed_at c.as_bytes.ensures.value (fed_so false c.if-fed.false c.in-Ok.ensures.fed)) in
    omega (arith, c.fill.ensures.few, ap length (c.drop_front.ensures.ahead ∙ none))

pub returns-in-Err-WantOfMemory-clause-few : goal.returns-in-Err-WantOfMemory-clause-few
returns-in-Err-WantOfMemory-clause-few g c =
    let none = all_used c.args.from.now.ahead
    (fed_at c.as_bytes.ensures.value (fed_so false c.if-fed.false c.in-Ok.ensures.fed)) in
    omega (arith, c.fill.ensures.few, ap length (c.drop_front.ensures.ahead ∙ none))

pub returns-in-Err-clause-cause : goal.returns-in-Err-clause-cause
returns-in-Err-clause-cause g c = c.in-Err.ensures.cause _ _
