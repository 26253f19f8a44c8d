use Rattle.std.proofs.Common.{◌∙◌, sym, ap, append-nil, Some}
use Rattle.sq_base.specs.Replies.{pairs_of, in_front}
use Rattle.sq_reply.specs.Words.{found, pairs_of_one}
use Rattle.sq_reply.proofs.WordLaws.{in_front_append, pairs_next, pairs_stop, pairs_end, piece_less}
use Rattle.sq_reply.proofs.pairs.take_pairs.Goals as goal

pub returns-in_default : goal.returns-in_default
returns-in_default c =
    let rest = c.loop-rest.rest.now in
    let none = pairs_stop rest (sym c.is_empty.ensures ∙ c.loop-rest-test.true) (sym c.in_default.ensures) in
    sym c.loop-rest.invariant ∙ ap (in_front c.loop-rest.pairs) none

pub loop-rest-smaller : goal.loop-rest-smaller
loop-rest-smaller c = piece_less c.loop-rest.rest.now (found c.in-Some.next) (sym c.in-Some.ensures)

pub loop-rest-preserved : goal.loop-rest-preserved
loop-rest-preserved c =
    let next = c.in-Some.next in
    let more = pairs_of next.rest.now in
    let step = pairs_next c.loop-rest.rest.now (found next) (sym c.in-Some.ensures) in
    ap (λ ps. in_front ps more) c.in_ok-put_pair.ensures
    ∙ sym (in_front_append c.loop-rest.pairs (pairs_of_one next.pair) more)
    ∙ sym (ap (in_front c.loop-rest.pairs) step) ∙ c.loop-rest.invariant

pub returns : goal.returns
returns c =
    let none = pairs_end c.loop-rest.rest.now (sym c.is_empty.ensures ∙ c.loop-rest-test.false) in
    sym c.loop-rest.invariant ∙ ap (in_front c.loop-rest.pairs) none ∙ ap (λ ps. Some ps) (append-nil c.loop-rest.pairs)
