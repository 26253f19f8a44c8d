use Rattle.std.proofs.Common.{◌∙◌, ◌||◌, sym, ap}
use Rattle.sq_base.specs.Replies.{pairs_of}
use Rattle.sq_reply.specs.Words.{found, pairs_of_one}
use Rattle.sq_reply.proofs.WordLaws.{any_with, any_with_in_front, any_with_none, any_of_one, pairs_next, pairs_stop, pairs_end, piece_less}
use Rattle.sq_reply.proofs.pairs.has_pairs.Goals as goal

pub returns-in_err-next : goal.returns-in_err-next
returns-in_err-next c =
    let rest = c.loop-rest.rest.now in
    let none = pairs_stop rest (sym c.is_empty.ensures ∙ c.loop-rest-test.true) (sym c.in_err-next.ensures) in
    c.from_residual.ensures ∙ sym (ap (any_with c.loop-rest.any) none) ∙ c.loop-rest.invariant

pub loop-rest-smaller : goal.loop-rest-smaller
loop-rest-smaller c = piece_less c.loop-rest.rest.now (found c.in_ok-next.next) (sym c.in_ok-next.ensures)

pub loop-rest-preserved : goal.loop-rest-preserved
loop-rest-preserved c =
    let any = c.loop-rest.any in
    let next = c.in_ok-next.next in
    let more = pairs_of next.rest.now in
    let step = pairs_next c.loop-rest.rest.now (found next) (sym c.in_ok-next.ensures) in
    let one = any_of_one next.pair ∙ sym c.is_some-any.ensures in
    sym (ap (λ t. any_with (any || t) more) one) ∙ sym (any_with_in_front any (pairs_of_one next.pair) more)
    ∙ sym (ap (any_with any) step) ∙ c.loop-rest.invariant

pub returns : goal.returns
returns c =
    let none = pairs_end c.loop-rest.rest.now (sym c.is_empty.ensures ∙ c.loop-rest-test.false) in
    sym (any_with_none c.loop-rest.any) ∙ sym (ap (any_with c.loop-rest.any) none) ∙ c.loop-rest.invariant
