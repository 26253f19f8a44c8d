use Rattle.std.proofs.Common.{◌≡◌, take, subst, ap, ◌∙◌}
use Rattle.std.specs.Io.KnownBytes.{prepend_known}
use Rattle.sq_request.specs.Endings.{head_end}
use Rattle.sq_message.specs.ReplyHeads.{HasReply, RefusesReply}
use Rattle.sq_message.specs.declared.faults.ReplyHeadFault.TheVariants as fault
use Rattle.sq_message.specs.declared.replies.ReplyHead.{ReplyHead}
use Rattle.sq_forward.proofs.CopyLaws.{passed}
use Rattle.sq_forward.specs.Heads.{IsTooLarge}
use Rattle.sq_forward.proofs.HeadLaws.{missing_by, missing_large, missing_end, missing_ahead, taken_head}
use Rattle.sq_forward.proofs.replies.take_head.Goals as goal

pub returns-in-TooLarge-clause-takes : goal.returns-in-TooLarge-clause-takes
returns-in-TooLarge-clause-takes g c =
    let left = g.P.Source.left in
    missing_by (prepend_known c.args.origin.now.ahead (left c.args.origin.now.source))
    (prepend_known c.find_head.new.from.ahead (left c.find_head.new.from.source)) IsTooLarge
    c.find_head.ensures.kept c.in-TooLarge.ensures.found missing_large

pub returns-in-Ended-clause-takes : goal.returns-in-Ended-clause-takes
returns-in-Ended-clause-takes g c =
    let left = g.P.Source.left in
    let ahead = c.find_head.new.from.ahead in
    missing_by (prepend_known c.args.origin.now.ahead (left c.args.origin.now.source))
    (prepend_known ahead (left c.find_head.new.from.source)) (λ bytes. bytes ≡ ahead)
    c.find_head.ensures.kept c.in-Ended.ensures.found.2
    (λ bytes e. missing_end bytes (ap head_end e ∙ c.in-Ended.ensures.found.0))

pub returns-in-Err-BadHead-clause-takes : goal.returns-in-Err-BadHead-clause-takes
returns-in-Err-BadHead-clause-takes g c =
    let left = g.P.Source.left in
    let ahead = c.find_head.new.from.ahead in
    let len = c.in-Whole.len in
    let found = c.in-Whole.ensures.found in
    let head = c.split_at.result.0.now in
    let front : head ≡ take len ahead = c.split_at.ensures.front ∙ ap (take len) c.as_bytes.ensures.value in
    let is_it : c.in-Err-BadHead.field-0 ≡ fault.BadHead = c.in-Err-BadHead.field-0-is in
    let bad : RefusesReply head fault.BadHead = subst (RefusesReply head) is_it c.in-Err-BadHead.ensures.refused in
    missing_ahead (prepend_known c.args.origin.now.ahead (left c.args.origin.now.source)) ahead
    (left c.find_head.new.from.source) len
    c.find_head.ensures.kept found.0 found.1 (subst (λ l. RefusesReply l fault.BadHead) front bad)

pub returns-clause-takes : goal.returns-clause-takes
returns-clause-takes g c =
    let left = g.P.Source.left in
    let ahead = c.find_head.new.from.ahead in
    let len = c.in-Whole.len in
    let found = c.in-Whole.ensures.found in
    let head = c.split_at.result.0.now in
    let front : head ≡ take len ahead = c.split_at.ensures.front ∙ ap (take len) c.as_bytes.ensures.value in
    taken_head (prepend_known c.args.origin.now.ahead (left c.args.origin.now.source)) ahead
    (left c.find_head.new.from.source) (prepend_known c.drop_front.new.self.ahead (left c.drop_front.new.self.source))
    len c.in-Ok.head
    c.find_head.ensures.kept found.0 found.1 found.3 (subst (λ l. HasReply l c.in-Ok.head) front c.in-Ok.ensures.read)
    (subst (λ l. (a b : ReplyHead) → HasReply l a → HasReply l b → a ≡ b) front c.in-Ok.ensures.one)
    (passed left ahead len c.drop_front.ensures.ahead c.drop_front.ensures.source)
