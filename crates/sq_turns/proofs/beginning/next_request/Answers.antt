use Rattle.std.proofs.Common.{inl, inr, take, subst, ap, ◌∙◌}
use Rattle.std.specs.Io.KnownBytes.{prepend_known}
use Rattle.sq_forward.specs.Heads.{IsTooLarge}
use Rattle.sq_request.specs.Refusals.{RefusesHead}
use Rattle.sq_request.specs.declared.faults.BadRequest.TheVariants as fault
use Rattle.sq_turns.specs.declared.beginning.Begun.TheVariants as begun
use Rattle.sq_turns.proofs.BeginLaws.{begins_by, begins_any, begins_head, begins_end, passed}
use Rattle.sq_turns.proofs.beginning.next_request.Goals as goal

pub returns-in-TooLarge-clause-begins : goal.returns-in-TooLarge-clause-begins
returns-in-TooLarge-clause-begins g c =
    let left = g.S.Source.left in
    begins_by (prepend_known c.args.client.now.ahead (left c.args.client.now.source))
    (prepend_known c.find_head.new.from.ahead (left c.find_head.new.from.source)) IsTooLarge begun.TooLarge _
    c.find_head.ensures.kept c.in-TooLarge.ensures.found (λ bytes p. inl p) tt

pub returns-in-Ended-clause-begins : goal.returns-in-Ended-clause-begins
returns-in-Ended-clause-begins g c =
    let left = g.S.Source.left in
    begins_end (prepend_known c.args.client.now.ahead (left c.args.client.now.source)) c.find_head.new.from.ahead
    c.as_bytes.result.now (left c.find_head.new.from.source) _ c.ended.result
    c.find_head.ensures.kept c.as_bytes.ensures.value c.ended.ensures c.in-Ended.ensures.found.0
    c.in-Ended.ensures.found.1 c.in-Ended.ensures.found.2

pub returns-in-Failed-clause-begins : goal.returns-in-Failed-clause-begins
returns-in-Failed-clause-begins g c = begins_any _ begun.Failed _ (λ bytes. tt) tt

pub returns-in-WantOfMemory-clause-begins : goal.returns-in-WantOfMemory-clause-begins
returns-in-WantOfMemory-clause-begins g c = begins_any _ begun.WantOfMemory _ (λ bytes. tt) tt

pub returns-in-Err-BadHead-clause-begins : goal.returns-in-Err-BadHead-clause-begins
returns-in-Err-BadHead-clause-begins g c =
    let left = g.S.Source.left in
    let ahead = c.find_head.new.from.ahead in
    let found = c.in-Whole.ensures.found in
    let head = c.split_at.result.0.now in
    let bad : RefusesHead head fault.BadHead =
    subst (RefusesHead head) c.in-Err-BadHead.field-0-is c.in-Err-BadHead.ensures.refused in
    begins_head (prepend_known c.args.client.now.ahead (left c.args.client.now.source)) ahead
    (left c.find_head.new.from.source) head c.in-Whole.len begun.Bad _
    c.find_head.ensures.kept found.3 found.2
    (c.split_at.ensures.front ∙ ap (take c.in-Whole.len) c.as_bytes-2.ensures.value)
    (λ bytes rest h. record { head = head; rest = rest; comes = h; bad = inl bad }) (λ s e. tt)

pub returns-in-Err-TooManyFields-clause-begins : goal.returns-in-Err-TooManyFields-clause-begins
returns-in-Err-TooManyFields-clause-begins g c =
    let left = g.S.Source.left in
    let ahead = c.find_head.new.from.ahead in
    let found = c.in-Whole.ensures.found in
    let head = c.split_at.result.0.now in
    let bad : RefusesHead head fault.TooManyFields =
    subst (RefusesHead head) c.in-Err-TooManyFields.field-0-is c.in-Err-TooManyFields.ensures.refused in
    begins_head (prepend_known c.args.client.now.ahead (left c.args.client.now.source)) ahead
    (left c.find_head.new.from.source) head c.in-Whole.len begun.TooLarge _
    c.find_head.ensures.kept found.3 found.2
    (c.split_at.ensures.front ∙ ap (take c.in-Whole.len) c.as_bytes-2.ensures.value)
    (λ bytes rest h. inr (record { head = head; rest = rest; comes = h; many = bad })) (λ s e. tt)

pub returns-in-Err-BadTarget-clause-begins : goal.returns-in-Err-BadTarget-clause-begins
returns-in-Err-BadTarget-clause-begins g c =
    let left = g.S.Source.left in
    let ahead = c.find_head.new.from.ahead in
    let found = c.in-Whole.ensures.found in
    let head = c.split_at.result.0.now in
    let bad : RefusesHead head fault.BadTarget =
    subst (RefusesHead head) c.in-Err-BadTarget.field-0-is c.in-Err-BadTarget.ensures.refused in
    begins_head (prepend_known c.args.client.now.ahead (left c.args.client.now.source)) ahead
    (left c.find_head.new.from.source) head c.in-Whole.len begun.Bad _
    c.find_head.ensures.kept found.3 found.2
    (c.split_at.ensures.front ∙ ap (take c.in-Whole.len) c.as_bytes-2.ensures.value)
    (λ bytes rest h. record { head = head; rest = rest; comes = h; bad = inr bad }) (λ s e. tt)

pub returns-in-Err-WantOfMemory-clause-begins : goal.returns-in-Err-WantOfMemory-clause-begins
returns-in-Err-WantOfMemory-clause-begins g c = begins_any _ begun.WantOfMemory _ (λ bytes. tt) tt

pub returns-clause-begins : goal.returns-clause-begins
returns-clause-begins g c =
    let left = g.S.Source.left in
    let ahead = c.find_head.new.from.ahead in
    let found = c.in-Whole.ensures.found in
    let head = c.split_at.result.0.now in
    begins_head (prepend_known c.args.client.now.ahead (left c.args.client.now.source)) ahead
    (left c.find_head.new.from.source) head c.in-Whole.len (begun.Asks c.in-Ok.request)
    (prepend_known c.drop_front.new.self.ahead (left c.drop_front.new.self.source))
    c.find_head.ensures.kept found.3 found.2
    (c.split_at.ensures.front ∙ ap (take c.in-Whole.len) c.as_bytes-2.ensures.value)
    (λ bytes rest h. record { head = head; comes = h; has = c.in-Ok.ensures.read })
    (λ s e. passed left ahead c.drop_front.new.self.ahead c.find_head.new.from.source c.drop_front.new.self.source
    c.in-Whole.len c.drop_front.ensures.ahead c.drop_front.ensures.source s e)
