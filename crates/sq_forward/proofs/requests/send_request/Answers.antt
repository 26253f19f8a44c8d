use Rattle.std.proofs.Common.{◌∙◌}
use Rattle.sq_forward.proofs.RequestLaws.{request_no_memory, request_unheard, request_unsent, request_sent}
use Rattle.sq_forward.proofs.requests.send_request.Goals as goal

pub returns-in_default-clause-sends : goal.returns-in_default-clause-sends
returns-in_default-clause-sends g c = request_no_memory _ _ _ _ _ _ _ _

pub returns-in-Err-clause-sends : goal.returns-in-Err-clause-sends
returns-in-Err-clause-sends g c =
    request_unheard _ _ _ _ _ _ _ _ _ _ c.continue_part.ensures c.in-Err.ensures.err

pub returns-in-Err-write_all-clause-sends : goal.returns-in-Err-write_all-clause-sends
returns-in-Err-write_all-clause-sends g c =
    request_unsent _ _ _ _ _ _ _ _ _ _ _ _ c.continue_part.ensures c.in-Ok-write_all.ensures.ok
    (c.as_bytes.ensures.value ∙ c.in-Ok.ensures.by_facts) c.in-Err-write_all.ensures.err

pub returns-clause-sends : goal.returns-clause-sends
returns-clause-sends g c =
    request_sent _ _ _ _ c.is_chunked-chunked.result _ _ _ _ _ _ _ _ _ c.copy_body-copied.result c.sent.result
    c.continue_part.ensures c.in-Ok-write_all.ensures.ok (c.as_bytes.ensures.value ∙ c.in-Ok.ensures.by_facts)
    c.in-Ok-write_all-2.ensures.ok c.is_chunked-chunked.ensures c.copy_body-copied.ensures.copies
    c.copy_body-copied.ensures.dry c.sent.ensures
