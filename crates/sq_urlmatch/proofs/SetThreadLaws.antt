-- That sets cross threads, for structs that hold some.
use denote.Param.Send.{IsSend, IsSync, sendable, view_send, view_sync}
use denote.Param.SendFields.{FieldsHave, declared_send, declared_sync}
use Rattle.std.proofs.Crossing.{crosses, Vec-send, Vec-sync}
use Rattle.sq_urlmatch.specs.contracts.addresses.AddrSet as addr_set
use Rattle.sq_urlmatch.specs.contracts.addresses.AddrSet.TheInside as addr_set_inside
use Rattle.sq_urlmatch.specs.contracts.domains.DomainSet as domain_set
use Rattle.sq_urlmatch.specs.contracts.domains.DomainSet.TheInside as domain_set_inside
use Rattle.sq_urlmatch.specs.contracts.names.Name as name
use Rattle.sq_urlmatch.specs.contracts.spans.Span as span
use Rattle.sq_urlmatch.specs.contracts.spans.Spans as spans
use Rattle.sq_urlmatch.specs.contracts.spans.Spans.TheInside as spans_inside

span_send : IsSend span.the_row
span_send = search (sendable, crosses) depth 40 fits 20000

spans_inside_send : IsSend spans_inside.the_row
spans_inside_send =
    let parts : FieldsHave IsSend (spans_inside.the_type).parts = (search (sendable, Vec-send, span_send), tt) in
    declared_send spans_inside.the_type parts

-- spans cross threads
pub spans_send : IsSend spans.the_row
spans_send = view_send _ _ _ _ _ spans_inside_send

addr_set_inside_send : IsSend addr_set_inside.the_row
addr_set_inside_send =
    let parts : FieldsHave IsSend (addr_set_inside.the_type).parts =
    (search (sendable, spans_send), (search (sendable, spans_send), tt)) in
    declared_send addr_set_inside.the_type parts

-- a set of addresses crosses threads
pub addr_set_send : IsSend addr_set.the_row
addr_set_send = view_send _ _ _ _ _ addr_set_inside_send

name_send : IsSend name.the_row
name_send = search (sendable, crosses) depth 40 fits 20000

domain_set_inside_send : IsSend domain_set_inside.the_row
domain_set_inside_send =
    let parts : FieldsHave IsSend (domain_set_inside.the_type).parts = (
      search (sendable, Vec-send, name_send),
      (search (sendable, Vec-send, crosses), (search (sendable, crosses), tt)),
    ) in
    declared_send domain_set_inside.the_type parts

-- a set of domains crosses threads
pub domain_set_send : IsSend domain_set.the_row
domain_set_send = view_send _ _ _ _ _ domain_set_inside_send

span_sync : IsSync span.the_row
span_sync = search (sendable, crosses) depth 40 fits 20000

spans_inside_sync : IsSync spans_inside.the_row
spans_inside_sync =
    let parts : FieldsHave IsSync (spans_inside.the_type).parts = (search (sendable, Vec-sync, span_sync), tt) in
    declared_sync spans_inside.the_type parts

-- spans cross threads
pub spans_sync : IsSync spans.the_row
spans_sync = view_sync _ _ _ _ _ spans_inside_sync

addr_set_inside_sync : IsSync addr_set_inside.the_row
addr_set_inside_sync =
    let parts : FieldsHave IsSync (addr_set_inside.the_type).parts =
    (search (sendable, spans_sync), (search (sendable, spans_sync), tt)) in
    declared_sync addr_set_inside.the_type parts

-- a set of addresses crosses threads
pub addr_set_sync : IsSync addr_set.the_row
addr_set_sync = view_sync _ _ _ _ _ addr_set_inside_sync

name_sync : IsSync name.the_row
name_sync = search (sendable, crosses) depth 40 fits 20000

domain_set_inside_sync : IsSync domain_set_inside.the_row
domain_set_inside_sync =
    let parts : FieldsHave IsSync (domain_set_inside.the_type).parts = (
      search (sendable, Vec-sync, name_sync),
      (search (sendable, Vec-sync, crosses), (search (sendable, crosses), tt)),
    ) in
    declared_sync domain_set_inside.the_type parts

-- a set of domains crosses threads
pub domain_set_sync : IsSync domain_set.the_row
domain_set_sync = view_sync _ _ _ _ _ domain_set_inside_sync
