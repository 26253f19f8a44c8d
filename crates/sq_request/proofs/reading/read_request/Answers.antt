use Rattle.std.proofs.Common.{◌∙◌}
use Rattle.sq_request.proofs.HeadLaws.{no_head, copied_plain, spans_method, read_is, refused_is}
use Rattle.sq_request.proofs.MethodLaws.{method_is, token_method}
use Rattle.sq_request.proofs.OneLaws.{head_one}
use Rattle.sq_request.proofs.reading.read_request.Goals as goal

pub returns-in_default-parse_whole-clause-refused :
    goal.returns-in_default-parse_whole-clause-refused
returns-in_default-parse_whole-clause-refused c =
    λ h whole. no_head _ c.args.head.now h c.in_default-parse_whole.ensures.none
    (c.as_mut_slice-room.ensures.len ∙ c.in-Ok.ensures.len ∙ c.line_count.ensures) whole

pub build-requires : goal.build-requires
build-requires c =
    copied_plain c.args.head.now c.parse_whole.new.room c.in-Some.spans c.in_ok-fields.fields c.in-Some.ensures.found
    c.in_ok-fields.ensures

pub returns-clause-read : goal.returns-clause-read
returns-clause-read c =
    read_is c.args.head.now c.parse_whole.new.room c.in-Some.spans c.as_bytes.result.now c.of-target.result.now
    c.in_ok-fields.fields c.build.result c.in-Some.ensures.found c.if-spans-gt-MOST_FIELDS.false
    (c.as_bytes.ensures.value ∙ c.as_str.ensures.value
    ∙ method_is c.of.result.now c.in_ok-method.field-0 c.in-Some-2.method c.in-Some-2.is c.in_ok-method.ensures
    ∙ c.of.ensures)
    c.of-target.ensures c.in_ok-fields.ensures c.build.ensures.built

pub returns-clause-refused : goal.returns-clause-refused
returns-clause-refused c =
    refused_is c.args.head.now c.parse_whole.new.room c.in-Some.spans c.as_bytes.result.now c.of-target.result.now
    c.in_ok-fields.fields c.build.result c.in-Some.ensures.found c.if-spans-gt-MOST_FIELDS.false
    (c.as_bytes.ensures.value ∙ c.as_str.ensures.value
    ∙ method_is c.of.result.now c.in_ok-method.field-0 c.in-Some-2.method c.in-Some-2.is c.in_ok-method.ensures
    ∙ c.of.ensures)
    c.of-target.ensures c.in_ok-fields.ensures c.build.ensures.refused

pub returns-clause-one : goal.returns-clause-one
returns-clause-one c = head_one c.args.head.now

pub returns-in_default-clause-one : goal.returns-in_default-clause-one
returns-in_default-clause-one c = head_one c.args.head.now

pub returns-in_default-parse_whole-clause-one : goal.returns-in_default-parse_whole-clause-one
returns-in_default-parse_whole-clause-one c = head_one c.args.head.now

pub returns-then-spans-gt-MOST_FIELDS-clause-one : goal.returns-then-spans-gt-MOST_FIELDS-clause-one
returns-then-spans-gt-MOST_FIELDS-clause-one c = head_one c.args.head.now

pub returns-in_err-method-clause-one : goal.returns-in_err-method-clause-one
returns-in_err-method-clause-one c = head_one c.args.head.now

pub unreachable-requires : goal.unreachable-requires
unreachable-requires c =
    c.in_default-2.not-Some c.of.result.now
    (token_method c.of.result.now c.in_ok-method.field-0
    (spans_method c.args.head.now c.parse_whole.new.room c.in-Some.spans c.of.result.now c.in-Some.ensures.found
    c.of.ensures)
    c.in_ok-method.ensures)

pub returns-in_err-fields-clause-one : goal.returns-in_err-fields-clause-one
returns-in_err-fields-clause-one c = head_one c.args.head.now
