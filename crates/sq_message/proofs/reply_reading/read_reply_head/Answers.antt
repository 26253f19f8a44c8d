use Rattle.std.proofs.Common.{◌∙◌, arith}
use Rattle.sq_message.proofs.ReplyLaws.{read_is, reply_one}
use Rattle.sq_message.proofs.reply_reading.read_reply_head.Goals as goal

pub returns-clause-read : goal.returns-clause-read
returns-clause-read c =
    read_is c.args.head.now c.parse_whole.new.room c.in-Some.spans c.in_ok-reason.reason c.in_ok-fields.fields
    c.in-Some.ensures.found (omega (arith, c.as_mut_slice-room.ensures.len, c.in-Ok.ensures.len))
    c.if-head-gt-MOST_BYTES.false
    (c.in_ok-reason.ensures ∙ c.of.ensures) c.in_ok-fields.ensures

pub returns-clause-one : goal.returns-clause-one
returns-clause-one c = reply_one c.args.head.now

pub returns-in_err-reason-clause-one : goal.returns-in_err-reason-clause-one
returns-in_err-reason-clause-one c = reply_one c.args.head.now

pub returns-in_err-fields-clause-one : goal.returns-in_err-fields-clause-one
returns-in_err-fields-clause-one c = reply_one c.args.head.now

pub returns-in_default-clause-one : goal.returns-in_default-clause-one
returns-in_default-clause-one c = reply_one c.args.head.now
