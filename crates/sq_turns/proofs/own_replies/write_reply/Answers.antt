use Rattle.sq_turns.proofs.OwnReplyLaws.{tells_then, cause_then, dry_then}
use Rattle.sq_turns.proofs.own_replies.write_reply.Goals as goal

pub returns-in-Ok-clause-tells : goal.returns-in-Ok-clause-tells
returns-in-Ok-clause-tells g c = tells_then c.args.text.now _ _ c.args.then c.requires.plain c.in-Ok.ensures.ok

pub returns-in-Err-clause-tells : goal.returns-in-Err-clause-tells
returns-in-Err-clause-tells g c = record { is = c.in-Err.ensures.err }

pub returns-in-Ok-clause-cause : goal.returns-in-Ok-clause-cause
returns-in-Ok-clause-cause g c = cause_then _ _ c.args.then c.requires.plain

pub returns-in-Ok-clause-dry : goal.returns-in-Ok-clause-dry
returns-in-Ok-clause-dry g c = dry_then c.args.then c.requires.plain
