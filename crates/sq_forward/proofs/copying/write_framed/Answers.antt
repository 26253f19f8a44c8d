use Rattle.std.proofs.Common.{◌≡◌, Err, IsErrOf, ap, sym, subst}
use Rattle.sq_message.specs.declared.feed_faults.FeedFault.TheVariants as fault
use Rattle.sq_forward.proofs.CopyLaws.{piece_fed, piece_part, unfed_no_sink, unfed_starved, unfed_no_memory, unfed_bad}
use Rattle.sq_forward.proofs.PayLaws.{pays_whole}
use Rattle.sq_forward.proofs.copying.write_framed.Goals as goal

pub returns-in-Err-Failed-clause-unfed : goal.returns-in-Err-Failed-clause-unfed
returns-in-Err-Failed-clause-unfed g c =
    unfed_no_sink (piece_part c.clear.ensures c.as_bytes.ensures.value c.feed-fed.ensures.wrote
    (c.in-Err-Failed.ensures.failed (ap Err c.in-Err-Failed.field-0-is)))

pub returns-in-Err-Starved-clause-unfed : goal.returns-in-Err-Starved-clause-unfed
returns-in-Err-Starved-clause-unfed g c =
    unfed_starved (piece_part c.clear.ensures c.as_bytes.ensures.value c.feed-fed.ensures.wrote
    (c.in-Err-Starved.ensures.starved (ap Err c.in-Err-Starved.field-0-is)))

pub returns-in-Ok-fed-clause-fed : goal.returns-in-Ok-fed-clause-fed
returns-in-Ok-fed-clause-fed g c = piece_fed c.clear.ensures c.as_bytes.ensures.value c.in-Ok-fed.ensures.fed
    c.in-Ok.ensures.ok

pub returns-in-Err-BadChunk-clause-unfed : goal.returns-in-Err-BadChunk-clause-unfed
returns-in-Err-BadChunk-clause-unfed g c =
    let is_it : c.in-Err-BadChunk.field-0 ≡ fault.BadChunk = rw c.in-Err-BadChunk.is at c.in-Err-BadChunk.field-0-is in
    let bad : IsErrOf c.feed-fed.result fault.BadChunk =
    subst (λ r. IsErrOf r fault.BadChunk) (sym c.in-Err-BadChunk.is) (ap Err is_it) in
    unfed_bad c.clear.ensures c.as_bytes.ensures.value (c.feed-fed.ensures.bad bad) c.in-Ok.ensures.ok

pub returns-in-Err-WantOfMemory-clause-unfed : goal.returns-in-Err-WantOfMemory-clause-unfed
returns-in-Err-WantOfMemory-clause-unfed g c =
    unfed_no_memory (piece_part c.clear.ensures c.as_bytes.ensures.value c.feed-fed.ensures.wrote
    (pays_whole c.in-Ok.ensures.ok))
