use Rattle.std.proofs.Common.{Err, ap}
use Rattle.sq_forward.proofs.CopyLaws.{data_fed, data_part, unfed_no_sink, unfed_starved}
use Rattle.sq_forward.proofs.copying.write_ahead.Goals as goal

pub returns-in-Ok-clause-fed : goal.returns-in-Ok-clause-fed
returns-in-Ok-clause-fed g c = data_fed c.in-Some.ensures.fed c.split_at.ensures.front c.in-Ok.ensures.ok

pub returns-in-Err-Failed-clause-unfed : goal.returns-in-Err-Failed-clause-unfed
returns-in-Err-Failed-clause-unfed g c =
    unfed_no_sink (data_part c.in-Some.ensures.fed c.split_at.ensures.front
    (c.in-Err-Failed.ensures.failed (ap Err c.in-Err-Failed.field-0-is)))

pub returns-in-Err-Starved-clause-unfed : goal.returns-in-Err-Starved-clause-unfed
returns-in-Err-Starved-clause-unfed g c =
    unfed_starved (data_part c.in-Some.ensures.fed c.split_at.ensures.front
    (c.in-Err-Starved.ensures.starved (ap Err c.in-Err-Starved.field-0-is)))
