use Rattle.sq_replay.proofs.PageLaws.{page_front}
use Rattle.sq_replay.proofs.page.put_line.Goals as goal

pub returns-in-Err-clause-memory : goal.returns-in-Err-clause-memory
returns-in-Err-clause-memory g c = λ e base text w. page_front base _ _ _ _ text w c.in-Err.ensures.err
