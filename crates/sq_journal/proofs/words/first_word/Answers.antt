use Rattle.sq_journal.proofs.LineLaws.{cut_at, cut_nowhere}
use Rattle.sq_journal.proofs.words.first_word.Goals as goal

pub returns-in-None : goal.returns-in-None
returns-in-None c = cut_nowhere c.args.text.now c.in-None.ensures

pub returns-in-Some : goal.returns-in-Some
returns-in-Some c =
    rw (c.split_at-in-Some.ensures.back, c.split_at.ensures.back, c.split_at.ensures.front)
    (cut_at c.args.text.now c.in-Some.place c.in-Some.ensures)
