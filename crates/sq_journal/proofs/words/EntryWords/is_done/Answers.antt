use Rattle.sq_journal.proofs.LineLaws.{words_stand}
use Rattle.sq_journal.proofs.words.EntryWords.is_done.Goals as goal

pub returns-in-Some : goal.returns-in-Some
returns-in-Some c = words_stand c.self.inside.rest c.in-Some.field-0 c.args.self.now c.self.view_is c.in-Some.is
