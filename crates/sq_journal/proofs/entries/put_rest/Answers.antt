use Rattle.std.proofs.Common.{◌∷◌, [], ◌++◌, codes}
use Rattle.sq_journal.specs.EntryText.{event_words, told_words}
use Rattle.sq_journal.specs.Lines.{after_spaces}
use Rattle.sq_journal.proofs.PutLaws.{puts_then, puts_stop}
use Rattle.sq_journal.proofs.entries.put_rest.Goals as goal

pub returns-in-Err : goal.returns-in-Err
returns-in-Err g c =
    puts_stop _ _ _ _ _ _ (after_spaces (event_words c.args.event.now))
    (after_spaces (codes "=>" ∷ []) ++ after_spaces (told_words c.args.answer.now)) c.in-Err.ensures

pub returns-in-Err-put_name : goal.returns-in-Err-put_name
returns-in-Err-put_name g c =
    puts_then _ _ _ _ _ _ _ _ (after_spaces (event_words c.args.event.now))
    (after_spaces (codes "=>" ∷ []) ++ after_spaces (told_words c.args.answer.now)) c.in-Ok.ensures
    (puts_stop _ _ _ _ _ _ (after_spaces (codes "=>" ∷ [])) (after_spaces (told_words c.args.answer.now))
    c.in-Err-put_name.ensures)

pub returns : goal.returns
returns g c =
    puts_then _ _ _ _ _ _ _ _ (after_spaces (event_words c.args.event.now))
    (after_spaces (codes "=>" ∷ []) ++ after_spaces (told_words c.args.answer.now)) c.in-Ok.ensures
    (puts_then _ _ _ _ _ _ _ _ (after_spaces (codes "=>" ∷ [])) (after_spaces (told_words c.args.answer.now))
    c.in-Ok-put_name.ensures c.put_told.ensures)
