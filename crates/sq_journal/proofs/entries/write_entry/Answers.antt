use Rattle.std.proofs.Common.{◌∷◌, [], ◌++◌, ◌∙◌, codes, decimal, ap}
use Rattle.sq_machine.specs.Entries.{Noted}
use Rattle.sq_journal.specs.EntryText.{event_words, told_words, entry_text}
use Rattle.sq_journal.specs.Lines.{after_spaces}
use Rattle.sq_journal.proofs.EntryLaws.{entry_is}
use Rattle.sq_journal.proofs.PutSameLaws.{puts_as}
use Rattle.sq_journal.proofs.PutLaws.{puts_then, puts_stop}
use Rattle.sq_journal.proofs.entries.write_entry.Goals as goal

pub returns-in-Err : goal.returns-in-Err
returns-in-Err g c =
    let e : Noted = record {
      moment = c.entry.inside.moment;
      event = c.entry.inside.event;
      answer = c.entry.inside.answer;
    } in
    puts_as _ _ _ _ _ _ _ (entry_is e ∙ ap entry_text c.entry.view_is)
    (puts_stop _ _ _ _ _ _ (decimal e.moment)
    (after_spaces (event_words e.event) ++ (after_spaces (codes "=>" ∷ []) ++ after_spaces (told_words e.answer)))
    c.in-Err.ensures)

pub returns : goal.returns
returns g c =
    let e : Noted = record {
      moment = c.entry.inside.moment;
      event = c.entry.inside.event;
      answer = c.entry.inside.answer;
    } in
    puts_as _ _ _ _ _ _ _ (entry_is e ∙ ap entry_text c.entry.view_is)
    (puts_then _ _ _ _ _ _ _ _ (decimal e.moment)
    (after_spaces (event_words e.event) ++ (after_spaces (codes "=>" ∷ []) ++ after_spaces (told_words e.answer)))
    c.in-Ok.ensures c.put_rest.ensures)
