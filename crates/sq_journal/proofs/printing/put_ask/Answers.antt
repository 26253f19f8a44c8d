use Rattle.std.proofs.Common.{[], map, sym}
use Rattle.sq_machine.specs.declared.entries.Event.TheVariants.{Ask}
use Rattle.sq_journal.specs.EntryText.{event_words, field_word}
use Rattle.sq_journal.specs.Lines.{after_spaces}
use Rattle.sq_journal.proofs.LineLaws.{both_after}
use Rattle.sq_journal.proofs.PutLaws.{puts_then, puts_stop}
use Rattle.sq_journal.proofs.PutSameLaws.{puts_as}
use Rattle.sq_journal.proofs.printing.put_ask.Goals as goal

pub returns-in-Err : goal.returns-in-Err
returns-in-Err g c =
    let head = event_words (Ask c.args.conn c.args.method.now c.args.target.now []) in
    let fields = map field_word c.args.fields.now in
    puts_as _ _ _ _ _ _ _ (sym (both_after head fields))
    (puts_stop _ _ _ _ _ _ (after_spaces head) (after_spaces fields) c.in-Err.ensures)

pub returns : goal.returns
returns g c =
    let head = event_words (Ask c.args.conn c.args.method.now c.args.target.now []) in
    let fields = map field_word c.args.fields.now in
    puts_as _ _ _ _ _ _ _ (sym (both_after head fields))
    (puts_then _ _ _ _ _ _ _ _ (after_spaces head) (after_spaces fields) c.in-Ok.ensures c.put_fields.ensures)
