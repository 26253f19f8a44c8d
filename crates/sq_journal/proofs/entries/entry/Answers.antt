use Rattle.std.proofs.Common.{◌<◌, sym, subst, ◌∙◌, arith}
use Rattle.std.proofs.lemmas.List.Elements.{All-from_get_or}
use Rattle.sq_journal.proofs.EventLaws.{number, event_takes}
use Rattle.sq_journal.proofs.LineLaws.{AreWords, words_bytes}
use Rattle.sq_journal.proofs.entries.entry.Goals as goal

pub invariant_of-result : goal.invariant_of-result
invariant_of-result c =
    let line = c.args.line.now in
    let bytes = All-from_get_or (λ b. b < 256) line 0 (λ i within. omega (arith, c.type_inv.line i)) in
    let small : AreWords c.new-words.result = subst AreWords (sym c.new-words.ensures) (words_bytes line bytes) in
    let moment = number.takes.of c.new-words.result (c.in_ok-number.field-0, c.number.new.words) small
    c.in_ok-number.ensures.read in
    let event = event_takes.of c.number.new.words (c.in_ok-event.event, c.event.new.words) moment.2
    c.in_ok-event.ensures in
    record { event_is = event.1.1; row_is = sym c.is_row.ensures ∙ c.if-is_row.true }
