use Rattle.std.proofs.Common.{◌∙◌, ◌++◌, ◌∷◌, [], ◌==◌, Err, ap, inr, subst}
use Rattle.sq_machine.specs.Entries.{Noted}
use Rattle.sq_journal.specs.Sinks.{epoch_behind}
use Rattle.sq_replay.specs.declared.page.Unwritten.{Unwritten}
use Rattle.sq_replay.specs.declared.page.Unwritten.TheVariants as untold
use Rattle.sq_verify.specs.Migrating.{PutsText, first_behind}
use Rattle.sq_verify.proofs.MigrateLaws.{puts_named}
use Rattle.sq_verify.proofs.migrating.put_entry.Goals as goal

pub returns-in-Err-Failed-clause-puts : goal.returns-in-Err-Failed-clause-puts
returns-in-Err-Failed-clause-puts g c =
    let a = g.O.Sink.contents c.args.out.now in
    let b = g.O.Sink.contents c.put_next.new.out in
    puts_named a b c.args.page.now.items c.put_next.new.page.items (Err untold.Failed) c.args.count c.args.epoch
    c.epoch_behind-next.result c.args.entry.now c.as_bytes.result.now
    (c.as_bytes.ensures.value ∙ c.in-Ok.ensures)
    (c.epoch_behind-next.ensures ∙ ap (λ (x : Noted). epoch_behind c.args.epoch x.event) c.entry.view_is)
    (subst (λ (f : Unwritten). PutsText a b c.args.page.now.items c.put_next.new.page.items (Err f)
    (first_behind (c.args.count == 0) (c.as_bytes.result.now ++ 10 ∷ []))) c.in-Err-Failed.field-0-is
    c.in-Err-Failed.ensures.puts)

pub returns-clause-puts : goal.returns-clause-puts
returns-clause-puts g c =
    let a = g.O.Sink.contents c.args.out.now in
    let b = g.O.Sink.contents c.put_next.new.out in
    inr (puts_named a b c.args.page.now.items c.put_next.new.page.items (Err untold.WantOfMemory) c.args.count
    c.args.epoch c.epoch_behind-next.result c.args.entry.now c.as_bytes.result.now
    (c.as_bytes.ensures.value ∙ c.in-Ok.ensures)
    (c.epoch_behind-next.ensures ∙ ap (λ (x : Noted). epoch_behind c.args.epoch x.event) c.entry.view_is)
    (subst (λ (f : Unwritten). PutsText a b c.args.page.now.items c.put_next.new.page.items (Err f)
    (first_behind (c.args.count == 0) (c.as_bytes.result.now ++ 10 ∷ []))) c.in-Err-WantOfMemory.field-0-is
    c.in-Err-WantOfMemory.ensures.puts))
