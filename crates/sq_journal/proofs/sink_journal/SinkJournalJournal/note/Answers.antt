use Rattle.std.proofs.Common.{◌∙◌, ap, refl, sym, subst}
use Rattle.sq_outside.specs.Output.{Grew}
use Rattle.sq_journal.specs.Sinks.{IsCutIn, epoch_behind}
use Rattle.sq_journal.proofs.JournalLaws.{holds_next, holds_cut}
use Rattle.sq_journal.proofs.sink_journal.SinkJournalJournal.note.Goals as goal

pub returns-in-Ok-clause-holds : goal.returns-in-Ok-clause-holds
returns-in-Ok-clause-holds g c = λ start h at.
    holds_next start (g.S.Sink.contents c.args.self.now.sink) (g.S.Sink.contents c.write_next.new.to) c.args.self.now _
    h c.args.entry c.next_number-number.result c.next_epoch-epoch.result at
    c.next_number-number.ensures.next
    (c.next_epoch-epoch.ensures ∙ ap (λ x. epoch_behind c.args.self.now.epoch x.event) c.entry.view_is) at.going refl
    refl c.in-Ok.ensures.whole

pub returns-clause-cut : goal.returns-clause-cut
returns-clause-cut g c = λ start h at.
    subst (λ s. Grew start (g.S.Sink.contents s) (IsCutIn h c.args.entry)) (sym c.stop-in-Err.ensures.sink)
    (holds_cut start (g.S.Sink.contents c.args.self.now.sink) (g.S.Sink.contents c.write_next.new.to) c.args.self.now h
    c.args.entry c.next_number-number.result c.next_epoch-epoch.result at
    c.next_number-number.ensures.next
    (c.next_epoch-epoch.ensures ∙ ap (λ x. epoch_behind c.args.self.now.epoch x.event) c.entry.view_is)
    c.in-Err.ensures.short)
