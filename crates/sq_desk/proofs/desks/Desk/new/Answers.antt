use Rattle.std.proofs.Common.{ap, sym, subst}
use Rattle.sq_desk.specs.Desks.{IsDesk}
use Rattle.sq_desk.proofs.EventLaws.{begun_desk}
use Rattle.sq_desk.proofs.desks.Desk.new.Goals as goal

pub invariant_of-result : goal.invariant_of-result
invariant_of-result g c =
    subst (λ first. IsDesk first (record { engine = c.in-Ok.engine; notes = c.note.new.self })) (sym c.requires.first)
    (begun_desk c.in-Ok.engine c.new-notes.result c.ready.new.self c.note.new.self c.args.setup c.args.offset c.args.now
    (g.J.Journal.history c.args.journal)
    c.good.ensures c.in-Ok.ensures.promised c.in-Ok.ensures.same c.requires.empty
    (ap (λ z. z.history) c.new-notes.ensures) (ap (λ z. z.made) c.new-notes.ensures) c.in-Ok-ready.ensures
    c.in-Ok-note.ensures)
