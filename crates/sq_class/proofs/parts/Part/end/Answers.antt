use Rattle.std.proofs.Common.{◌≡◌, ◌∙◌}
use Rattle.sq_channel.proofs.RisingLaws.{if_true}
use Rattle.sq_machine.specs.Farms.{ended}
use Rattle.sq_class.proofs.LossLaws.{cause_ended, handed_death}
use Rattle.sq_class.proofs.parts.Part.end.Goals as goal

pub returns-clause-after : goal.returns-clause-after
returns-clause-after c = λ none.
    let f = c.self.inside.farm in
    let v : c.end.new.self ≡ ended c.args.cause c.args.proc f =
    c.end.ensures.value ∙ if_true c.end.result (ended c.args.cause c.args.proc f) f
    (c.end.ensures.alive ∙ rw (← c.self.view_is) at c.requires) in
    rw (← c.self.view_is, v)
    (handed_death c.args.cause c.args.proc
    (record { kept = c.self.inside.kept.verdicts; lookups = c.self.inside.lookups.rows; stock = f })
    (rw (← c.self.view_is) at none))

pub returns-clause-lost : goal.returns-clause-lost
returns-clause-lost c = λ none q.
    let f = c.self.inside.farm in
    let v : c.end.new.self ≡ ended c.args.cause c.args.proc f =
    c.end.ensures.value ∙ if_true c.end.result (ended c.args.cause c.args.proc f) f
    (c.end.ensures.alive ∙ rw (← c.self.view_is) at c.requires) in
    rw (← c.self.view_is, v) (cause_ended q c.args.cause c.args.proc f (rw (← c.self.view_is) at none))
