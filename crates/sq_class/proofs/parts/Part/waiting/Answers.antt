use Rattle.std.proofs.Common.{◌≡◌, ◌∙◌, true}
use Rattle.sq_machine.specs.Channels.{is_open}
use Rattle.sq_machine.specs.Living.{slots_in}
use Rattle.sq_class.proofs.HoldLaws.{is_there, open_place}
use Rattle.sq_class.proofs.parts.Part.waiting.Goals as goal

pub returns-clause-sent : goal.returns-clause-sent
returns-clause-sent c = λ k e.
    let f = c.self.inside.farm in
    let here : is_open c.args.question (slots_in k f.procs) ≡ true = rw (← c.self.view_is) at e in
    c.waiting.ensures.open ∙ is_there f c.self.inside.lookups.rows c.self.invariant c.args.question
    (open_place f k c.args.question here)
