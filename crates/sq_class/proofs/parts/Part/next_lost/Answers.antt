use Rattle.std.proofs.Common.{◌≡◌, sym, ◌∷◌}
use Rattle.sq_machine.specs.Losses.{later_lost}
use Rattle.sq_class.proofs.HoldLaws.{holds_less}
use Rattle.sq_class.proofs.LossLaws.{first_is, first_none, handed_next, handed_none}
use Rattle.sq_class.proofs.parts.Part.next_lost.Goals as goal

pub returns-in_default-clause-done : goal.returns-in_default-clause-done
returns-in_default-clause-done c =
    rw (← c.self.view_is)
    (handed_none (record {
      kept = c.self.inside.kept.verdicts;
      lookups = c.self.inside.lookups.rows;
      stock = c.self.inside.farm;
    }) (first_none c.self.inside.farm.losses (sym c.in_default.ensures.lost)))

pub invariant_of-self-2 : goal.invariant_of-self-2
invariant_of-self-2 c = λ q.
    rw c.answered.ensures.rows
    (holds_less c.self.inside.farm c.next_lost.new.self c.in-Some.loss.0 c.self.inside.lookups.rows c.self.invariant
    c.in-Some.ensures.stay q)

pub returns-clause-after : goal.returns-clause-after
returns-clause-after c =
    let f = c.self.inside.farm in
    let are : f.losses ≡ record { question = c.in-Some.loss.0; cause = c.in-Some.loss.1 } ∷ later_lost f.losses =
    first_is c.in-Some.loss.0 c.in-Some.loss.1 f.losses (sym c.in-Some.ensures.lost) in
    rw (← c.self.view_is, c.answered.ensures.rows, c.next_lost.ensures.value)
    (handed_next (record { kept = c.self.inside.kept.verdicts; lookups = c.self.inside.lookups.rows; stock = f })
    (record { question = c.in-Some.loss.0; cause = c.in-Some.loss.1 }) (later_lost f.losses) are)
