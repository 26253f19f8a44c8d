use Rattle.std.proofs.Common.{◌∷◌, ap, Err}
use Rattle.sq_journal.specs.EntryText.{written}
use Rattle.sq_replay.specs.RunText.{acts}
use Rattle.sq_replay.proofs.GrowthLaws.{acts_grow}
use Rattle.sq_replay.proofs.LoopLaws.{front_more, part_more}
use Rattle.sq_replay.proofs.entering.enter.Goals as goal
use Rattle.sq_machine.specs.Entries.{entry_at}

pub returns-in-Ok-clause-arrives : goal.returns-in-Ok-clause-arrives
returns-in-Ok-clause-arrives g c = λ base configs h is w.
    c.write_acts.ensures.arrives base configs (entry_at c.args.moment c.args.event c.args.answer ∷ h)
    (record { is = is; wrote = c.in-Ok.ensures.ok base (written h) w })

pub returns-in-Err-Failed-clause-arrives : goal.returns-in-Err-Failed-clause-arrives
returns-in-Err-Failed-clause-arrives g c = λ base configs h is w.
    let t = entry_at c.args.moment c.args.event c.args.answer ∷ h in
    part_more base _ (written t) (written (acts configs t)) (acts_grow configs t)
    (c.in-Err-Failed.ensures.failed (ap (λ x. Err x) c.in-Err-Failed.field-0-is) base (written h) w)

pub returns-in-Err-WantOfMemory-clause-arrives : goal.returns-in-Err-WantOfMemory-clause-arrives
returns-in-Err-WantOfMemory-clause-arrives g c = λ base configs h is w.
    let t = entry_at c.args.moment c.args.event c.args.answer ∷ h in
    front_more base _ _ (written t) (written (acts configs t)) (acts_grow configs t)
    (c.in-Err-WantOfMemory.ensures.memory (ap (λ x. Err x) c.in-Err-WantOfMemory.field-0-is) base (written h) w)
