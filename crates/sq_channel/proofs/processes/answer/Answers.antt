use Rattle.std.proofs.Common.{sym, ◌∙◌}
use Rattle.sq_channel.proofs.SlotLaws.{open_of_law}
use Rattle.sq_channel.proofs.processes.answer.Goals as goal

pub returns-in-Some-clause-open : goal.returns-in-Some-clause-open
returns-in-Some-clause-open c = open_of_law c.args.slots.now c.args.channel c.in-Some.question
    (sym c.slot_of.ensures ∙ c.in-Some.is)
