use Rattle.sq_farm.proofs.FarmLaws.{times_opened_law}
use Rattle.sq_farm.proofs.ReadingWords.{count_asked_law, count_settled_law, open_asked_law, open_settled_law, slot_asked_law, slot_settled_law}
use Rattle.sq_farm.proofs.readings.channel_readings.Goals as goal

pub returns-clause-slot_asked : goal.returns-clause-slot_asked
returns-clause-slot_asked c = slot_asked_law

pub returns-clause-slot_settled : goal.returns-clause-slot_settled
returns-clause-slot_settled c = slot_settled_law

pub returns-clause-open_asked : goal.returns-clause-open_asked
returns-clause-open_asked c = open_asked_law

pub returns-clause-open_settled : goal.returns-clause-open_settled
returns-clause-open_settled c = open_settled_law

pub returns-clause-count_asked : goal.returns-clause-count_asked
returns-clause-count_asked c = count_asked_law

pub returns-clause-count_settled : goal.returns-clause-count_settled
returns-clause-count_settled c = count_settled_law

pub returns-clause-times_opened : goal.returns-clause-times_opened
returns-clause-times_opened c = times_opened_law
