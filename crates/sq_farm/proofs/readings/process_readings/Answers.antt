use Rattle.sq_farm.proofs.FarmLaws.{numbers_sent_law}
use Rattle.sq_farm.proofs.ReplyLaws.{numbers_settled_law}
use Rattle.sq_farm.proofs.ReadingWords.{slots_settled_law}
use Rattle.sq_farm.proofs.RowReadings.{lives_with_law, lives_without_law, numbers_without_law, slots_sent_law, slots_with_law, slots_without_law, with_last}
use Rattle.sq_farm.proofs.readings.process_readings.Goals as goal

pub returns-clause-slots_sent : goal.returns-clause-slots_sent
returns-clause-slots_sent c = slots_sent_law

pub returns-clause-slots_settled : goal.returns-clause-slots_settled
returns-clause-slots_settled c = slots_settled_law

pub returns-clause-slots_without : goal.returns-clause-slots_without
returns-clause-slots_without c = slots_without_law

pub returns-clause-slots_with : goal.returns-clause-slots_with
returns-clause-slots_with c = slots_with_law

pub returns-clause-lives_without : goal.returns-clause-lives_without
returns-clause-lives_without c = lives_without_law

pub returns-clause-lives_with : goal.returns-clause-lives_with
returns-clause-lives_with c = lives_with_law

pub returns-clause-numbers_sent : goal.returns-clause-numbers_sent
returns-clause-numbers_sent c = numbers_sent_law

pub returns-clause-numbers_settled : goal.returns-clause-numbers_settled
returns-clause-numbers_settled c = numbers_settled_law

pub returns-clause-numbers_without : goal.returns-clause-numbers_without
returns-clause-numbers_without c = numbers_without_law

pub returns-clause-last : goal.returns-clause-last
returns-clause-last c = with_last
