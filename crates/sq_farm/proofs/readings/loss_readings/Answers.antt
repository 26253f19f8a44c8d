use Rattle.sq_farm.proofs.FarmLaws.{length_lose_all, times_lose_all}
use Rattle.sq_farm.proofs.RowReadings.{causes_lose_all}
use Rattle.sq_farm.proofs.readings.loss_readings.Goals as goal

pub returns-clause-times : goal.returns-clause-times
returns-clause-times c = times_lose_all

pub returns-clause-causes : goal.returns-clause-causes
returns-clause-causes c = causes_lose_all

pub returns-clause-count : goal.returns-clause-count
returns-clause-count c = length_lose_all
