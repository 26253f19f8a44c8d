use Rattle.sq_forward.proofs.SearchLaws.{sought_first}
use Rattle.sq_forward.proofs.searching.HeadSearch.new.Goals as goal

pub returns-clause-sought : goal.returns-clause-sought
returns-clause-sought c = sought_first
