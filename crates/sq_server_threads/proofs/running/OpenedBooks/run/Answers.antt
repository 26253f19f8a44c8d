use Rattle.sq_server_threads.proofs.EndLaws.{asks_summed}
use Rattle.sq_server_threads.proofs.running.OpenedBooks.run.Goals as goal

-- The search for it goes through all that threads may share.
pub returns-clause-asks : goal.returns-clause-asks
returns-clause-asks g c =
    asks_summed (g.D.TellsJournal.told c.end-desk.result) c.beside-sums.result.0.asked.amount
    c.beside-sums.result.0.requests c.end-desk.ensures.asks c.beside-sums.result.0.requests_are
