use Rattle.sq_eval.proofs.pools.pool_of.Given as goal

-- the ledger of the blank that was just made
abbrev pub ghosts-first_pool : goal.ghosts-first_pool
ghosts-first_pool a = record { name = a.blank.name; parts = a.blank.parts }
