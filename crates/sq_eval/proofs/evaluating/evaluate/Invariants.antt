use Rattle.sq_eval.proofs.evaluating.evaluate.Given as goal

-- the ledger of the blank that was just made
abbrev pub ghosts-ran_over : goal.ghosts-ran_over
ghosts-ran_over a = record { name = a.blank.name; parts = a.blank.parts }
