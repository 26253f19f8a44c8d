use Rattle.sq_eval.proofs.deciding.decision.Given as goal

-- the ledger of the blank that was just made
abbrev pub ghosts-decision_over : goal.ghosts-decision_over
ghosts-decision_over a = record { name = a.blank.name; parts = a.blank.parts }
