use Rattle.sq_checks.proofs.open_checks.OpenChecks.come_to.Given as goal

-- the ledger of the blank that was just made
abbrev pub ghosts-come_on : goal.ghosts-come_on
ghosts-come_on a = record { name = a.blank.name; parts = a.blank.parts }
