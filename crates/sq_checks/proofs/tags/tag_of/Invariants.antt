use Rattle.sq_checks.proofs.tags.tag_of.Given as goal

-- the ledger of the blank that was just made
abbrev pub ghosts-rules_tag : goal.ghosts-rules_tag
ghosts-rules_tag a = record { name = a.blank.name; parts = a.blank.parts }
