use Rattle.tests_system.proofs.desk.desks.run.Given as goal
use Rattle.std.specs.Prelude.{pos}

-- the desk begins with the configuration that was just made
abbrev pub ghosts-run_job : goal.ghosts-run_job
ghosts-run_job g a = record { first = record { config = a.setup; offset = pos 0 } }
