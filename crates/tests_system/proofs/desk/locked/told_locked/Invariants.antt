use Rattle.tests_system.proofs.desk.locked.told_locked.Given as goal
use Rattle.std.specs.Prelude.{pos}

-- each book is named by its blank, and the desk begins with the configuration that was just made
abbrev pub ghosts-run_behind-B-Ledgers : goal.ghosts-run_behind-B-Ledgers
ghosts-run_behind-B-Ledgers g a = record {
  asks = record { name = a.blanks.asks.name; parts = a.blanks.asks.parts };
  makes = record { name = a.blanks.makes.name; parts = a.blanks.makes.parts };
  refusals = record { name = a.blanks.refusals.name; parts = a.blanks.refusals.parts };
  grants = record { name = a.blanks.grants.name; parts = a.blanks.grants.parts };
}

abbrev pub ghosts-run_behind-F-DeskStart : goal.ghosts-run_behind-F-DeskStart
ghosts-run_behind-F-DeskStart g a = record { first = record { config = a.setup; offset = pos 0 } }
