use Rattle.sq_server.proofs.serving.serve.Given as goal

-- each book is named by its blank, the journal begins with the count that it has, and the desk with the configuration
abbrev pub ghosts-serve_with-B-Ledgers : goal.ghosts-serve_with-B-Ledgers
ghosts-serve_with-B-Ledgers g a = record {
  asks = record { name = a.blanks.asks.name; parts = a.blanks.asks.parts };
  makes = record { name = a.blanks.makes.name; parts = a.blanks.makes.parts };
  refusals = record { name = a.blanks.refusals.name; parts = a.blanks.refusals.parts };
  grants = record { name = a.blanks.grants.name; parts = a.blanks.grants.parts };
}

abbrev pub ghosts-serve_with-B-Before : goal.ghosts-serve_with-B-Before
ghosts-serve_with-B-Before g a = record { faults = g.J.Journal.faults a.self.journal }

abbrev pub ghosts-serve_with-B-DeskStart : goal.ghosts-serve_with-B-DeskStart
ghosts-serve_with-B-DeskStart g a = record {
  first = record { config = a.self.start.setup; offset = a.self.start.offset };
}
