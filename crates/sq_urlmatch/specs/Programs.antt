-- Where programs are found.
use Rattle.std.specs.Prelude.{ℕ, Bool, List, is_some}
use Rattle.std.specs.List.{list_any}
use Rattle.regex_hir.specs.Find.{find}
use Rattle.regex_meta.specs.Programs.{pattern_of}
use Rattle.regex_meta.specs.declared.program.Program.{Program}

-- the program is found in the text
abbrev pub program_found : List ℕ → Program → Bool
program_found text p = is_some (find (pattern_of p) text 0)

-- some program is found in the text
abbrev pub some_program : List ℕ → List Program → Bool
some_program text programs = list_any (program_found text) programs
