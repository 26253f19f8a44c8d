-- What matchers search for.
use Rattle.std.specs.Prelude.{List, map}
use Rattle.regex_meta.specs.declared.program.Program.{Program}
use Rattle.sq_urlmatch.specs.declared.matcher.Matcher.{Matcher}

-- the programs of matchers
abbrev pub programs_in : List Matcher → List Program
programs_in matchers = map (λ m. m.program) matchers
