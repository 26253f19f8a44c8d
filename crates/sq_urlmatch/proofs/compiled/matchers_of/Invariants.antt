use Rattle.std.proofs.Common.{◌≡◌, ◌++◌}
use Rattle.sq_urlmatch.specs.Matchers.{programs_in}
use Rattle.sq_urlmatch.proofs.compiled.matchers_of.Given as goal

abbrev pub invariant-loop-program : goal.invariant-loop-program
invariant-loop-program l = programs_in l.matchers.items ++ l.program-iterator.rest.items ≡ l.fn.programs.items
