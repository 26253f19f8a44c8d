use Rattle.std.proofs.Common.{◌≡◌, drop}
use Rattle.sq_urlmatch.specs.Matchers.{programs_in}
use Rattle.sq_urlmatch.specs.Programs.{some_program}
use Rattle.sq_urlmatch.proofs.compiled.some_match.Given as goal

abbrev pub invariant-loop-matcher : goal.invariant-loop-matcher
invariant-loop-matcher l = record {
  found : some_program l.subject (drop l.matcher-index (programs_in l.matchers))
      ≡ some_program l.subject (programs_in l.fn.matchers);
  same : programs_in l.matchers ≡ programs_in l.fn.matchers;
}
