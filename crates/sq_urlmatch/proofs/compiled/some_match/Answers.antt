use Rattle.std.proofs.Common.{◌+◌, ◌∙◌, ap, sym, drop, arith}
use Rattle.std.proofs.Math.Seq.{map-set_same}
use Rattle.sq_urlmatch.proofs.MatcherLaws.{found_here, not_here, programs_from}
use Rattle.sq_urlmatch.specs.Programs.{some_program}
use Rattle.sq_urlmatch.proofs.compiled.some_match.Goals as goal

pub returns-in_err-is_match-clause-same : goal.returns-in_err-is_match-clause-same
returns-in_err-is_match-clause-same c = map-set_same (λ m. m.program) c.loop-matcher.matchers
    c.loop-matcher.matcher-index c.is_match.new.self _ c.is_match.ensures.same ∙ c.loop-matcher.invariant.same

pub returns-then-branch-clause-same : goal.returns-then-branch-clause-same
returns-then-branch-clause-same c = map-set_same (λ m. m.program) c.loop-matcher.matchers c.loop-matcher.matcher-index
    c.is_match.new.self _ c.is_match.ensures.same ∙ c.loop-matcher.invariant.same

pub returns-then-branch-clause-found : goal.returns-then-branch-clause-found
returns-then-branch-clause-found c =
    let split = programs_from c.args.subject.now c.loop-matcher.matchers c.loop-matcher.matcher-index _ (omega arith) in
    found_here _ _ _ (sym c.in_ok-is_match.ensures.found ∙ c.if-branch.true)
    (sym split ∙ c.loop-matcher.invariant.found)

pub loop-matcher-preserved : goal.loop-matcher-preserved
loop-matcher-preserved c =
    let split = programs_from c.args.subject.now c.loop-matcher.matchers c.loop-matcher.matcher-index _ (omega arith) in
    let same = map-set_same (λ m. m.program) c.loop-matcher.matchers c.loop-matcher.matcher-index c.is_match.new.self _
    c.is_match.ensures.same in
    record {
      found = ap (λ programs. some_program c.args.subject.now (drop (c.loop-matcher.matcher-index + 1) programs)) same
          ∙ not_here _ _ _ (sym c.in_ok-is_match.ensures.found ∙ c.if-branch.false)
          (sym split ∙ c.loop-matcher.invariant.found);
      same = same ∙ c.loop-matcher.invariant.same;
    }
