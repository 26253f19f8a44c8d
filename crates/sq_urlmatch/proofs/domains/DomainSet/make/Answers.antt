use Rattle.std.proofs.Common.{◌∙◌, ap, arith, subst}
use Rattle.sq_urlmatch.specs.Members.{in_some_domain}
use Rattle.sq_urlmatch.specs.Names.{AreStarts}
use Rattle.sq_urlmatch.proofs.domains.DomainSet.make.Goals as goal

pub invariant_of-result : goal.invariant_of-result
invariant_of-result c = record {
  fits = omega (arith, c.min-shift.ensures);
  hashed = c.in_ok-names-3.ensures.hashed;
  starts = subst (λ l. AreStarts l c.min-shift.result c.in_ok-starts.starts.items) c.as_slice-2.ensures.value
      c.in_ok-starts.ensures;
}

pub returns : goal.returns
returns c = λ host.
    c.in_ok-names-3.ensures.same host ∙ c.in_ok-names-2.ensures.same host ∙ c.in_ok-sorted.ensures.same host
    ∙ c.in_ok-names.ensures.same host ∙ ap (λ l. in_some_domain l host) c.as_slice.ensures
