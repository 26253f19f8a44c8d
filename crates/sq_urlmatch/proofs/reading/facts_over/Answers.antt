use Rattle.std.proofs.Common.{◌∙◌, sym}
use Rattle.sq_rules.specs.Facts.{facts_of}
use Rattle.sq_urlmatch.proofs.FactLaws.{take_more}
use Rattle.sq_urlmatch.proofs.reading.facts_over.Goals as goal

pub loop-place-preserved : goal.loop-place-preserved
loop-place-preserved c =
    let facts = facts_of c.args.setup.now.acls c.args.sight.now in
    let here = rw c.loop-place.invariant.same at c.in_ok-fact_at.ensures.fact in
    record {
      made = rw (c.in_ok-push.ensures.items, c.loop-place.invariant.made)
          (sym (take_more facts c.loop-place.place c.in_ok-fact_at.field-0 here));
      same = c.in_ok-fact_at.ensures.same ∙ c.loop-place.invariant.same;
      count = c.loop-place.invariant.count;
    }
