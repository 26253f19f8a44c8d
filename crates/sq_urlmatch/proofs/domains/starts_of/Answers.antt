use Rattle.std.proofs.Common.{◌∷◌, [], length, ltb, arith, rules, subst, sym, ap, ◌∙◌}
use Rattle.std.proofs.lemmas.List.{length-append}
use Rattle.std.proofs.lemmas.List.Sorted.{IsPartitionedBy-ltb, IsPartitionPoint-from_clause}
use Rattle.sq_urlmatch.proofs.TableLaws.{starts_push}
use Rattle.sq_urlmatch.specs.Names.{place_of, AreStarts, Parts}
use Rattle.sq_urlmatch.specs.declared.names.Name.{Name}
use Rattle.sq_urlmatch.proofs.domains.starts_of.Goals as goal

pub loop-place-preserved : goal.loop-place-preserved
loop-place-preserved c =
    let names = c.args.names.now in
    let shift = c.args.shift in
    let place = c.loop-place.place-counter in
    let starts = c.loop-place.starts.items in
    let index = c.partition_point.result in
    let items = c.in_ok-push.ensures.items in
    let long = length-append starts (index ∷ []) in
    let point : Parts names shift place index =
    IsPartitionPoint-from_clause (λ (n : Name). ltb (place_of n.hash shift) place) names index
    c.partition_point.ensures.partitioned
    (IsPartitionedBy-ltb (λ (n : Name). place_of n.hash shift) names place c.requires.rising)
    (λ a r q k. search rules) in
    record {
      long = ap (λ l. length l) items ∙ omega (arith, long, c.loop-place.invariant.long);
      starts = subst (λ l. AreStarts names shift l) (sym items)
          (starts_push names shift starts index c.loop-place.invariant.starts
          (subst (λ p. Parts names shift p index) (sym c.loop-place.invariant.long) point));
    }
