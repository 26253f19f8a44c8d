use Rattle.std.proofs.lemmas.List.Sorted.{IsPartitionPoint-from_clause}
use Rattle.std.proofs.lemmas.List.{map-id}
use Rattle.std.proofs.Common.{◌≤◌, nat_lt, rules, map, ℕ, length, arith, subst, sym, ap, ◌∙◌}
use Rattle.std.proofs.lemmas.Grind.{common_steps}
use Rattle.sq_machine.specs.Rising.{Rises, place_among}
use Rattle.sq_channel.proofs.RisingLaws.{place_found, rises_parts}
use Rattle.sq_epochs.proofs.stops.place_of.Goals as goal

pub returns-clause-place : goal.returns-clause-place
returns-clause-place c =
    let k = c.args.proc in
    let ns = c.args.stops.now.items in
    let rises : Rises (map (λ (n : ℕ). n) ns) = subst Rises (sym (map-id ns)) c.requires in
    let l : c.partition_point.result ≤ length ns = grind (arith, common_steps, c.partition_point.ensures.bound) in
    place_found (λ n. n) k ns c.partition_point.result l
    (IsPartitionPoint-from_clause (λ n. nat_lt n k) ns c.partition_point.result c.partition_point.ensures.partitioned
    (rises_parts (λ n. n) k ns rises) (λ a r f h. search rules))
    ∙ ap (place_among k) (map-id ns)
