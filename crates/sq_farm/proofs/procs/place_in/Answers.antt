use Rattle.std.proofs.lemmas.List.Sorted.{IsPartitionPoint-from_clause}
use Rattle.std.proofs.lemmas.List.{map-id}
use Rattle.std.proofs.Common.{nat_lt, rules, map, ℕ, subst, sym, ap, ◌∙◌}
use Rattle.sq_machine.specs.Rising.{Rises, place_among}
use Rattle.sq_channel.proofs.RisingLaws.{place_found, rises_parts}
use Rattle.sq_farm.proofs.procs.place_in.Goals as goal

pub returns-clause-place : goal.returns-clause-place
returns-clause-place c =
    let k = c.args.proc in
    let ns = c.args.numbers.now in
    let rises : Rises (map (λ (n : ℕ). n) ns) = subst Rises (sym (map-id ns)) c.requires in
    place_found (λ n. n) k ns c.partition_point.result c.partition_point.ensures.bound
    (IsPartitionPoint-from_clause (λ n. nat_lt n k) ns c.partition_point.result c.partition_point.ensures.partitioned
    (rises_parts (λ n. n) k ns rises) (λ a r f h. search rules))
    ∙ ap (place_among k) (map-id ns)
