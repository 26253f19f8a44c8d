use Rattle.std.proofs.lemmas.List.Sorted.{IsPartitionPoint-from_clause}
use Rattle.std.proofs.Common.{nat_lt, rules, ◌≤◌, length, arith}
use Rattle.std.proofs.lemmas.Grind.{common_steps}
use Rattle.sq_machine.specs.Losses.{loss_number}
use Rattle.sq_channel.proofs.RisingLaws.{place_found, rises_parts}
use Rattle.sq_farm.proofs.losses.place_of.Goals as goal

pub returns-clause-place : goal.returns-clause-place
returns-clause-place c =
    let q = c.args.question in
    let ls = c.args.losses.now.items in
    let l : c.partition_point.result ≤ length ls = grind (arith, common_steps, c.partition_point.ensures.bound) in
    place_found loss_number q ls c.partition_point.result l
    (IsPartitionPoint-from_clause (λ l. nat_lt (loss_number l) q) ls c.partition_point.result
    c.partition_point.ensures.partitioned (rises_parts loss_number q ls c.requires) (λ a r f k. search rules))
