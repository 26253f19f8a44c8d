use Rattle.std.proofs.lemmas.List.Sorted.{IsPartitionPoint-from_clause}
use Rattle.std.proofs.Common.{nat_lt, rules, ◌≤◌, length, arith}
use Rattle.std.proofs.lemmas.Grind.{common_steps}
use Rattle.sq_channel.specs.Indexes.{place_question}
use Rattle.sq_channel.proofs.RisingLaws.{place_found, rises_parts}
use Rattle.sq_channel.proofs.questions.place_of.Goals as goal

pub returns-clause-place : goal.returns-clause-place
returns-clause-place c =
    let q = c.args.question in
    let ps = c.args.items.now.items in
    let l : c.partition_point.result ≤ length ps = grind (arith, common_steps, c.partition_point.ensures.bound) in
    place_found place_question q ps c.partition_point.result l
    (IsPartitionPoint-from_clause (λ p. nat_lt (place_question p) q) ps c.partition_point.result
    c.partition_point.ensures.partitioned (rises_parts place_question q ps c.requires) (λ a r f k. search rules))
