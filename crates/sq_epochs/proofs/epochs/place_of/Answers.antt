use Rattle.std.proofs.lemmas.List.Sorted.{IsPartitionPoint-from_clause}
use Rattle.std.proofs.Common.{nat_lt, rules}
use Rattle.sq_epochs.specs.EpochStates.{epoch_number}
use Rattle.sq_channel.proofs.RisingLaws.{place_found, rises_parts}
use Rattle.sq_epochs.proofs.epochs.place_of.Goals as goal

pub returns-clause-place : goal.returns-clause-place
returns-clause-place c =
    let k = c.args.number in
    let rows = c.args.epochs.now in
    place_found epoch_number k rows c.partition_point.result c.partition_point.ensures.bound
    (IsPartitionPoint-from_clause (λ r. nat_lt (epoch_number r) k) rows c.partition_point.result
    c.partition_point.ensures.partitioned (rises_parts epoch_number k rows c.requires) (λ a r f h. search rules))
