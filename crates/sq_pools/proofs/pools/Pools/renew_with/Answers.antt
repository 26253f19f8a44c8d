use Rattle.std.proofs.Common.{◌≡◌, ◌≤◌, max, ℕ, arith}
use Rattle.sq_machine.specs.PoolReadings.{is_aggregate}
use Rattle.sq_pools.proofs.BasinLaws.{IsLoose, basin, renewed_loose, retired_basin}
use Rattle.sq_pools.proofs.pools.Pools.renew_with.Goals as goal

pub invariant_of-self-2 : goal.invariant_of-self-2
invariant_of-self-2 c =
    let p = c.self.inside in
    let u : ℕ = c.later-now.result in
    let later : p.latest ≤ u = let is : u ≡ max c.args.now p.latest = c.later-now.ensures in omega arith in
    let loose : IsLoose p.newest (basin c.begin.new.self p.seats p.given c.args.epoch u p.granted) =
    renewed_loose p.generations c.begin.new.self p.seats p.given p.newest p.latest u p.granted c.args.epoch
    c.args.initial (is_aggregate c.args.pools.now) c.self.invariant later
    c.in_ok-begin.ensures.made c.in_ok-begin.ensures.held c.in_ok-begin.ensures.buckets in
    retired_basin p.newest c.begin.new.self c.retire.new.self p.seats p.given c.args.epoch u p.granted loose
    c.retire.ensures.made c.retire.ensures.held c.retire.ensures.buckets
