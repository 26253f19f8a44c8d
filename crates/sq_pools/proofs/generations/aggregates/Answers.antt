use Rattle.std.proofs.Common.{◌≡◌, ◌∙◌, ◌+◌, Some, refl, slice_get, ap, sym, arith}
use Rattle.std.proofs.lemmas.Option.{slice_get-get_or}
use Rattle.sq_machine.specs.PoolReadings.{Beginning}
use Rattle.sq_pools.proofs.AggregateLaws.{aggregates_end, aggregates_step}
use Rattle.sq_pools.proofs.generations.aggregates.Goals as goal

pub loop-pool-preserved : goal.loop-pool-preserved
loop-pool-preserved c =
    let i = c.loop-pool.pool-index in
    let p = c.pool-item.result in
    let b : Beginning = record { initial = c.args.initial; pools = c.args.pools.now } in
    let at : slice_get b.pools i ≡ Some p =
    slice_get-get_or b.pools i p c.loop-pool-test.true ∙ ap (λ x. Some x) (sym c.pool-item.is) in
    record {
      are = λ s. aggregates_step b i c.loop-pool.place c.args.initial p s _ _
          at c.loop-pool.invariant.counted refl
          (c.loop-pool.invariant.are s) (c.in_ok-open_aggregate.ensures s);
      counted = ap (λ n. n + 1) c.loop-pool.invariant.counted;
    }

pub returns : goal.returns
returns c = λ s.
    let b : Beginning = record { initial = c.args.initial; pools = c.args.pools.now } in
    aggregates_end b c.loop-pool.pool-index s _ (omega arith) (c.loop-pool.invariant.are s)
