use Rattle.std.proofs.Common.{◌+◌, ◌^◌, sym, subst, ltb-true, arith}
use Rattle.sq_base.proofs.RangeLaws.{block_end_address}
use Rattle.sq_base.specs.Addresses.{Address, IsAddress}
use Rattle.sq_base.specs.Ranges.{Divides, bits_of}
use Rattle.sq_addr.proofs.spans.block_at.Goals as goal

within : (c : goal.After-without_low_bits-first)
    → IsAddress (record { v6 = c.address.inside.v6; number = c.without_low_bits-first.result + c.args.low })
within c =
    block_end_address (record { v6 = c.address.inside.v6; number = c.address.inside.number }) c.args.low
    c.without_low_bits-first.result c.address.invariant
    (subst (λ (a : Address). Divides (c.args.low + 1) (2 ^ bits_of a.v6)) (sym c.address.view_is) c.requires)
    c.without_low_bits-first.ensures

pub overflow_add-result : goal.overflow_add-result
overflow_add-result c = let fits = ltb-true (c.without_low_bits-first.result + c.args.low) (2 ^ 128) (within c).1 in
    omega arith

pub invariant_of-result-2 : goal.invariant_of-result-2
invariant_of-result-2 c = within c
