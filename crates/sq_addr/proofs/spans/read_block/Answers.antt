use Rattle.std.proofs.Common.{◌+◌, ◌^◌, sym, subst}
use Rattle.sq_base.proofs.RangeLaws.{block_size_divides}
use Rattle.sq_base.specs.Addresses.{Address}
use Rattle.sq_base.specs.Ranges.{Divides, bits_of}
use Rattle.sq_addr.proofs.spans.read_block.Goals as goal

pub block_at-requires : goal.block_at-requires
block_at-requires c =
    subst (λ (a : Address). Divides (c.in-Some.low + 1) (2 ^ bits_of a.v6)) c.address.view_is
    (block_size_divides c.address.inside.v6 c.args.word.now (c.in-Some.low + 1) (sym c.in-Some.ensures))
