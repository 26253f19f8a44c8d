use Rattle.std.proofs.Common.{◌≡◌, ◌++◌, take}
use Rattle.std.specs.List.{flat_map}
use Rattle.sq_base.specs.Replies.{pair_text}
use Rattle.sq_reply.specs.Printing.{HaveBytes}
use Rattle.sq_reply.proofs.printing.put_pairs.Given as goal

-- the pairs so far are written, and their values have bytes
abbrev pub invariant-loop-pair : goal.invariant-loop-pair
invariant-loop-pair l = record {
  written : l.text ≡ l.fn.text ++ flat_map pair_text (take l.pair-index l.pairs);
  small : HaveBytes (take l.pair-index l.pairs);
}
