use Rattle.std.proofs.Common.{◌-◌, arith, sym, ◌∙◌, length}
use Rattle.sq_urlmatch.proofs.NameLaws.{above_found, whole_decides}
use Rattle.sq_urlmatch.proofs.domains.finds.Goals as goal

pub returns-then-is_there : goal.returns-then-is_there
returns-then-is_there c =
    sym (above_found c.args.names.now c.args.host.now (length c.args.host.now - 1 - c.loop-k.k) (omega arith)
    c.if-byte-eq46.true (sym c.is_there.ensures ∙ c.if-is_there.true))

pub returns : goal.returns
returns c = c.is_there-2.ensures ∙ whole_decides c.args.names.now c.args.host.now c.loop-k.k (omega arith)
    c.loop-k.invariant.none
