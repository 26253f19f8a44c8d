use Rattle.std.proofs.Common.{sym, ap, ◌∙◌, arith, length}
use Rattle.sq_request.specs.Endings.{head_end}
use Rattle.sq_forward.proofs.FindLaws.{large_by_end, large_by_room}
use Rattle.sq_forward.proofs.heads.read_head.Goals as goal

pub returns-then-len-gt-MOST_BYTES-clause-found : goal.returns-then-len-gt-MOST_BYTES-clause-found
returns-then-len-gt-MOST_BYTES-clause-found g c =
    large_by_end c.loop.from.ahead (g.S.Source.left c.loop.from.source) c.in-Some-look.len
    (ap head_end (sym c.as_bytes.ensures.value) ∙ sym c.in-Some-look.ensures.place)
    (omega (arith, c.in-Some-look.ensures.inside, ap length c.as_bytes.ensures.value))
    (omega (arith, c.if-len-gt-MOST_BYTES.true))

pub returns-then-len-ge-MOST_BYTES-clause-found : goal.returns-then-len-ge-MOST_BYTES-clause-found
returns-then-len-ge-MOST_BYTES-clause-found g c =
    large_by_room c.loop.from.ahead (g.S.Source.left c.loop.from.source)
    (ap head_end (sym c.as_bytes.ensures.value) ∙ sym c.in-None-look.ensures.place)
    (omega (arith, c.if-len-ge-MOST_BYTES.true, c.len.ensures))
