use Rattle.std.proofs.Common.{◌≡◌, ◌==◌, true, bytes_eq, sym, ◌∙◌, ap, arith}
use Rattle.std.specs.Prelude.{position}
use Rattle.std.proofs.lemmas.Bool.Decides.{nat_tests}
use Rattle.sq_outside_mem.specs.MemoryWorld.{is_origin}
use Rattle.sq_outside_mem.proofs.Taken.{taken_passes, both_hold, bytes_same}
use Rattle.sq_outside_mem.proofs.mem_dialer.take_origin.Goals as goal

pub returns-clause-host : goal.returns-clause-host
returns-clause-host c =
    let test = is_origin c.args.host.now c.args.port in
    let at = sym (c.in_ok-place.ensures ∙ ap (position test) c.as_slice.ensures.value) in
    let passes = taken_passes test _ _ c.remove.result
    (c.in_ok-place.place, at, c.remove.ensures.value, c.remove.ensures.items) in
    bytes_same c.remove.result.host c.args.host.now (both_hold _ _ passes).0

pub returns-clause-port : goal.returns-clause-port
returns-clause-port c =
    let test = is_origin c.args.host.now c.args.port in
    let at = sym (c.in_ok-place.ensures ∙ ap (position test) c.as_slice.ensures.value) in
    let passes = taken_passes test _ _ c.remove.result
    (c.in_ok-place.place, at, c.remove.ensures.value, c.remove.ensures.items) in
    let same : (c.remove.result.port == c.args.port) ≡ true =
    (both_hold (bytes_eq c.remove.result.host c.args.host.now) (c.remove.result.port == c.args.port) passes).1 in
    grind (arith, nat_tests)
