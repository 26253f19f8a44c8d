use Rattle.std.proofs.Common.{◌≡◌, false, refl, sym, ◌∙◌, ap}
use Rattle.sq_outside.specs.Calls.{is_listed, counted}
use Rattle.sq_outside_mem.specs.MemoryWorld.{dialer_fails, dialer_faults, dialer_lists_next}
use Rattle.sq_outside_mem.proofs.Failing.{neither_fails}
use Rattle.sq_outside_mem.proofs.mem_dialer.MemDialerDialer.dial.Goals as goal

pub returns-in-Some-clause-link : goal.returns-in-Some-clause-link
returns-in-Some-clause-link c = (c.in-Some.origin, c.in-Some.ensures.taken, refl, refl)

pub returns-in-Some-clause-fails : goal.returns-in-Some-clause-fails
returns-in-Some-clause-fails c =
    let self = c.args.self.now in
    let listed : dialer_lists_next self ≡ false =
    sym (c.in_ok-next.ensures.listed ∙ ap (is_listed (dialer_fails self)) c.in_ok-next.ensures.made) in
    neither_fails _ _ listed (sym c.in-Some.ensures.found)

pub returns-in-Some-clause-counts : goal.returns-in-Some-clause-counts
returns-in-Some-clause-counts c =
    let self = c.args.self.now in
    let listed : dialer_lists_next self ≡ false =
    sym (c.in_ok-next.ensures.listed ∙ ap (is_listed (dialer_fails self)) c.in_ok-next.ensures.made) in
    c.in_ok-next.ensures.quiet
    ∙ ap (λ failed. counted failed (dialer_faults self)) (neither_fails _ _ listed (sym c.in-Some.ensures.found))
