use Rattle.std.proofs.Common.{◌≡◌, false, refl, sym, ◌∙◌, ap}
use Rattle.sq_outside.specs.Calls.{is_listed, counted}
use Rattle.sq_outside_mem.specs.MemoryServer.{spawner_fails, spawner_faults, spawner_lists_next}
use Rattle.sq_outside_mem.proofs.Failing.{neither_fails}
use Rattle.sq_outside_mem.proofs.mem_spawner.MemSpawnerSpawner.start.Goals as goal

pub returns-in-Some-clause-link : goal.returns-in-Some-clause-link
returns-in-Some-clause-link c = (
  c.in-Some.child,
  c.in-Some.ensures.taken,
  sym c.new.ensures.source,
  sym c.new.ensures.waits,
  refl,
)

pub returns-in-Some-clause-fails : goal.returns-in-Some-clause-fails
returns-in-Some-clause-fails c =
    let self = c.args.self.now in
    let listed : spawner_lists_next self ≡ false =
    sym (c.in_ok-next.ensures.listed ∙ ap (is_listed (spawner_fails self)) c.in_ok-next.ensures.made) in
    neither_fails _ _ listed (sym c.in-Some.ensures.found)

pub returns-in-Some-clause-counts : goal.returns-in-Some-clause-counts
returns-in-Some-clause-counts c =
    let self = c.args.self.now in
    let listed : spawner_lists_next self ≡ false =
    sym (c.in_ok-next.ensures.listed ∙ ap (is_listed (spawner_fails self)) c.in_ok-next.ensures.made) in
    c.in_ok-next.ensures.quiet
    ∙ ap (λ failed. counted failed (spawner_faults self)) (neither_fails _ _ listed (sym c.in-Some.ensures.found))
