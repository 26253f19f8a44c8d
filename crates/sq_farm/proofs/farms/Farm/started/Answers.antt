use Rattle.std.proofs.Common.{◌≡◌, ap₂, ◌<◌, ◌∙◌, ap, arith, Bool, List, ℕ}
use Rattle.std.specs.declared.option.Option.{Option}
use Rattle.sq_machine.specs.Channels.{Channels}
use Rattle.sq_machine.specs.Farms.{fresh}
use Rattle.sq_machine.specs.Living.{with_proc}
use Rattle.sq_farm.proofs.ReplyLaws.{IsStock_started, open_started, places_started}
use Rattle.sq_farm.proofs.farms.Farm.started.Goals as goal

made_of : (p : Channels) (b : Bool) (slots : List (Option ℕ)) → p.numbered ≡ b → p.slots ≡ slots
    → p ≡ record { numbered = b; slots = slots }
made_of p b slots n s = ap₂ (λ x y. record { numbered = x; slots = y }) n s

pub invariant_of-self-2 : goal.invariant_of-self-2
invariant_of-self-2 c =
    let f = c.self.inside in
    let k = c.args.proc in
    let made : c.in_ok-process.process ≡ (fresh f.concurrency k).process =
    made_of c.in_ok-process.process _ _ c.in_ok-process.ensures.numbered c.in_ok-process.ensures.slots in
    let procs : c.insert.new.self ≡ with_proc (fresh f.concurrency k) f.procs = c.in_ok-insert.ensures.ok
    ∙ ap (λ z. with_proc (record { number = k; process = z }) f.procs) made in
    let some : 0 < f.starting = grind (arith, c.if-self-eq0.false) in
    let same = open_started (record {
      concurrency = f.concurrency;
      children_max = f.children_max;
      queue_size = f.queue_size;
      queue = f.queue.items;
      procs = f.procs;
      owed = f.owed;
      starting = f.starting;
      held = f.held;
      losses = f.losses.losses;
    }) k in
    rw procs (
      IsStock_started _ k c.self.invariant.0 (rw (← c.self.view_is) at c.requires) some,
      grind (arith, same, c.self.invariant.1),
      grind (arith, same, c.self.invariant.2),
    )

pub returns-clause-stay : goal.returns-clause-stay
returns-clause-stay c = λ q.
    let f = c.self.inside in
    let k = c.args.proc in
    let made : c.in_ok-process.process ≡ (fresh f.concurrency k).process =
    made_of c.in_ok-process.process _ _ c.in_ok-process.ensures.numbered c.in_ok-process.ensures.slots in
    let procs : c.insert.new.self ≡ with_proc (fresh f.concurrency k) f.procs = c.in_ok-insert.ensures.ok
    ∙ ap (λ z. with_proc (record { number = k; process = z }) f.procs) made in
    rw (← c.self.view_is, procs)
    (places_started (record {
      concurrency = f.concurrency;
      children_max = f.children_max;
      queue_size = f.queue_size;
      queue = f.queue.items;
      procs = f.procs;
      owed = f.owed;
      starting = f.starting;
      held = f.held;
      losses = f.losses.losses;
    }) k q)
