use Rattle.std.proofs.Common.{◌≡◌, ◌+◌, ◌≤◌, ℕ, length, true, false, Some, is_some, arith, ap, sym, ◌∙◌, subst, refl}
use Rattle.sq_machine.specs.Channels.{opened}
use Rattle.sq_machine.specs.Living.{find_proc, lives, slots_by, slots_in}
use Rattle.sq_machine.specs.Losses.{times_lost}
use Rattle.sq_machine.specs.Rising.{times_of}
use Rattle.sq_farm.proofs.PlaceLaws.{places_ended}
use Rattle.sq_farm.proofs.FarmLaws.{IsStock_ended, length_lose_all, once_ended, open_without}
use Rattle.sq_farm.proofs.CallLaws.{without_none}
use Rattle.sq_farm.proofs.farms.Farm.end.Goals as goal

pub invariant_of-self : goal.invariant_of-self
invariant_of-self c =
    let f = c.self.inside in
    let none : lives c.args.proc f.procs ≡ false = ap is_some (sym c.remove.ensures.process ∙ c.in_default.is) in
    rw (c.remove.ensures.value, without_none c.args.proc f.procs none) c.self.invariant

pub returns-in_default-clause-value : goal.returns-in_default-clause-value
returns-in_default-clause-value c =
    let f = c.self.inside in
    let none : lives c.args.proc f.procs ≡ false = ap is_some (sym c.remove.ensures.process ∙ c.in_default.is) in
    rw (← c.self.view_is, c.remove.ensures.value, without_none c.args.proc f.procs none) refl

pub overflow_sub-self : goal.overflow_sub-self
overflow_sub-self c =
    let f = c.self.inside in
    let found : find_proc c.args.proc f.procs ≡ Some c.in-Some.process = sym c.remove.ensures.process ∙ c.in-Some.is in
    let alive : lives c.args.proc f.procs ≡ true = ap is_some found in
    let parts = open_without c.args.proc f.procs c.self.invariant.0.rising alive in
    let slots : length (opened (slots_in c.args.proc f.procs)) ≡ length (opened c.in-Some.process.slots) =
    ap (λ o. length (opened (slots_by o))) found in
    grind (arith, parts, slots, c.open_count.ensures, c.self.invariant.1)

pub lose_open-requires-clause-room : goal.lose_open-requires-clause-room
lose_open-requires-clause-room c =
    let f = c.self.inside in
    let found : find_proc c.args.proc f.procs ≡ Some c.in-Some.process = sym c.remove.ensures.process ∙ c.in-Some.is in
    let alive : lives c.args.proc f.procs ≡ true = ap is_some found in
    let parts = open_without c.args.proc f.procs c.self.invariant.0.rising alive in
    let slots : length (opened (slots_in c.args.proc f.procs)) ≡ length (opened c.in-Some.process.slots) =
    ap (λ o. length (opened (slots_by o))) found in
    grind (arith, parts, slots, c.self.invariant.2)

pub lose_open-requires-clause-once : goal.lose_open-requires-clause-once
lose_open-requires-clause-once c =
    let f = c.self.inside in
    let found : find_proc c.args.proc f.procs ≡ Some c.in-Some.process = sym c.remove.ensures.process ∙ c.in-Some.is in
    let alive : lives c.args.proc f.procs ≡ true = ap is_some found in
    subst (λ o. (q : ℕ) → times_lost q f.losses.losses + times_of q (opened (slots_by o)) ≤ 1) found
    (once_ended _ c.args.proc c.self.invariant.0 alive)

pub invariant_of-self-2 : goal.invariant_of-self-2
invariant_of-self-2 c =
    let f = c.self.inside in
    let k = c.args.proc in
    let found : find_proc k f.procs ≡ Some c.in-Some.process = sym c.remove.ensures.process ∙ c.in-Some.is in
    let alive : lives k f.procs ≡ true = ap is_some found in
    let parts = open_without k f.procs c.self.invariant.0.rising alive in
    let slots : opened (slots_in k f.procs) ≡ opened c.in-Some.process.slots = ap (λ o. opened (slots_by o)) found in
    let count = ap length slots in
    let all = length_lose_all c.args.cause (opened (slots_in k f.procs)) f.losses.losses in
    rw (c.remove.ensures.value, c.lose_open.ensures.losses, ← slots) (
      IsStock_ended _ c.args.cause k c.self.invariant.0 alive,
      grind (arith, parts, count, c.open_count.ensures, c.self.invariant.1),
      grind (arith, parts, count, all, c.lose_open.ensures.room, c.self.invariant.2),
    )

pub returns-in_default-clause-stay : goal.returns-in_default-clause-stay
returns-in_default-clause-stay c =
    let f = c.self.inside in
    let none : lives c.args.proc f.procs ≡ false = ap is_some (sym c.remove.ensures.process ∙ c.in_default.is) in
    λ q. rw (← c.self.view_is, c.remove.ensures.value, without_none c.args.proc f.procs none) refl

pub returns-clause-stay : goal.returns-clause-stay
returns-clause-stay c =
    let f = c.self.inside in
    let k = c.args.proc in
    let found : find_proc k f.procs ≡ Some c.in-Some.process = sym c.remove.ensures.process ∙ c.in-Some.is in
    let alive : lives k f.procs ≡ true = ap is_some found in
    let slots : opened (slots_in k f.procs) ≡ opened c.in-Some.process.slots = ap (λ o. opened (slots_by o)) found in
    λ q. rw (← c.self.view_is, c.remove.ensures.value, c.lose_open.ensures.losses, ← slots)
    (places_ended (record {
      concurrency = f.concurrency;
      children_max = f.children_max;
      queue_size = f.queue_size;
      queue = f.queue.items;
      procs = f.procs;
      owed = f.owed;
      starting = f.starting;
      held = f.held;
      losses = f.losses.losses;
    }) c.args.cause k c.self.invariant.0.rising alive q)
