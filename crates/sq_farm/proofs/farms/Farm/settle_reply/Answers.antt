use Rattle.std.proofs.Common.{◌≡◌, ◌≤◌, true, arith, refl}
use Rattle.sq_machine.specs.Channels.{is_open}
use Rattle.sq_machine.specs.Living.{slots_in, times_in}
use Rattle.sq_farm.proofs.ReplyLaws.{IsStock_settled, others_settled, open_settled_law}
use Rattle.sq_farm.proofs.farms.Farm.settle_reply.Goals as goal

pub overflow_sub-self : goal.overflow_sub-self
overflow_sub-self c =
    let f = c.self.inside in
    let opened : is_open c.args.question (slots_in c.args.proc f.procs) ≡ true = rw (← c.self.view_is) at c.requires in
    let once = c.self.invariant.0.once c.args.question in
    let fewer : times_in c.args.question f.procs ≤ 1 = omega arith in
    grind (
      arith,
      open_settled_law c.args.proc c.args.question f.procs c.self.invariant.0.rising opened fewer,
      c.self.invariant.1,
    )

pub invariant_of-self : goal.invariant_of-self
invariant_of-self c =
    let f = c.self.inside in
    let opened : is_open c.args.question (slots_in c.args.proc f.procs) ≡ true = rw (← c.self.view_is) at c.requires in
    let once = c.self.invariant.0.once c.args.question in
    let fewer : times_in c.args.question f.procs ≤ 1 = omega arith in
    let less = open_settled_law c.args.proc c.args.question f.procs c.self.invariant.0.rising opened fewer in
    rw (c.settle.ensures) (
      IsStock_settled _ c.args.proc c.args.question c.self.invariant.0 opened,
      grind (arith, less, c.self.invariant.1),
      grind (arith, less, c.self.invariant.2),
    )

pub returns-clause-stay : goal.returns-clause-stay
returns-clause-stay c =
    let f = c.self.inside in
    λ q n. rw (← c.self.view_is, c.settle.ensures, others_settled q c.args.proc c.args.question f.procs n) refl
