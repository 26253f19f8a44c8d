use Rattle.std.proofs.Common.{◌≡◌, ◌∷◌, true, length, arith, ap, sym, ◌∙◌}
use Rattle.std.proofs.lemmas.Grind.{common_steps}
use Rattle.sq_machine.specs.Living.{some_free}
use Rattle.sq_machine.specs.Farms.{Waiting}
use Rattle.sq_farm.specs.Acts.{told_send}
use Rattle.sq_farm.proofs.FarmLaws.{IsStock_send, open_sent}
use Rattle.sq_farm.proofs.DueLaws.{send_none}
use Rattle.sq_farm.proofs.farms.Farm.send.Goals as goal

pub returns-then-not-some_free-clause-act : goal.returns-then-not-some_free-clause-act
returns-then-not-some_free-clause-act c =
    rw (← c.self.view_is) (ap told_send
    (sym (send_none c.self.inside.queue.items c.self.inside.procs (sym c.some_free.ensures ∙ c.if-not-some_free.true))))

pub invariant_of-self-2 : goal.invariant_of-self-2
invariant_of-self-2 c =
    let f = c.self.inside in
    let w : Waiting = record { question = c.waiting.inside.question; text = c.waiting.inside.text } in
    let free : some_free f.procs ≡ true = sym c.some_free.ensures ∙ c.if-not-some_free.false in
    let more = open_sent w.question f.procs free in
    let queue = c.in_ok-waiting.ensures.items ∙ ap (λ z. z ∷ c.pop_front.new.self.items) (sym c.waiting.view_is) in
    rw (c.send-channel.ensures.value) (
      IsStock_send _ w c.pop_front.new.self.items queue free c.self.invariant.0,
      grind (arith, more, c.self.invariant.1),
      grind (arith, common_steps, more, ap length queue, c.self.invariant.2),
    )
