use Rattle.std.proofs.Common.{◌≡◌, ◌∙◌, ◌∷◌, ◌++◌, None, Some, ap, sym}
use Rattle.std.specs.Option.{option_to_list}
use Rattle.sq_machine.specs.Channels.{drained, first_open, opened}
use Rattle.sq_channel.proofs.SlotLaws.{drained_none, first_open_law, opened_drained, settled_first}
use Rattle.sq_channel.proofs.processes.Process.drain.Goals as goal

pub returns-in_err-question-clause-value : goal.returns-in_err-question-clause-value
returns-in_err-question-clause-value c =
    let slots = c.self.inside.slots.items in
    let none : first_open slots ≡ None = sym (c.first_open.ensures ∙ ap first_open c.deref.ensures.value)
    ∙ c.in_err-question.was in
    rw (← c.self.view_is) (ap (λ s. record { numbered = c.self.inside.numbered; slots = s })
    (sym (drained_none slots none)))

pub settle-requires : goal.settle-requires
settle-requires c =
    let slots = c.self.inside.slots.items in
    let q = c.in_ok-question.question in
    let some : first_open slots ≡ Some q = sym (c.first_open.ensures ∙ ap first_open c.deref.ensures.value)
    ∙ c.in_ok-question.was in
    rw (← c.self.view_is) (first_open_law slots q some)

pub returns-clause-value : goal.returns-clause-value
returns-clause-value c =
    let slots = c.self.inside.slots.items in
    let q = c.in_ok-question.question in
    let some : first_open slots ≡ Some q = sym (c.first_open.ensures ∙ ap first_open c.deref.ensures.value)
    ∙ c.in_ok-question.was in
    rw (c.settle.ensures.value, ← c.self.view_is)
    (ap (λ s. record { numbered = c.self.inside.numbered; slots = s })
    (settled_first slots q some (c.self.invariant.0.once q)))

pub returns-clause-all : goal.returns-clause-all
returns-clause-all c =
    let slots = c.self.inside.slots.items in
    let q = c.in_ok-question.question in
    let some : first_open slots ≡ Some q = sym (c.first_open.ensures ∙ ap first_open c.deref.ensures.value)
    ∙ c.in_ok-question.was in
    rw (c.settle.ensures.value, ← c.self.view_is)
    (opened_drained slots ∙ ap (λ o. option_to_list o ++ opened (drained slots)) some
    ∙ ap (λ z. q ∷ opened z) (sym (settled_first slots q some (c.self.invariant.0.once q))))
