use Rattle.std.proofs.Common.{◌≡◌, ◌||◌, ◌*◌, nat_lt, max, length, arith, ap, sym, ◌∙◌}
use Rattle.std.proofs.lemmas.Bool.{le-ltb, lt-ltb}
use Rattle.std.proofs.lemmas.Grind.{common_steps}
use Rattle.sq_farm.proofs.DueLaws.{max_swap, start_held, start_many, start_owed}
use Rattle.sq_farm.proofs.farms.Farm.start_due.Goals as goal
use Rattle.sq_farm.proofs.farms.Farm.start_due.Goals.{then-len-starting-via-then-len-starting, then-len-starting-via-else-len-starting+then-self}

pub returns-then-len-starting : goal.returns-then-len-starting
returns-then-len-starting c =
    rw (← c.self.view_is) (elim c.then-len-starting.branch [
      | then-len-starting-via-then-len-starting w ↦
          sym (start_many _ (grind (arith, common_steps, w.if-len-starting.true, c.len.ensures)))
      | then-len-starting-via-else-len-starting+then-self w ↦ sym (start_held _ w.if-self.true)
    ])

pub returns-then-self-gt0 : goal.returns-then-self-gt0
returns-then-self-gt0 c =
    let f = c.self.inside in
    let some = lt-ltb 0 f.owed c.if-self-gt0.true in
    rw (← c.self.view_is) (some
    ∙ sym (start_owed _ (grind (arith, c.if-len-starting.false, c.len.ensures)) c.if-self.false
    ∙ ap (λ b. b || nat_lt (f.starting * max 1 f.concurrency) (length f.queue.items)) some))

pub returns-else-self-gt0 : goal.returns-else-self-gt0
returns-else-self-gt0 c =
    let f = c.self.inside in
    let none = le-ltb 0 f.owed c.if-self-gt0.false in
    let len : c.len-else-self-gt0.result ≡ length f.queue.items =
    grind (arith, common_steps, c.len-else-self-gt0.ensures) in
    rw (← c.self.view_is) (ap (λ n. nat_lt (f.starting * n) c.len-else-self-gt0.result)
    (c.max.ensures ∙ max_swap f.concurrency) ∙ ap (nat_lt (f.starting * max 1 f.concurrency)) len
    ∙ sym (start_owed _ (grind (arith, c.if-len-starting.false, c.len.ensures)) c.if-self.false
    ∙ ap (λ b. b || nat_lt (f.starting * max 1 f.concurrency) (length f.queue.items)) none))
