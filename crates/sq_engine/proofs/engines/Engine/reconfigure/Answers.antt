use Rattle.std.proofs.Common.{◌≡◌, ◌∙◌, ◌+◌, ◌≤◌, ◌<◌, ℕ, suc, max, Ok, Err, ap, sym, subst, arith}
use Rattle.sq_machine.specs.Limits.{epoch_limit, last_number}
use Rattle.sq_machine.specs.Next.{gives, refuses}
use Rattle.sq_machine.specs.declared.entries.Told.TheVariants as told
use Rattle.sq_machine.specs.declared.refusals.Refusal.TheVariants as refusal
use Rattle.sq_epochs.specs.Reconfigured.{after_reconfigured}
use Rattle.sq_model.specs.Answers.{reconfigure_answer}
use Rattle.sq_model.specs.Changes as changes
use Rattle.sq_model.specs.States.{IsSame}
use Rattle.sq_engine.specs.Engines.{IsEngine}
use Rattle.sq_engine.specs.EngineViews.{EngineView, state_of}
use Rattle.sq_engine.proofs.ReconfigureLaws.{busy_read, reconfigure_busy, reconfigure_fine, reconfigure_promised, reconfigure_spent, reconfigured_engine, reconfigured_same}
use Rattle.sq_engine.proofs.engines.Engine.reconfigure.Goals as goal

pub returns-then-number-ge-LAST_NUMBER-clause-promised : goal.returns-then-number-ge-LAST_NUMBER-clause-promised
returns-then-number-ge-LAST_NUMBER-clause-promised c =
    let v : EngineView = record {
      conns = c.self.inside.conns;
      checks = c.self.inside.checks;
      asks = c.self.inside.asks;
      puts = c.self.inside.puts;
      epochs = c.self.inside.epochs;
      setup = c.self.inside.setup;
      offset = c.self.inside.offset;
      latest = c.self.inside.latest;
    } in
    let s = state_of c.args.self.now in
    let high : last_number ≤ suc c.current.result = omega (arith, c.number.view_is) in
    let one : suc c.current.result ≡ c.number.inside.0 + 1 = omega (arith, c.number.view_is) in
    let spent : last_number ≤ suc v.epochs.current = subst (λ n. last_number ≤ suc n) c.current.ensures high in
    let is : reconfigure_answer s ≡ refuses (refusal.Spent (c.number.inside.0 + 1)) =
    subst (λ z. reconfigure_answer (state_of z) ≡ refuses (refusal.Spent (c.number.inside.0 + 1))) c.self.view_is
    (reconfigure_spent (state_of v) spent
    ∙ ap (λ n. refuses (refusal.Spent n)) (ap suc (sym c.current.ensures) ∙ one)) in
    reconfigure_promised {A = ℕ} (λ n. told.Epoch n) s s (max c.args.now c.args.self.now.latest) c.args.setup
    (Err (refusal.Spent (c.number.inside.0 + 1))) is tt

pub returns-then-busy-clause-told : goal.returns-then-busy-clause-told
returns-then-busy-clause-told c =
    let v : EngineView = record {
      conns = c.self.inside.conns;
      checks = c.self.inside.checks;
      asks = c.self.inside.asks;
      puts = c.self.inside.puts;
      epochs = c.self.inside.epochs;
      setup = c.self.inside.setup;
      offset = c.self.inside.offset;
      latest = c.self.inside.latest;
    } in
    let low : suc c.current.result < last_number = omega (arith, c.number.view_is) in
    let few : suc v.epochs.current < last_number = subst (λ n. suc n < last_number) c.current.ensures low in
    let many : epoch_limit ≤ c.busy-busy.result = omega arith in
    subst (λ z. reconfigure_answer (state_of z) ≡ refuses (refusal.TooManyEpochs 16)) c.self.view_is
    (reconfigure_busy (state_of v) few
    (subst (λ b. epoch_limit ≤ b) (c.busy-busy.ensures ∙ busy_read v c.self.invariant) many))

pub returns-then-busy-clause-promised : goal.returns-then-busy-clause-promised
returns-then-busy-clause-promised c =
    let s = state_of c.args.self.now in
    reconfigure_promised {A = ℕ} (λ n. told.Epoch n) s s (max c.args.now c.args.self.now.latest) c.args.setup
    (Err (refusal.TooManyEpochs 16)) (returns-then-busy-clause-told c) tt

pub invariant_of-self-2 : goal.invariant_of-self-2
invariant_of-self-2 c =
    let v : EngineView = record {
      conns = c.self.inside.conns;
      checks = c.self.inside.checks;
      asks = c.self.inside.asks;
      puts = c.self.inside.puts;
      epochs = c.self.inside.epochs;
      setup = c.self.inside.setup;
      offset = c.self.inside.offset;
      latest = c.self.inside.latest;
    } in
    let made : c.reconfigure.new.self ≡ after_reconfigured c.args.setup v.epochs = c.in-Ok-reconfigure.ensures.ok
    ∙ ap (λ z. after_reconfigured z v.epochs) (c.in-Ok.ensures ∙ c.config.ensures) in
    subst (λ z. IsEngine (record v { epochs = c.reconfigure.new.self; setup = z; latest = c.later-self-inside.result }))
    (sym c.in-Ok-make.ensures)
    (reconfigured_engine v c.args.setup c.reconfigure.new.self c.later-self-inside.result c.self.invariant
    c.facts.ensures.live made)

pub returns-clause-told : goal.returns-clause-told
returns-clause-told c =
    let v : EngineView = record {
      conns = c.self.inside.conns;
      checks = c.self.inside.checks;
      asks = c.self.inside.asks;
      puts = c.self.inside.puts;
      epochs = c.self.inside.epochs;
      setup = c.self.inside.setup;
      offset = c.self.inside.offset;
      latest = c.self.inside.latest;
    } in
    let low : suc c.current.result < last_number = omega (arith, c.number.view_is) in
    let few : suc v.epochs.current < last_number = subst (λ n. suc n < last_number) c.current.ensures low in
    let some : c.busy-busy.result < epoch_limit = omega arith in
    subst (λ z. reconfigure_answer (state_of z) ≡ gives (told.Epoch c.in-Ok-reconfigure.epoch)) c.self.view_is
    (reconfigure_fine (state_of v) few
    (subst (λ b. b < epoch_limit) (c.busy-busy.ensures ∙ busy_read v c.self.invariant) some)
    ∙ ap (λ n. gives (told.Epoch n)) (sym c.in-Ok-reconfigure.ensures.number))

pub returns-clause-ok : goal.returns-clause-ok
returns-clause-ok c =
    let v : EngineView = record {
      conns = c.self.inside.conns;
      checks = c.self.inside.checks;
      asks = c.self.inside.asks;
      puts = c.self.inside.puts;
      epochs = c.self.inside.epochs;
      setup = c.self.inside.setup;
      offset = c.self.inside.offset;
      latest = c.self.inside.latest;
    } in
    let made : c.reconfigure.new.self ≡ after_reconfigured c.args.setup v.epochs = c.in-Ok-reconfigure.ensures.ok
    ∙ ap (λ z. after_reconfigured z v.epochs) (c.in-Ok.ensures ∙ c.config.ensures) in
    let new = record v { epochs = c.reconfigure.new.self; setup = c.args.setup; latest = c.later-self-inside.result } in
    subst (λ z. IsSame (state_of new) (changes.after_reconfigured c.args.setup (max c.args.now z.latest) (state_of z)))
    c.self.view_is
    (subst (λ m. IsSame (state_of new) (changes.after_reconfigured c.args.setup m (state_of v)))
    c.later-self-inside.ensures
    (reconfigured_same v c.args.setup c.reconfigure.new.self c.later-self-inside.result c.self.invariant
    c.facts.ensures.live c.facts.ensures.homed c.facts.ensures.homes.rise made))

pub returns-clause-promised : goal.returns-clause-promised
returns-clause-promised c =
    let v : EngineView = record {
      conns = c.self.inside.conns;
      checks = c.self.inside.checks;
      asks = c.self.inside.asks;
      puts = c.self.inside.puts;
      epochs = c.self.inside.epochs;
      setup = c.self.inside.setup;
      offset = c.self.inside.offset;
      latest = c.self.inside.latest;
    } in
    let s = state_of c.args.self.now in
    reconfigure_promised (λ n. told.Epoch n) s
    (state_of (record v { epochs = c.reconfigure.new.self; setup = c.args.setup; latest = c.later-self-inside.result }))
    (max c.args.now c.args.self.now.latest) c.args.setup
    (Ok c.in-Ok-reconfigure.epoch) (returns-clause-told c) (returns-clause-ok c)
