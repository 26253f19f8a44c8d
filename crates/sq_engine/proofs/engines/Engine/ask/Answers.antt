use Rattle.std.proofs.Common.{max}
use Rattle.sq_machine.specs.declared.entries.Told.TheVariants as told
use Rattle.sq_model.specs.Answers.{asked_in}
use Rattle.sq_model.specs.Changes.{after_ask}
use Rattle.sq_model.specs.States.{IsSame}
use Rattle.sq_engine.specs.EngineViews.{state_of}
use Rattle.sq_engine.proofs.PromiseLaws.{ask_promised, on_ok}
use Rattle.sq_engine.proofs.engines.Engine.ask.Goals as goal

pub returns-clause-promised : goal.returns-clause-promised
returns-clause-promised c = λ method target fields e formed.
    let s = state_of c.args.self.now in
    let now = max c.args.now c.args.self.now.latest in
    let new = state_of c.ask_on.new.self in
    ask_promised (λ n. told.Check n) s new now c.args.conn method target fields c.ask_on.result formed
    c.ask_on.ensures.told
    (on_ok _ (IsSame new (after_ask (asked_in s now c.args.conn method target fields) now s)) c.ask_on.result
    c.ask_on.ensures.ok (λ f. f method target fields e))
