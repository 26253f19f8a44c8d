use Rattle.std.proofs.Common.{◌≡◌, ◌∙◌, Some, None, Ok, Err, false, max, ap, sym, subst}
use Rattle.std.proofs.lemmas.Option.{same_Some}
use Rattle.sq_base.specs.declared.helpers.Cause.TheVariants as cause
use Rattle.sq_machine.specs.DueActs.{ClassId}
use Rattle.sq_machine.specs.declared.refusals.Refusal.TheVariants as refusal
use Rattle.sq_epochs.specs.EpochStates.{home_at}
use Rattle.sq_model.specs.Changes.{after_end_at}
use Rattle.sq_model.specs.States.{IsSame}
use Rattle.sq_engine.specs.EngineViews.{state_of}
use Rattle.sq_engine.proofs.PromiseLaws.{died_promised}
use Rattle.sq_engine.proofs.StartedLaws.{died_fine, died_unknown}
use Rattle.sq_engine.proofs.engines.Engine.died.Goals as goal

pub returns-clause-ok : goal.returns-clause-ok
returns-clause-ok c = λ p is.
    let same : record { epoch = c.home-2.inside.epoch; class = c.home-2.inside.class } ≡ p =
    same_Some _ _ (ap (λ h. Some h.place) c.home-2.view_is ∙ c.in-Some.ensures.place
    ∙ ap (λ z. home_at z.epochs c.args.proc) c.self.view_is ∙ is) in
    subst (λ m. IsSame (state_of c.end.new.self)
    (after_end_at p c.args.proc cause.Died false m (state_of c.args.self.now)))
    (c.later-moment.ensures ∙ ap (λ z. max c.args.now z.latest) c.self.view_is)
    (subst (λ (x : ClassId). IsSame (state_of c.end.new.self)
    (after_end_at x c.args.proc cause.Died false c.later-moment.result (state_of c.args.self.now))) same
    c.end.ensures.same)

pub returns-in_default-clause-promised : goal.returns-in_default-clause-promised
returns-in_default-clause-promised c =
    let s = state_of c.args.self.now in
    let none : s.home c.args.proc ≡ None =
    sym (c.in_default.ensures.place ∙ ap (λ z. home_at z.epochs c.args.proc) c.self.view_is) in
    died_promised {A = Unit {0}} s s (max c.args.now c.args.self.now.latest) c.args.proc
    (Err (refusal.UnknownProc c.args.proc)) (died_unknown s c.args.proc none) tt

pub returns-clause-promised : goal.returns-clause-promised
returns-clause-promised c =
    let s = state_of c.args.self.now in
    let home : s.home c.args.proc ≡ Some c.in-Some.home.now.place =
    sym (c.in-Some.ensures.place ∙ ap (λ z. home_at z.epochs c.args.proc) c.self.view_is) in
    died_promised {A = Unit {0}} s (state_of c.end.new.self) (max c.args.now c.args.self.now.latest) c.args.proc (Ok tt)
    (died_fine s c.args.proc c.in-Some.home.now.place home) (returns-clause-ok c)
