use Rattle.std.proofs.Common.{◌≡◌, ◌∙◌, None, Some, max, ap, sym, subst, rules}
use Rattle.sq_machine.specs.Machine.{step_next}
use Rattle.sq_machine.specs.Next.{gives}
use Rattle.sq_machine.specs.declared.entries.Told.TheVariants as told
use Rattle.sq_checks.specs.Stages.{need_in, question_in}
use Rattle.sq_checks.specs.Tables.{value_at}
use Rattle.sq_model.specs.Changes.{after_step_of}
use Rattle.sq_model.specs.States.{IsSame}
use Rattle.sq_engine.specs.EngineViews.{state_of}
use Rattle.sq_engine.specs.Stepping.{epoch_of, stepped_told}
use Rattle.sq_checks.specs.OpenChecks.{says_waits}
use Rattle.sq_engine.proofs.NowLaws.{after_found, idle_looked, if_has, says_waiting, settled_looked, settled_settled, step_found, step_unknown, there_looked, there_settled, waits_for_need}
use Rattle.sq_engine.proofs.StepLaws.{quiet_same}
use Rattle.sq_engine.proofs.BegunLaws.{kept_between}
use Rattle.sq_engine.proofs.engines.Engine.step_on.Goals as goal

pub returns-in_default-clause-told : goal.returns-in_default-clause-told
returns-in_default-clause-told c =
    let w = c.args.self.now in
    let none : value_at c.self.inside.checks c.args.check ≡ None = search rules in
    step_unknown w c.args.check _ (subst (λ z. value_at z.checks c.args.check ≡ None) c.self.view_is none)

pub returns-in-Some-need-clause-told : goal.returns-in-Some-need-clause-told
returns-in-Some-need-clause-told c =
    let w = c.args.self.now in
    let k = c.in-Some.open.now in
    let found : value_at w.checks c.args.check ≡ Some k =
    subst (λ z. value_at z.checks c.args.check ≡ Some k) c.self.view_is (sym c.in-Some.ensures) in
    let x = c.in-Some-need.need.now in
    let needs : need_in k.stage ≡ Some x = sym c.in-Some-need.ensures.value in
    let t = max c.args.now w.latest in
    step_found w c.args.check t k found ∙ ap (step_next w.puts) (says_waiting w c.args.check t k x needs)
    ∙ ap (λ z. gives (stepped_told (state_of w) (epoch_of (state_of w) c.args.check) z)) (sym c.wait_on.ensures.told)

pub wait_on-requires-clause-waits : goal.wait_on-requires-clause-waits
wait_on-requires-clause-waits c =
    let w = c.args.self.now in
    let k = c.in-Some.open.now in
    let found : value_at w.checks c.args.check ≡ Some k =
    subst (λ z. value_at z.checks c.args.check ≡ Some k) c.self.view_is (sym c.in-Some.ensures) in
    let x = c.in-Some-need.need.now in
    if_has (λ z. question_in z.stage ≡ Some x.question) (value_at w.checks c.args.check) k found
    (waits_for_need k x (sym c.in-Some-need.ensures.value))

pub returns-in-Some-need-clause-ok : goal.returns-in-Some-need-clause-ok
returns-in-Some-need-clause-ok c =
    let w = c.args.self.now in
    let k = c.in-Some.open.now in
    let found : value_at w.checks c.args.check ≡ Some k =
    subst (λ z. value_at z.checks c.args.check ≡ Some k) c.self.view_is (sym c.in-Some.ensures) in
    let x = c.in-Some-need.need.now in
    let needs : need_in k.stage ≡ Some x = sym c.in-Some-need.ensures.value in
    let t = max c.args.now w.latest in
    let later : c.later-moment.result ≡ t = c.later-moment.ensures ∙ ap (λ z. max c.args.now z.latest) c.self.view_is in
    let after = after_found w c.args.check t k found
    ∙ ap (λ z. after_step_of c.args.check k.epoch z t (state_of w)) (says_waiting w c.args.check t k x needs) in
    subst (λ z. IsSame (state_of c.wait_on.new.self) z) (sym after)
    (subst (λ z. IsSame (state_of c.wait_on.new.self)
    (after_step_of c.args.check k.epoch (says_waits x.question) z (state_of w))) later
    (subst (λ z. IsSame (state_of z)
    (after_step_of c.args.check k.epoch (says_waits x.question) c.later-moment.result (state_of w)))
    (sym c.wait_on.ensures.value)
    (quiet_same w c.wait_on.new.self.checks c.later-moment.result c.args.check k.epoch (told.Waits x.question)
    c.wait_on.ensures.rows)))

pub come_to-requires-clause-there : goal.come_to-requires-clause-there
come_to-requires-clause-there c =
    let w = c.args.self.now in
    let k = c.in-Some.open.now in
    let found : value_at w.checks c.args.check ≡ Some k =
    subst (λ z. value_at z.checks c.args.check ≡ Some k) c.self.view_is (sym c.in-Some.ensures) in
    there_settled w.checks c.settle.new.self.checks c.args.check k found c.in-Ok.ensures.ok

pub come_to-requires-clause-settled : goal.come_to-requires-clause-settled
come_to-requires-clause-settled c =
    let w = c.args.self.now in
    let k = c.in-Some.open.now in
    let found : value_at w.checks c.args.check ≡ Some k =
    subst (λ z. value_at z.checks c.args.check ≡ Some k) c.self.view_is (sym c.in-Some.ensures) in
    settled_settled w.checks c.settle.new.self.checks c.args.check k found c.in-Ok.ensures.ok

pub go_on-requires-clause-there : goal.go_on-requires-clause-there
go_on-requires-clause-there c =
    let w = c.args.self.now in
    let k = c.in-Some.open.now in
    let found : value_at w.checks c.args.check ≡ Some k =
    subst (λ z. value_at z.checks c.args.check ≡ Some k) c.self.view_is (sym c.in-Some.ensures) in
    let list = c.come_to.ensures.list in
    there_looked w.checks c.settle.new.self.checks c.come_to.new.self.checks c.args.check list.0 k found
    c.in-Ok.ensures.ok list.1

pub go_on-requires-clause-settled : goal.go_on-requires-clause-settled
go_on-requires-clause-settled c =
    let w = c.args.self.now in
    let k = c.in-Some.open.now in
    let found : value_at w.checks c.args.check ≡ Some k =
    subst (λ z. value_at z.checks c.args.check ≡ Some k) c.self.view_is (sym c.in-Some.ensures) in
    let list = c.come_to.ensures.list in
    settled_looked w.checks c.settle.new.self.checks c.come_to.new.self.checks c.args.check list.0 k found
    c.in-Ok.ensures.ok list.1

pub go_on-requires-clause-idle : goal.go_on-requires-clause-idle
go_on-requires-clause-idle c =
    let w = c.args.self.now in
    let k = c.in-Some.open.now in
    let found : value_at w.checks c.args.check ≡ Some k =
    subst (λ z. value_at z.checks c.args.check ≡ Some k) c.self.view_is (sym c.in-Some.ensures) in
    let list = c.come_to.ensures.list in
    let none : need_in k.stage ≡ None = search rules in
    idle_looked w.checks c.settle.new.self.checks c.come_to.new.self.checks c.args.check list.0 k found
    c.in-Ok.ensures.ok list.1 none

pub returns-clause-kept : goal.returns-clause-kept
returns-clause-kept c =
    kept_between c.args.check c.args.self.now.checks c.settle.new.self.checks c.come_to.new.self.checks
    c.go_on.new.self.checks c.settle.ensures.kept c.come_to.ensures.kept c.go_on.ensures.kept
