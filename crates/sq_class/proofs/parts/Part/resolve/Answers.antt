use Rattle.std.proofs.Common.{◌≡◌, true, false, None, Some, length, nat_lt, subst, ap, sym, ◌∙◌, arith}
use Rattle.std.proofs.lemmas.Bool.{le-ltb, lt-ltb}
use Rattle.sq_base.specs.declared.helpers.Cause.TheVariants as cause
use Rattle.sq_cache.specs.Keeping.{taken_for}
use Rattle.sq_machine.specs.Limits.{key_limit}
use Rattle.sq_class.specs.Steps.{IsStepped}
use Rattle.sq_class.proofs.StepLaws.{faulted, need_long, need_open, need_taken, open_ok, spent_same, taken_ok}
use Rattle.sq_class.proofs.parts.Part.resolve.Goals as goal

pub returns-then-len-gt-KEY_LIMIT-clause-ok : goal.returns-then-len-gt-KEY_LIMIT-clause-ok
returns-then-len-gt-KEY_LIMIT-clause-ok c = λ e.
    let old = c.args.self.now in
    let key = c.args.key.now in
    let class = c.args.class.now in
    let long : nat_lt key_limit (length key) ≡ true = lt-ltb key_limit (length key) (omega arith) in
    subst (λ s. IsStepped c.args.place c.args.count c.args.check s c.in_ok-said.said old old)
    (need_long class (record { epoch = e; class = c.args.place; key = key }) c.args.now old.row c.args.count long)
    (faulted c.args.place c.args.count c.args.check class.name key e cause.KeyTooLong c.args.now c.in_ok-said.said old
    (c.in_ok-said.ensures e class.name) c.requires.free)

pub returns-in-Some-clause-spent : goal.returns-in-Some-clause-spent
returns-in-Some-clause-spent c = λ is e.
    let old = c.args.self.now in
    let key = c.args.key.now in
    let class = c.args.class.now in
    let short : nat_lt key_limit (length key) ≡ false = le-ltb key_limit (length key) (omega arith) in
    let kept : c.self.inside.kept.verdicts ≡ old.row.kept = ap (λ v. v.row.kept) c.self.view_is in
    let taken : Some c.in-Some.taken ≡ taken_for class key c.args.now old.row.kept = sym c.in-Some.is
    ∙ c.in_ok-found.ensures ∙ ap (taken_for class key c.args.now) kept in
    spent_same c.args.count _ _
    (need_taken class (record { epoch = e; class = c.args.place; key = key }) c.args.now old.row c.args.count
    c.in-Some.taken short taken) (c.take.ensures.spent is e class.name)

pub returns-in-None-clause-spent : goal.returns-in-None-clause-spent
returns-in-None-clause-spent c = λ is e.
    let old = c.args.self.now in
    let key = c.args.key.now in
    let class = c.args.class.now in
    let short : nat_lt key_limit (length key) ≡ false = le-ltb key_limit (length key) (omega arith) in
    let kept : c.self.inside.kept.verdicts ≡ old.row.kept = ap (λ v. v.row.kept) c.self.view_is in
    let none : None ≡ taken_for class key c.args.now old.row.kept = sym c.in-None.is ∙ c.in_ok-found.ensures
    ∙ ap (taken_for class key c.args.now) kept in
    spent_same c.args.count _ _
    (need_open class (record { epoch = e; class = c.args.place; key = key }) c.args.now old.row c.args.count short none)
    (c.ask.ensures.spent is e class.name)

pub returns-in-Some-clause-ok : goal.returns-in-Some-clause-ok
returns-in-Some-clause-ok c =
    let old = c.args.self.now in
    let key = c.args.key.now in
    let class = c.args.class.now in
    let short : nat_lt key_limit (length key) ≡ false = le-ltb key_limit (length key) (omega arith) in
    let kept : c.self.inside.kept.verdicts ≡ old.row.kept = ap (λ v. v.row.kept) c.self.view_is in
    let taken : Some c.in-Some.taken ≡ taken_for class key c.args.now old.row.kept = sym c.in-Some.is
    ∙ c.in_ok-found.ensures ∙ ap (taken_for class key c.args.now) kept in
    taken_ok class c.args.place c.args.count c.args.check key c.args.now c.in-Some.taken old c.take.new.self
    c.take.result short taken c.requires.free c.take.ensures.ok

pub returns-in-None-clause-ok : goal.returns-in-None-clause-ok
returns-in-None-clause-ok c =
    let old = c.args.self.now in
    let key = c.args.key.now in
    let class = c.args.class.now in
    let short : nat_lt key_limit (length key) ≡ false = le-ltb key_limit (length key) (omega arith) in
    let kept : c.self.inside.kept.verdicts ≡ old.row.kept = ap (λ v. v.row.kept) c.self.view_is in
    let none : None ≡ taken_for class key c.args.now old.row.kept = sym c.in-None.is ∙ c.in_ok-found.ensures
    ∙ ap (taken_for class key c.args.now) kept in
    open_ok class c.args.place c.args.count c.args.check key c.args.now old c.ask.new.self c.ask.result short none
    c.ask.ensures.ok
