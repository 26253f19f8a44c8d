use Rattle.std.proofs.Common.{◌≡◌, ◌∙◌, None, Some, OnOk, true, false, is_some, ap, sym, subst}
use Rattle.sq_base.specs.Distinct.{has_answer}
use Rattle.std.specs.List.{slice_get}
use Rattle.sq_machine.specs.Machine.{step_next}
use Rattle.sq_machine.specs.StepRule.{class_of_acl, says_done}
use Rattle.sq_machine.specs.declared.entries.Told.TheVariants as told
use Rattle.sq_rules.specs.Keys.{key_text}
use Rattle.sq_rules.specs.declared.values.Value.TheVariants as value
use Rattle.sq_checks.specs.Givens.{looks_over}
use Rattle.sq_checks.specs.OpenChecks.{HasCome, comes_to, is_need}
use Rattle.sq_checks.specs.Stages.{is_idle, need_in}
use Rattle.sq_checks.specs.Tables.{value_at}
use Rattle.sq_epochs.specs.EpochStates.{part_at}
use Rattle.sq_model.specs.Changes.{after_step_of}
use Rattle.sq_model.specs.States.{IsSame}
use Rattle.sq_engine.specs.Engines.{IsEngine}
use Rattle.sq_engine.specs.EngineViews.{state_of}
use Rattle.sq_engine.specs.Stepping.{epoch_of, step_now, stepped_told}
use Rattle.sq_engine.proofs.ChangedLaws.{some_has}
use Rattle.sq_engine.proofs.NowLaws.{after_found, epoch_found, if_has, needs_acl, part_needed, says_asks, says_decided, step_found, told_by}
use Rattle.sq_engine.proofs.ResolveLaws.{says_here}
use Rattle.sq_engine.proofs.StepLaws.{quiet_same}
use Rattle.sq_engine.proofs.engines.Engine.go_on.Goals as goal

pub needed_class-class-requires : goal.needed_class-class-requires
needed_class-class-requires c =
    let w = c.args.self.now in
    let k = c.in-Some.open.now in
    let found : value_at w.checks c.args.check ≡ Some k =
    subst (λ z. value_at z.checks c.args.check ≡ Some k) c.self.view_is (sym c.in-Some.ensures) in
    let come : HasCome k c.args.value =
    some_has (λ z. HasCome z c.args.value) (value_at w.checks c.args.check) k c.requires.come found in
    let config : c.deref.result.now ≡ k.config = cc in
    needs_acl k _ c.in-Need.acl c.in-Need.key config (sym come.comes ∙ c.in-Need.is)

pub decide-requires-clause-verdict : goal.decide-requires-clause-verdict
decide-requires-clause-verdict c =
    let w = c.args.self.now in
    let k = c.in-Some.open.now in
    let found : value_at w.checks c.args.check ≡ Some k =
    subst (λ z. value_at z.checks c.args.check ≡ Some k) c.self.view_is (sym c.in-Some.ensures) in
    let come : HasCome k c.args.value =
    some_has (λ z. HasCome z c.args.value) (value_at w.checks c.args.check) k c.requires.come found in
    if_has (λ z. HasCome z (value.Verdict c.in-Verdict.outcome)) (value_at w.checks c.args.check) k found
    (subst (HasCome k) c.in-Verdict.is come)

pub resolve-requires-clause-idle : goal.resolve-requires-clause-idle
resolve-requires-clause-idle c =
    let w = c.args.self.now in
    let k = c.in-Some.open.now in
    let found : value_at w.checks c.args.check ≡ Some k =
    subst (λ z. value_at z.checks c.args.check ≡ Some k) c.self.view_is (sym c.in-Some.ensures) in
    let come : HasCome k c.args.value =
    some_has (λ z. HasCome z c.args.value) (value_at w.checks c.args.check) k c.requires.come found in
    if_has (λ z. is_idle z.stage ≡ true) (value_at w.checks c.args.check) k found (come.idle (ap is_need c.in-Need.is))

pub resolve-requires-clause-of_class : goal.resolve-requires-clause-of_class
resolve-requires-clause-of_class c =
    let w = c.args.self.now in
    let k = c.in-Some.open.now in
    let found : value_at w.checks c.args.check ≡ Some k =
    subst (λ z. value_at z.checks c.args.check ≡ Some k) c.self.view_is (sym c.in-Some.ensures) in
    let config : c.deref.result.now ≡ k.config = cc in
    let of : class_of_acl k.config.acls c.in-Need.acl ≡ Some c.needed_class-class.result =
    ap (λ z. class_of_acl z.acls c.in-Need.acl) (sym config) ∙ c.needed_class-class.ensures.class in
    if_has (λ z. class_of_acl z.config.acls c.in-Need.acl ≡ Some c.needed_class-class.result)
    (value_at w.checks c.args.check) k found of

pub resolve-requires-clause-of_key : goal.resolve-requires-clause-of_key
resolve-requires-clause-of_key c =
    let w = c.args.self.now in
    let k = c.in-Some.open.now in
    let found : value_at w.checks c.args.check ≡ Some k =
    subst (λ z. value_at z.checks c.args.check ≡ Some k) c.self.view_is (sym c.in-Some.ensures) in
    let come : HasCome k c.args.value =
    some_has (λ z. HasCome z c.args.value) (value_at w.checks c.args.check) k c.requires.come found in
    if_has (λ z. key_text z.config c.in-Need.acl z.sight ≡ c.in-Need.key) (value_at w.checks c.args.check) k found
    (come.keyed c.in-Need.acl c.in-Need.key c.in-Need.is)

pub resolve-requires-clause-other : goal.resolve-requires-clause-other
resolve-requires-clause-other c =
    let w = c.args.self.now in
    let k = c.in-Some.open.now in
    let found : value_at w.checks c.args.check ≡ Some k =
    subst (λ z. value_at z.checks c.args.check ≡ Some k) c.self.view_is (sym c.in-Some.ensures) in
    let come : HasCome k c.args.value =
    some_has (λ z. HasCome z c.args.value) (value_at w.checks c.args.check) k c.requires.come found in
    let config : c.deref.result.now ≡ k.config = cc in
    let of : class_of_acl k.config.acls c.in-Need.acl ≡ Some c.needed_class-class.result =
    ap (λ z. class_of_acl z.acls c.in-Need.acl) (sym config) ∙ c.needed_class-class.ensures.class in
    if_has (λ z. has_answer z.answers c.needed_class-class.result c.in-Need.key ≡ false)
    (value_at w.checks c.args.check) k found
    (come.other c.in-Need.acl c.needed_class-class.result c.in-Need.key c.in-Need.is of)

pub resolve-requires-clause-looks : goal.resolve-requires-clause-looks
resolve-requires-clause-looks c =
    let w = c.args.self.now in
    let k = c.in-Some.open.now in
    let found : value_at w.checks c.args.check ≡ Some k =
    subst (λ z. value_at z.checks c.args.check ≡ Some k) c.self.view_is (sym c.in-Some.ensures) in
    let come : HasCome k c.args.value =
    some_has (λ z. HasCome z c.args.value) (value_at w.checks c.args.check) k c.requires.come found in
    if_has (λ z. z.looks ≡ looks_over z.answers z.config z.sight) (value_at w.checks c.args.check) k found come.looks

pub resolve-requires-clause-part : goal.resolve-requires-clause-part
resolve-requires-clause-part c =
    let w = c.args.self.now in
    let i : IsEngine w = subst IsEngine c.self.view_is c.self.invariant in
    let k = c.in-Some.open.now in
    let found : value_at w.checks c.args.check ≡ Some k =
    subst (λ z. value_at z.checks c.args.check ≡ Some k) c.self.view_is (sym c.in-Some.ensures) in
    let config : c.deref.result.now ≡ k.config = cc in
    let there = ap (λ z. is_some (slice_get z.classes c.needed_class-class.result)) (sym config)
    ∙ c.needed_class-class.ensures.there in
    ap (λ e. is_some (part_at w.epochs e c.needed_class-class.result)) c.epoch-epoch.ensures
    ∙ part_needed w c.args.check c.needed_class-class.result k i found there

pub returns-in-Verdict-clause-told : goal.returns-in-Verdict-clause-told
returns-in-Verdict-clause-told c =
    let w = c.args.self.now in
    let i : IsEngine w = subst IsEngine c.self.view_is c.self.invariant in
    let k = c.in-Some.open.now in
    let found : value_at w.checks c.args.check ≡ Some k =
    subst (λ z. value_at z.checks c.args.check ≡ Some k) c.self.view_is (sym c.in-Some.ensures) in
    let none = some_has (λ z. need_in z.stage ≡ None) (value_at w.checks c.args.check) k c.requires.idle found in
    let comes : comes_to k ≡ value.Verdict c.in-Verdict.outcome =
    sym (some_has (λ z. HasCome z c.args.value) (value_at w.checks c.args.check) k c.requires.come found).comes
    ∙ c.in-Verdict.is in
    step_found w c.args.check c.args.moment k found
    ∙ ap (step_next w.puts) (says_decided w c.args.check c.args.moment k c.in-Verdict.outcome i found none comes)

pub returns-in-Verdict-clause-ok : goal.returns-in-Verdict-clause-ok
returns-in-Verdict-clause-ok c =
    let w = c.args.self.now in
    let i : IsEngine w = subst IsEngine c.self.view_is c.self.invariant in
    let k = c.in-Some.open.now in
    let found : value_at w.checks c.args.check ≡ Some k =
    subst (λ z. value_at z.checks c.args.check ≡ Some k) c.self.view_is (sym c.in-Some.ensures) in
    let none = some_has (λ z. need_in z.stage ≡ None) (value_at w.checks c.args.check) k c.requires.idle found in
    let comes : comes_to k ≡ value.Verdict c.in-Verdict.outcome =
    sym (some_has (λ z. HasCome z c.args.value) (value_at w.checks c.args.check) k c.requires.come found).comes
    ∙ c.in-Verdict.is in
    let after = after_found w c.args.check c.args.moment k found
    ∙ ap (λ z. after_step_of c.args.check k.epoch z c.args.moment (state_of w))
    (says_decided w c.args.check c.args.moment k c.in-Verdict.outcome i found none comes) in
    subst (λ z. IsSame (state_of c.decide.new.self) z) (sym after)
    (subst (λ z. IsSame (state_of z) (after_step_of c.args.check k.epoch says_done c.args.moment (state_of w)))
    (sym c.decide.ensures.value)
    (quiet_same w c.decide.new.self.checks c.args.moment c.args.check k.epoch told.Done c.decide.ensures.rows))

pub returns-in-Need-clause-told : goal.returns-in-Need-clause-told
returns-in-Need-clause-told c =
    let w = c.args.self.now in
    let i : IsEngine w = subst IsEngine c.self.view_is c.self.invariant in
    let k = c.in-Some.open.now in
    let found : value_at w.checks c.args.check ≡ Some k =
    subst (λ z. value_at z.checks c.args.check ≡ Some k) c.self.view_is (sym c.in-Some.ensures) in
    let none = some_has (λ z. need_in z.stage ≡ None) (value_at w.checks c.args.check) k c.requires.idle found in
    let config : c.deref.result.now ≡ k.config = cc in
    let of : class_of_acl k.config.acls c.in-Need.acl ≡ Some c.needed_class-class.result =
    ap (λ z. class_of_acl z.acls c.in-Need.acl) (sym config) ∙ c.needed_class-class.ensures.class in
    let comes : comes_to k ≡ value.Need c.in-Need.acl c.in-Need.key =
    sym (some_has (λ z. HasCome z c.args.value) (value_at w.checks c.args.check) k c.requires.come found).comes
    ∙ c.in-Need.is in
    let epoch = c.epoch-epoch.ensures in
    told_by (stepped_told (state_of w) c.epoch-epoch.result)
    (stepped_told (state_of w) (epoch_of (state_of w) c.args.check)) (step_now (state_of w) c.args.check c.args.moment)
    (step_next w.puts (says_here w c.args.moment c.epoch-epoch.result c.needed_class-class.result c.in-Need.key))
    c.resolve.result
    (ap (stepped_told (state_of w)) (epoch ∙ sym (epoch_found w c.args.check k found)))
    (ap (λ e. step_next w.puts (says_here w c.args.moment e c.needed_class-class.result c.in-Need.key)) epoch
    ∙ sym (step_found w c.args.check c.args.moment k found
    ∙ ap (step_next w.puts) (says_asks w c.args.check c.args.moment k c.in-Need.acl c.needed_class-class.result
    c.in-Need.key i found none comes of)))
    c.resolve.ensures.told

pub returns-in-Need-clause-ok : goal.returns-in-Need-clause-ok
returns-in-Need-clause-ok c =
    let w = c.args.self.now in
    let i : IsEngine w = subst IsEngine c.self.view_is c.self.invariant in
    let k = c.in-Some.open.now in
    let found : value_at w.checks c.args.check ≡ Some k =
    subst (λ z. value_at z.checks c.args.check ≡ Some k) c.self.view_is (sym c.in-Some.ensures) in
    let none = some_has (λ z. need_in z.stage ≡ None) (value_at w.checks c.args.check) k c.requires.idle found in
    let config : c.deref.result.now ≡ k.config = cc in
    let of : class_of_acl k.config.acls c.in-Need.acl ≡ Some c.needed_class-class.result =
    ap (λ z. class_of_acl z.acls c.in-Need.acl) (sym config) ∙ c.needed_class-class.ensures.class in
    let comes : comes_to k ≡ value.Need c.in-Need.acl c.in-Need.key =
    sym (some_has (λ z. HasCome z c.args.value) (value_at w.checks c.args.check) k c.requires.come found).comes
    ∙ c.in-Need.is in
    let epoch = c.epoch-epoch.ensures in
    let after =
    ap (λ e. after_step_of c.args.check e (says_here w c.args.moment e c.needed_class-class.result c.in-Need.key)
    c.args.moment (state_of w)) epoch
    ∙ sym (after_found w c.args.check c.args.moment k found
    ∙ ap (λ z. after_step_of c.args.check k.epoch z c.args.moment (state_of w))
    (says_asks w c.args.check c.args.moment k c.in-Need.acl c.needed_class-class.result c.in-Need.key i found none comes
    of)) in
    subst (λ z. OnOk c.resolve.result (IsSame (state_of c.resolve.new.self) z)) after c.resolve.ensures.ok
