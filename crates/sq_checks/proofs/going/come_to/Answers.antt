use Rattle.std.proofs.Common.{◌≡◌, ◌∙◌, List, [], IfOk, Some, None, ap, sym, subst, refl}
use Rattle.sq_rules.specs.Configurations.{Configuration}
use Rattle.sq_rules.specs.Values.{taken_at}
use Rattle.sq_rules.specs.declared.configs.Acl.{Acl}
use Rattle.sq_rules.specs.declared.outcomes.Outcome.{Outcome}
use Rattle.sq_rules.specs.declared.values.TermValue.TheVariants.{Need}
use Rattle.sq_rules.specs.declared.values.Value.{Value}
use Rattle.sq_rules.specs.declared.values.Value.TheVariants as value
use Rattle.sq_checks.specs.Courses.{is_need, still_needed}
use Rattle.sq_checks.specs.GivenValues.{given_value, needed_by, ran_value, why_of}
use Rattle.sq_checks.specs.Standing.{IsOver, looks_in, value_of}
use Rattle.sq_checks.specs.declared.answers.Ran.TheVariants as ran
use Rattle.sq_checks.specs.Givens.{AreFrames, found_value, looks_over}
use Rattle.sq_checks.proofs.CheckLaws.{always}
use Rattle.sq_checks.proofs.GivenLaws.{decided_over, frames_given, frames_looked, frames_same, going_counted, going_given, going_none, going_run, needed_over}
use Rattle.sq_checks.proofs.going.come_to.Goals as goal

pub returns-in-Verdict-clause-value : goal.returns-in-Verdict-clause-value
returns-in-Verdict-clause-value g c =
    let config = c.args.config.now in
    let facts = c.args.facts.now in
    let sight = c.args.sight.now in
    let answers = c.args.answers.now in
    let f = c.run.new.self in
    let are : AreFrames config sight answers facts f =
    frames_same config sight answers facts c.needs.frames f c.needs.invariant.frames c.run.ensures.config
    c.run.ensures.given (_, c.run.ensures.looked) in
    let o : Outcome = record { allow = c.in-Verdict.allow; why = why_of config.acls c.in-Verdict.place } in
    let came : value.Verdict o ≡ value_of facts f =
    ap (ran_value config.acls) (sym c.in-Verdict.is)
    ∙ ap (λ (d : Configuration). ran_value d.acls c.run.result) (sym are.config_is) ∙ c.run.ensures.value in
    subst (λ (x : Value). IfOk c.verdict.result (λ v. v ≡ x))
    (ap (λ (acls : List Acl). ran_value acls (ran.Verdict c.in-Verdict.allow c.in-Verdict.place)) c.acls.ensures.acls
    ∙ sym (decided_over config sight answers facts f (value.Verdict o) o c.requires.facts are came refl))
    c.verdict.ensures

pub needs-init : goal.needs-init
needs-init g c = record {
  frames = c.requires.frames;
  going = going_none c.args.facts.now c.args.frames.now c.args.steps.now c.requires.frames.over;
}

pub needs-preserved : goal.needs-preserved
needs-preserved g c =
    let config = c.args.config.now in
    let facts = c.args.facts.now in
    let sight = c.args.sight.now in
    let answers = c.args.answers.now in
    let f = c.run.new.self in
    let are : AreFrames config sight answers facts f =
    frames_same config sight answers facts c.needs.frames f c.needs.invariant.frames c.run.ensures.config
    c.run.ensures.given (_, c.run.ensures.looked) in
    let need : f.need ≡ Some c.in-Need.acl = c.run.ensures.need ∙ ap needed_by c.in-Need.is in
    let over : IsOver facts c.give.new.self = (are.over.0, c.give.ensures.at facts are.over.0 are.over.1) in
    let one : given_value c.in-Need.acl (Some c.in-Answered.value)
    ≡ found_value c.in-Need.acl c.in_ok-value-in-Need.field-0 = ap (found_value c.in-Need.acl) (sym c.in-Answered.is) in
    let known : given_value c.in-Need.acl (Some c.in-Answered.value) ≡ taken_at config sight answers c.in-Need.acl = one
    ∙ c.in_ok-value-in-Need.ensures in
    record {
      frames = frames_given config sight answers facts f c.give.new.self c.in-Need.acl c.in-Answered.value are
          c.give.ensures.config over
          (λ acl external. c.give.ensures.given c.in-Need.acl acl need external) known;
      going = going_given facts f c.give.new.self c.args.steps.now c.run.new.steps (looks_in c.args.frames.now)
          c.give.ensures.looks (c.give.ensures.at facts)
          (going_run facts c.needs.frames f c.args.steps.now c.needs.steps c.run.new.steps
          (looks_in c.args.frames.now) c.run.ensures.at c.needs.invariant.going);
    }

pub returns-in-Open-clause-value : goal.returns-in-Open-clause-value
returns-in-Open-clause-value g c =
    let config = c.args.config.now in
    let facts = c.args.facts.now in
    let sight = c.args.sight.now in
    let answers = c.args.answers.now in
    let f = c.run.new.self in
    let are : AreFrames config sight answers facts f =
    frames_same config sight answers facts c.needs.frames f c.needs.invariant.frames c.run.ensures.config
    c.run.ensures.given (_, c.run.ensures.looked) in
    let came : value.Need c.in-Need.acl [] ≡ value_of facts f = ap (ran_value f.config.acls) (sym c.in-Need.is)
    ∙ c.run.ensures.value in
    let one : Need c.in-Need.acl c.in-Open.key ≡ found_value c.in-Need.acl c.in_ok-value-in-Need.field-0 =
    ap (found_value c.in-Need.acl) (sym c.in-Open.is) in
    let known : Need c.in-Need.acl c.in-Open.key ≡ taken_at config sight answers c.in-Need.acl = one
    ∙ c.in_ok-value-in-Need.ensures in
    sym (needed_over config sight answers facts f c.in-Need.acl c.in-Open.key c.requires.facts are came known)

pub returns-in-Verdict-clause-looks : goal.returns-in-Verdict-clause-looks
returns-in-Verdict-clause-looks g c =
    let config = c.args.config.now in
    let facts = c.args.facts.now in
    let sight = c.args.sight.now in
    let answers = c.args.answers.now in
    let f = c.run.new.self in
    let are : AreFrames config sight answers facts f =
    frames_same config sight answers facts c.needs.frames f c.needs.invariant.frames c.run.ensures.config
    c.run.ensures.given (_, c.run.ensures.looked) in
    let none : needed_by c.run.result ≡ None = ap needed_by c.in-Verdict.is in
    let looks : looks_in f ≡ looks_over answers config sight =
    frames_looked config sight answers facts f (needed_by c.run.result) c.requires.facts are c.run.ensures.looked
    c.run.ensures.whole (ap (still_needed (taken_at config sight answers)) none) in
    always c.verdict.result (looks_in f ≡ looks_over answers config sight) looks

pub returns-in-Open-clause-looks : goal.returns-in-Open-clause-looks
returns-in-Open-clause-looks g c =
    let config = c.args.config.now in
    let facts = c.args.facts.now in
    let sight = c.args.sight.now in
    let answers = c.args.answers.now in
    let f = c.run.new.self in
    let are : AreFrames config sight answers facts f =
    frames_same config sight answers facts c.needs.frames f c.needs.invariant.frames c.run.ensures.config
    c.run.ensures.given (_, c.run.ensures.looked) in
    let one : Need c.in-Need.acl c.in-Open.key ≡ found_value c.in-Need.acl c.in_ok-value-in-Need.field-0 =
    ap (found_value c.in-Need.acl) (sym c.in-Open.is) in
    let known : Need c.in-Need.acl c.in-Open.key ≡ taken_at config sight answers c.in-Need.acl = one
    ∙ c.in_ok-value-in-Need.ensures in
    let need : needed_by c.run.result ≡ Some c.in-Need.acl = ap needed_by c.in-Need.is in
    frames_looked config sight answers facts f (needed_by c.run.result) c.requires.facts are c.run.ensures.looked
    c.run.ensures.whole (ap (still_needed (taken_at config sight answers)) need ∙ ap is_need (sym known))

pub returns-in-Verdict-clause-counted : goal.returns-in-Verdict-clause-counted
returns-in-Verdict-clause-counted g c =
    let config = c.args.config.now in
    let facts = c.args.facts.now in
    let sight = c.args.sight.now in
    let answers = c.args.answers.now in
    let f = c.run.new.self in
    let are : AreFrames config sight answers facts f =
    frames_same config sight answers facts c.needs.frames f c.needs.invariant.frames c.run.ensures.config
    c.run.ensures.given (_, c.run.ensures.looked) in
    going_counted config sight answers facts f c.args.steps.now c.run.new.steps (looks_in c.args.frames.now)
    c.requires.facts are
    (going_run facts c.needs.frames f c.args.steps.now c.needs.steps c.run.new.steps (looks_in c.args.frames.now)
    c.run.ensures.at c.needs.invariant.going)

pub returns-in-Open-clause-counted : goal.returns-in-Open-clause-counted
returns-in-Open-clause-counted g c =
    let config = c.args.config.now in
    let facts = c.args.facts.now in
    let sight = c.args.sight.now in
    let answers = c.args.answers.now in
    let f = c.run.new.self in
    let are : AreFrames config sight answers facts f =
    frames_same config sight answers facts c.needs.frames f c.needs.invariant.frames c.run.ensures.config
    c.run.ensures.given (_, c.run.ensures.looked) in
    going_counted config sight answers facts f c.args.steps.now c.run.new.steps (looks_in c.args.frames.now)
    c.requires.facts are
    (going_run facts c.needs.frames f c.args.steps.now c.needs.steps c.run.new.steps (looks_in c.args.frames.now)
    c.run.ensures.at c.needs.invariant.going)

pub returns-in_err-value-in-Need-clause-counted : goal.returns-in_err-value-in-Need-clause-counted
returns-in_err-value-in-Need-clause-counted g c =
    let config = c.args.config.now in
    let facts = c.args.facts.now in
    let sight = c.args.sight.now in
    let answers = c.args.answers.now in
    let f = c.run.new.self in
    let are : AreFrames config sight answers facts f =
    frames_same config sight answers facts c.needs.frames f c.needs.invariant.frames c.run.ensures.config
    c.run.ensures.given (_, c.run.ensures.looked) in
    going_counted config sight answers facts f c.args.steps.now c.run.new.steps (looks_in c.args.frames.now)
    c.requires.facts are
    (going_run facts c.needs.frames f c.args.steps.now c.needs.steps c.run.new.steps (looks_in c.args.frames.now)
    c.run.ensures.at c.needs.invariant.going)
