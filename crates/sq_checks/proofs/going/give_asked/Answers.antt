use Rattle.std.proofs.Common.{◌≡◌, ◌∙◌, ℕ, Some, ap, sym}
use Rattle.sq_rules.specs.Values.{taken_at}
use Rattle.sq_checks.specs.GivenValues.{given_value}
use Rattle.sq_checks.specs.Standing.{IsOver}
use Rattle.sq_checks.proofs.CheckLaws.{found_has}
use Rattle.sq_checks.proofs.GivenLaws.{frames_given}
use Rattle.sq_checks.proofs.going.give_asked.Goals as goal

pub returns-then-acl-need-clause-given : goal.returns-then-acl-need-clause-given
returns-then-acl-need-clause-given c = λ config sight answers facts are taken.
    let f = c.args.frames.now in
    let acl = c.in-Some-Some.acl in
    let asked : c.args.asks ≡ Some acl = c.in-Some-Some.is-0 in
    let need : f.need ≡ Some acl =
    sym c.need.ensures ∙ c.in-Some-Some.is-1 ∙ ap (λ (n : ℕ). Some n) (sym c.if-acl-need.true) in
    let known : taken_at config sight answers acl ≡ given_value acl (Some c.args.value) =
    found_has (λ n. taken_at config sight answers n ≡ given_value n (Some c.args.value)) c.args.asks acl asked taken in
    let over : IsOver facts c.give.new.self = (are.over.0, c.give.ensures.at facts are.over.0 are.over.1) in
    frames_given config sight answers facts f c.give.new.self acl c.args.value are c.give.ensures.config over
    (λ other external. c.give.ensures.given acl other need external) (sym known)
