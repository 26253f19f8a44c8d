use Rattle.std.proofs.Common.{◌≡◌, Bool, true, false, Some, refl, ap, ◌∙◌, ℕ, if◌then◌else◌}
use Rattle.sq_rules.specs.Values.{value_if}
use Rattle.sq_checks.proofs.FrameStepLaws.{external_taken, given_step}
use Rattle.sq_checks.specs.GivenValues.{given_value}
use Rattle.sq_checks.specs.Positions.{taken_in}
use Rattle.sq_checks.specs.declared.answers.Given.TheVariants as given
use Rattle.sq_checks.proofs.stepping.go_on.Goals as goal

of_hit : (acl : ℕ) (hit : Bool) → given_value acl (Some (if hit then given.Hit else given.Miss)) ≡ value_if hit
of_hit acl true = refl
of_hit acl false = refl

pub returns : goal.returns
returns c = λ n.
    let t = c.args.taking.now in
    let taken : taken_in t c.args.term.acl ≡ value_if c.args.hit =
    external_taken t.config.now.acls t.slots.now t.facts.now t.table.now c.args.term.acl c.requires.external
    ∙ ap (given_value c.args.term.acl) c.requires.given ∙ of_hit c.args.term.acl c.args.hit in
    rw (c.advance.ensures, c.turned.ensures)
    (given_step (taken_in t) t.config.now c.args.position.now c.args.term c.args.hit n c.requires.next
    c.requires.external taken)
