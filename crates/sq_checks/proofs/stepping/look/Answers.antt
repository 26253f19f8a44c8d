use Rattle.std.proofs.Common.{◌≡◌, sym, ap, ◌∙◌}
use Rattle.sq_rules.specs.Values.{value_if}
use Rattle.sq_checks.proofs.FrameStepLaws.{leaf_step, leaf_taken}
use Rattle.sq_checks.specs.Positions.{taken_in}
use Rattle.sq_checks.proofs.stepping.look.Goals as goal

pub returns : goal.returns
returns g c =
    let t = c.args.taking.now in
    let given : taken_in t c.args.term.acl ≡ value_if c.look-fact.result =
    leaf_taken t.config.now.acls t.slots.now t.facts.now t.table.now c.args.term.acl c.requires.leaf
    ∙ ap value_if (sym c.look-fact.ensures.fact) in
    rw (c.advance.ensures, c.turned.ensures, c.count.ensures, c.look-fact.ensures.step)
    (leaf_step (taken_in t) t.config.now c.args.position.now c.args.term c.look-fact.result c.args.steps.now
    c.requires.next c.requires.leaf given)
