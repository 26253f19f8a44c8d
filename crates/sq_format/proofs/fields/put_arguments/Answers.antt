use Rattle.std.proofs.Common.{◌++◌, sym, ap, ◌∙◌, arith}
use Rattle.sq_format.proofs.JoinLaws.{arguments_joined, put_all}
use Rattle.sq_rules.specs.Keys.{key_escaped}
use Rattle.sq_format.proofs.fields.put_arguments.Goals as goal

pub returns : goal.returns
returns c =
    put_all key_escaped c.in-Some.first.now c.in-Some.rest.now c.args.arguments.now c.loop-argument.argument-index
    c.args.to.now _ c.loop-argument.to
    c.in-Some.ensures.cases.0 (rw (← c.as_bytes.ensures.value) c.in_ok-put_escaped.ensures) c.loop-argument.invariant
    (omega (arith, c.loop-argument-test.false))
    ∙ ap (λ t. c.args.to.now ++ t)
    (sym (arguments_joined c.in-Some.first.now c.in-Some.rest.now c.args.arguments.now c.in-Some.ensures.cases.0))
