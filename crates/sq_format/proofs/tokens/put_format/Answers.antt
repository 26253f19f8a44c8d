use Rattle.std.proofs.Common.{arith}
use Rattle.sq_format.proofs.JoinLaws.{put_all}
use Rattle.sq_rules.specs.Keys.{token_text}
use Rattle.sq_format.proofs.tokens.put_format.Goals as goal

pub returns : goal.returns
returns c =
    put_all (token_text c.args.name.now c.args.arguments.now c.args.sight.now) c.in-Some.first.now c.in-Some.rest.now
    c.args.format.now c.loop-token.token-index c.args.to.now _ c.loop-token.to
    c.in-Some.ensures.cases.0 c.in_ok-put_token.ensures c.loop-token.invariant (omega (arith, c.loop-token-test.false))
