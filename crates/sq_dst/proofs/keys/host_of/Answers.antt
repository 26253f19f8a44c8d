use Rattle.std.proofs.Common.{◌∙◌, sym}
use Rattle.sq_dst.proofs.KeyLaws.{key_means, no_key}
use Rattle.sq_dst.proofs.keys.host_of.Goals as goal

pub returns-in-None-clause-no_key : goal.returns-in-None-clause-no_key
returns-in-None-clause-no_key c = λ _ short host acl small few same.
    no_key c.args.question.now (sym c.in_ok-read_key.ensures ∙ c.in-None.is) short host acl small few same

pub returns-clause-key : goal.returns-clause-key
returns-clause-key c = (
  c.in-Some.field-0.acl,
  key_means c.args.question.now c.in-Some.field-0 (sym c.in_ok-read_key.ensures ∙ c.in-Some.is),
)
