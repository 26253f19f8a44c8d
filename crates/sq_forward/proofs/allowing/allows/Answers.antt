use Rattle.std.proofs.Common.{◌∙◌, ap}
use Rattle.sq_forward.proofs.AccessLaws.{allowed_at}
use Rattle.sq_forward.specs.Access.{allowed_by}
use Rattle.sq_forward.proofs.allowing.allows.Goals as goal

pub returns : goal.returns
returns c = λ s seen.
    c.allows_name.ensures ∙ ap (allowed_by c.args.config.now c.args.facts.now c.args.reply) c.as_bytes.ensures.value
    ∙ allowed_at c.args.config.now c.args.facts.now s c.args.reply c.args.name.now c.facts.ensures seen
