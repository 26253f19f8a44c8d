use Rattle.std.proofs.Common.{◌∙◌, sym, ap}
use Rattle.std.specs.Prelude.{unwrap_or}
use Rattle.sq_eval.specs.Takings.{fact_taken}
use Rattle.sq_forward.proofs.RuleLaws.{allowed_is}
use Rattle.sq_forward.specs.Standings.{others_allowed}
use Rattle.sq_forward.proofs.allowing.allows_name.Goals as goal

pub returns-in-Some : goal.returns-in-Some
returns-in-Some c =
    let config = c.args.config.now in
    let facts = c.args.facts.now in
    sym (allowed_is config facts c.args.reply c.args.name.now
    ∙ ap (λ o. unwrap_or o (others_allowed config facts c.args.reply))
    (sym (c.in-Some.ensures (fact_taken facts) config.acls ∙ c.standing_of.ensures)))

pub returns-in-None : goal.returns-in-None
returns-in-None c =
    let config = c.args.config.now in
    let facts = c.args.facts.now in
    c.allows_others.ensures
    ∙ sym (allowed_is config facts c.args.reply c.args.name.now
    ∙ ap (λ o. unwrap_or o (others_allowed config facts c.args.reply))
    (sym (c.in-None.ensures (fact_taken facts) config.acls ∙ c.standing_of.ensures)))
