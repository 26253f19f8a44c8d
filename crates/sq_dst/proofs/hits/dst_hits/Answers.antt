use Rattle.std.proofs.Common.{IfSome, subst, ◌∙◌}
use Rattle.sq_base.specs.Addresses.{IsAddress}
use Rattle.sq_dst.proofs.HitLaws.{are_hits}
use Rattle.sq_rules.specs.Configurations.{IsConfiguration}
use Rattle.sq_rules.specs.declared.sights.Sight.{Sight}
use Rattle.sq_dst.proofs.hits.dst_hits.Goals as goal

pub returns : goal.returns
returns c = are_hits c.args.record.now.config c.args.record.now.sight c.args.record.now.answers
    (subst IsConfiguration (c.deref.ensures ∙ c.config.ensures) c.facts.ensures)
    (subst (λ (s : Sight). IfSome s.request.literal IsAddress) (c.behind-record.view_is ∙ c.sight.ensures)
    c.address_fits.ensures)
