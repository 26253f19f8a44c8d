use Rattle.std.proofs.Common.{◌≡◌, [], IfSome, sym, subst}
use Rattle.sq_rules.specs.Configurations.{Configuration}
use Rattle.sq_desk.specs.Calling.{HasBegun as HasBegunDesk}
use Rattle.sq_pools.specs.Basins.{HasBegun, HasBegunTags}
use Rattle.sq_server.proofs.BeginLaws.{has_counted}
use Rattle.sq_server.proofs.beginning.begin.Goals as goal

pub returns-in-Ok-new-2-clause-begun : goal.returns-in-Ok-new-2-clause-begun
returns-in-Ok-new-2-clause-begun g c =
    let d = c.in-Ok-new-2.desk in
    let begun = c.in-Ok-new-2.ensures.begun in
    let none : IfSome (g.J.Journal.history c.new-watched.result.journal) (λ h. h ≡ []) =
    subst (λ j. IfSome (g.J.Journal.history j) (λ h. h ≡ [])) (sym c.new-watched.ensures) c.requires.empty in
    has_counted (g.J.Journal.history c.new-watched.result.journal) d.notes.history c.args.now d.notes.made
    d.notes.refusals c.in-Ok.pools.granted c.in-Ok-new.tags.granted c.args.start.offset
    none begun.history begun.made begun.refusals c.in-Ok.ensures.granted c.in-Ok-new.ensures.granted

pub returns-in-Ok-new-2-clause-desk : goal.returns-in-Ok-new-2-clause-desk
returns-in-Ok-new-2-clause-desk g c =
    subst (λ j. HasBegunDesk c.args.start.setup c.args.start.offset c.args.now (g.J.Journal.history j)
    c.in-Ok-new-2.desk)
    c.new-watched.ensures c.in-Ok-new-2.ensures.begun

pub returns-in-Ok-new-2-clause-pools : goal.returns-in-Ok-new-2-clause-pools
returns-in-Ok-new-2-clause-pools g c = (
  subst (λ (k : Configuration). HasBegun c.in-Ok.pools 1 k c.args.now) c.config.ensures c.in-Ok.ensures,
  subst (λ (k : Configuration). HasBegunTags c.in-Ok-new.tags 1 k c.args.now) c.config-2.ensures
      c.in-Ok-new.ensures,
)
