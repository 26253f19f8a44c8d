use Rattle.std.proofs.Common.{◌∙◌, ◌∷◌, [], ap, sym, subst, map}
use Rattle.std.proofs.lemmas.List.{map-append}
use Rattle.std.proofs.lemmas.Map.Iter.{iter_end}
use Rattle.std.specs.Map.Iter.{deref}
use Rattle.sq_base.specs.declared.helpers.What.TheVariants as what
use Rattle.sq_checks.specs.OpenChecks.{change_at, ended_by}
use Rattle.sq_checks.proofs.EndLaws.{all_listed, listed_changed, listed_more, none_listed, twice}
use Rattle.sq_checks.proofs.MapLaws.{AreOnce, sorted_once}
use Rattle.sq_checks.proofs.open_checks.OpenChecks.fault.Goals as goal

pub loop-check-init : goal.loop-check-init
loop-check-init c = sym (none_listed (ended_by c.args.question (what.Fault c.args.cause) c.args.now) c.args.self.now)

pub loop-check-preserved : goal.loop-check-preserved
loop-check-preserved c =
    let w = what.Fault c.args.cause in
    let f = ended_by c.args.question w c.args.now in
    let k = c.in-Some.check.now in
    c.serve.ensures ∙ ap (change_at k f) c.loop-check.invariant
    ∙ listed_more (map deref c.loop-check.yielded) k f c.args.self.now (twice c.args.question w c.args.now)
    ∙ ap (λ ns. listed_changed ns f c.args.self.now)
    (sym (map-append deref c.loop-check.yielded (c.in-Some.check ∷ [])))

pub returns : goal.returns
returns c =
    let w = what.Fault c.args.cause in
    let all = iter_end deref c.args.waiting.now c.loop-check.yielded _ _ _ _
    (c.into_iter-check-iterator.ensures.into_iter_gives ∙ c.iter-check-items.ensures.rest) c.loop-check.yielded_by
    c.in-None.is c.next.ensures.steps in
    let once : AreOnce c.args.self.now =
    subst AreOnce c.self.view_is (sorted_once c.self.inside.map.entries c.len-len.ensures.ordered) in
    c.loop-check.invariant ∙ ap (λ ns. listed_changed ns (ended_by c.args.question w c.args.now) c.args.self.now) all.0
    ∙ all_listed c.args.waiting.now c.args.question w c.args.now c.args.self.now once c.requires
