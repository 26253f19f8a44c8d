use Rattle.std.proofs.Common.{◌≡◌, ◌∙◌, ◌∷◌, [], ◌++◌, ap, sym, subst, map, length, length-append, arith}
use Rattle.std.proofs.lemmas.List.{map-append}
use Rattle.std.proofs.lemmas.Map.Iter.{iter_end}
use Rattle.std.specs.Map.Iter.{deref}
use Rattle.sq_checks.specs.OpenChecks.{AllAre, change_at, ended_by}
use Rattle.sq_checks.proofs.EndLaws.{all_front, all_last, all_listed, listed_changed, listed_more, none_listed, twice}
use Rattle.sq_checks.proofs.MapLaws.{AreOnce, sorted_once}
use Rattle.sq_checks.proofs.open_checks.OpenChecks.answer.Goals as goal

pub loop-check-init : goal.loop-check-init
loop-check-init c = record {
  left = omega arith;
  done = λ w all. (all, sym (none_listed (ended_by c.args.question w c.args.now) c.args.self.now));
}

pub loop-check-preserved : goal.loop-check-preserved
loop-check-preserved c =
    let items = c.in-Some-pop.ensures.items in
    let rest = c.pop.new.self.items in
    let x = c.in-Some-pop.what in
    let k = c.in-Some.check.now in
    record {
      left = omega (
        arith,
        ap length items,
        length-append rest (x ∷ []),
        length-append c.loop-check.yielded (c.in-Some.check ∷ []),
        c.loop-check.invariant.left,
      );
      done = λ w all.
          let was = c.loop-check.invariant.done w all in
          let f = ended_by c.args.question w c.args.now in
          let cut : AllAre w (rest ++ x ∷ []) = subst (AllAre w) items was.0 in
          let one : x ≡ w = all_last w x rest cut in (
            all_front w x rest cut,
            c.serve.ensures ∙ ap (λ v. change_at k (ended_by c.args.question v c.args.now) c.loop-check.self) one
                ∙ ap (change_at k f) was.1
                ∙ listed_more (map deref c.loop-check.yielded) k f c.args.self.now (twice c.args.question w c.args.now)
                ∙ ap (λ ns. listed_changed ns f c.args.self.now)
                (sym (map-append deref c.loop-check.yielded (c.in-Some.check ∷ []))),
          );
    }

pub returns : goal.returns
returns c = λ w each.
    let all = iter_end deref c.args.waiting.now c.loop-check.yielded _ _ _ _
    (c.into_iter-check-iterator.ensures.into_iter_gives ∙ c.iter-check-items.ensures.rest) c.loop-check.yielded_by
    c.in-None.is c.next.ensures.steps in
    let once : AreOnce c.args.self.now =
    subst AreOnce c.self.view_is (sorted_once c.self.inside.map.entries c.len-len.ensures.ordered) in
    (c.loop-check.invariant.done w each).1
    ∙ ap (λ ns. listed_changed ns (ended_by c.args.question w c.args.now) c.args.self.now) all.0
    ∙ all_listed c.args.waiting.now c.args.question w c.args.now c.args.self.now once c.requires.waiting
