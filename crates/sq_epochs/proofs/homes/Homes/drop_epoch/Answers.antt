use Rattle.std.proofs.Common.{◌≡◌, ◌∙◌, length, arith, ap, sym, subst, rules}
use Rattle.std.proofs.lemmas.Fn.{filter_same}
use Rattle.sq_epochs.specs.HomeStates.{AreHomes, other_homes, procs_of, with_numbers}
use Rattle.sq_epochs.proofs.HomeLaws.{homes_dropped, length_all, length_other}
use Rattle.sq_epochs.proofs.homes.Homes.drop_epoch.Goals as goal

pub invariant_of-self : goal.invariant_of-self
invariant_of-self c =
    let v = c.self.inside in
    let e = c.args.epoch in
    let hs = v.homes.items in
    let ss = v.stops.numbers in
    let homes : c.retain.new.self.items ≡ other_homes e hs =
    filter_same _ _ _ (λ x b f' k. search rules) _ _ c.retain.ensures.filtered in
    let stops : c.put_all.new.stops.numbers ≡ with_numbers (procs_of e hs) ss = c.put_all.ensures.numbers
    ∙ ap (λ z. with_numbers (procs_of e z) ss) c.deref.ensures.value in
    let l = ap length homes in
    let m = ap length stops in
    let p = length_all (procs_of e hs) ss in
    let q = length_other e hs in
    let more = c.put_all.ensures.room in
    let room = c.self.invariant.2 in (
      subst (λ z. AreHomes v.given z c.put_all.new.stops.numbers) (sym homes)
          (subst (AreHomes v.given (other_homes e hs)) (sym stops) (homes_dropped v.given e hs ss c.self.invariant.0)),
      c.self.invariant.1,
      omega arith,
    )

pub returns-clause-homes : goal.returns-clause-homes
returns-clause-homes c =
    rw (← c.self.view_is) (filter_same _ _ _ (λ x b f' k. search rules) _ _ c.retain.ensures.filtered)
