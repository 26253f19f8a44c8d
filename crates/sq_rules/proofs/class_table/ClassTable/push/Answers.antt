use Rattle.std.proofs.Common.{◌≡◌, ◌++◌, ◌∷◌, [], None, arith}
use Rattle.std.proofs.lemmas.Grind.{common_steps}
use Rattle.sq_rules.proofs.NameLaws.{known_push, own_push}
use Rattle.sq_rules.specs.Classes.{Class}
use Rattle.sq_rules.specs.Configurations.{place_from}
use Rattle.sq_rules.proofs.class_table.ClassTable.push.Goals as goal

pub invariant_of-self-2 : goal.invariant_of-self-2
invariant_of-self-2 c =
    let old = c.self.inside.classes.items in
    let new = c.push_reserved.new.self.items in
    let more : new ≡ old ++ c.args.class ∷ [] =
    grind (arith, common_steps, c.push_reserved.ensures.items, c.reserve.ensures.items) in
    let free : place_from (λ (a : Class). a.name) 0 old c.args.class.name ≡ None =
    rw c.self.view_is c.requires.free in (
      known_push (λ a. a.name) c.self.inside.places c.put.new.self old new c.args.class c.class.inside.name
          c.len-place.result c.self.invariant.0 c.in_ok-put.ensures.ok free (grind (arith, common_steps))
          (grind (arith, common_steps)) more,
      own_push (λ a. a.name) old new c.args.class c.self.invariant.1 free more,
    )
