use Rattle.std.proofs.Common.{◌≡◌, ◌<◌, ◌≤◌, ◌+◌, ◌++◌, length, suc, ◌∷◌, [], None, Some, refl, arith}
use Rattle.std.proofs.lemmas.Grind.{common_steps}
use Rattle.sq_rules.proofs.AclLaws.{depths_push, shallow_push, slow_push}
use Rattle.sq_rules.proofs.LookupLaws.{unmade_acls_most, unmade_acls_push}
use Rattle.sq_rules.proofs.NameLaws.{known_push, own_push}
use Rattle.sq_rules.specs.Configurations.{nesting_of, place_from}
use Rattle.sq_rules.specs.Limits.{most_acls}
use Rattle.sq_rules.specs.Tables.{allowed}
use Rattle.sq_rules.specs.declared.configs.Acl.{Acl}
use Rattle.sq_rules.proofs.acl_table.AclTable.push.Goals as goal

pub overflow_add-unmade : goal.overflow_add-unmade
overflow_add-unmade c =
    let old = c.self.inside.acls.items in
    let most : c.self.inside.unmade + c.counted.result ≤ suc (length old) =
    unmade_acls_most old c.args.name c.self.inside.unmade c.counted.result c.self.invariant.count_is
    (grind (arith, common_steps, c.counted.ensures)) in
    let few : length old < most_acls = rw c.self.view_is c.requires.few in
    omega (arith, most, few)

pub invariant_of-self-2 : goal.invariant_of-self-2
invariant_of-self-2 c =
    let old = c.self.inside.acls.items in
    let new = c.push_reserved-3.new.self.items in
    let acl : Acl = record { name = c.args.name; body = c.args.body } in
    let more : new ≡ old ++ acl ∷ [] =
    grind (arith, common_steps, c.push_reserved-3.ensures.items, c.make_room.ensures.acls) in
    let free : place_from (λ (a : Acl). a.name) 0 old acl.name ≡ None = rw c.self.view_is c.requires.free in
    let deep : allowed (nesting_of c.self.inside.nestings.items acl.body) ≡ Some c.in-Some.nesting =
    grind (arith, common_steps, c.nesting_of.ensures, c.in-Some.is) in
    record {
      places_are = known_push (λ a. a.name) c.self.inside.places c.make_room.new.places old new acl c.args.name
          (length old) c.self.invariant.places_are c.in_ok-make_room.ensures.place free refl refl more;
      depths_are = depths_push c.self.inside.nestings.items c.push_reserved.new.self.items old new acl c.in-Some.nesting
          c.self.invariant.depths_are
          (grind (arith, common_steps, c.push_reserved.ensures.items, c.make_room.ensures.nestings)) deep more;
      slow_are = slow_push c.self.inside.slow.items c.push_reserved-2.new.self.items old new acl c.is_slow-asks.result
          c.self.invariant.slow_are
          (grind (arith, common_steps, c.push_reserved-2.ensures.items, c.make_room.ensures.slow))
          (grind (arith, common_steps, c.is_slow-asks.ensures)) more;
      count_is = unmade_acls_push old new acl c.self.inside.unmade c.counted.result
          (c.self.inside.unmade + c.counted.result) c.self.invariant.count_is
          (grind (arith, common_steps, c.counted.ensures)) refl more;
      unique = own_push (λ a. a.name) old new acl c.self.invariant.unique free more;
      shallow = shallow_push c.self.inside.nestings.items old new acl c.in-Some.nesting c.self.invariant.shallow
          c.self.invariant.depths_are deep more;
    }
