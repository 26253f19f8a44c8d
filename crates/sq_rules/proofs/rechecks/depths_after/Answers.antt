use Rattle.std.proofs.Common.{◌≡◌, ◌++◌, ◌∷◌, [], take, refl, arith, add-one}
use Rattle.std.proofs.lemmas.Grind.{common_steps}
use Rattle.std.proofs.lemmas.List.{take_rest}
use Rattle.sq_rules.proofs.ListLaws.{all_push, all_take}
use Rattle.sq_rules.proofs.TableLaws.{too_deep_at}
use Rattle.sq_rules.specs.Limits.{nesting_limit}
use Rattle.std.specs.Prelude.{nat_le}
use Rattle.sq_rules.proofs.rechecks.depths_after.Goals as goal

pub loop-acl-init : goal.loop-acl-init
loop-acl-init c =
    let all : c.push.new.self ≡ take c.args.place c.args.depths.now ++ c.args.depth ∷ [] =
    grind (arith, common_steps, c.in_ok-push.ensures.ok, c.in_ok-all.ensures) in
    record {
      rest = rw (all, take_rest, add-one) refl;
      shallow = rw all (all_push (λ n. nat_le n nesting_limit) (take c.args.place c.args.depths.now) c.args.depth
          (all_take (λ n. nat_le n nesting_limit) c.args.place c.args.depths.now c.requires.shallow) c.requires.depth);
    }

pub returns-in-None-clause-deep : goal.returns-in-None-clause-deep
returns-in-None-clause-deep c =
    λ _. too_deep_at c.loop-acl.all _ c.loop-acl.acl-index c.acl-item.result _ c.loop-acl.invariant.rest
    (grind (arith, common_steps)) c.acl-item.is (grind (arith, common_steps, c.nesting_of.ensures, c.in-None.is))
