use Rattle.std.proofs.Common.{◌≡◌, length, ap, subst, OnErr, arith}
use Rattle.sq_rules.proofs.FourLaws.{all_four, either_shallow, long_two, name_free, named_free, named_shallow, with_two}
use Rattle.sq_rules.proofs.PopLaws.{two_off}
use Rattle.sq_rules.specs.Lookups.{asking_acl, values_acl}
use Rattle.sq_rules.proofs.acl_table.AclTable.push_lookup.Goals as goal

pub push_groups-pushed-requires : goal.push_groups-pushed-requires
push_groups-pushed-requires c =
    let acls = c.args.self.now in
    let name = c.args.name in
    let values = c.args.values in
    let two : c.push_leaves.new.self ≡ with_two acls name values = c.in_ok-push_leaves.ensures.ok in
    record {
      few = omega (arith, ap length two, long_two acls name values);
      before = omega (arith, ap length two, long_two acls name values, c.len-place.ensures);
      named = rw two (named_free acls name values c.requires.named);
      shallow = rw (two, c.len-place.ensures) (named_shallow acls name values c.requires.first);
      either = rw (two, c.len-place.ensures) (name_free acls name values c.requires.free);
      either_shallow = rw (two, c.len-place.ensures) (either_shallow acls name values c.requires.first);
    }

pub returns-then-is_err-clause-err : goal.returns-then-is_err-clause-err
returns-then-is_err-clause-err c =
    two_off c.push_groups-pushed.result c.args.self.now c.push_groups-pushed.new.self c.pop.new.self
    c.pop-then-is_err.new.self (values_acl c.args.name c.args.values) (asking_acl c.args.name)
    (subst (λ l. OnErr c.push_groups-pushed.result (c.push_groups-pushed.new.self ≡ l)) c.in_ok-push_leaves.ensures.ok
    c.push_groups-pushed.ensures.err) c.pop.ensures c.pop-then-is_err.ensures

pub returns-else-is_err-clause-ok : goal.returns-else-is_err-clause-ok
returns-else-is_err-clause-ok c =
    let acls = c.args.self.now in
    let name = c.args.name in
    let values = c.args.values in
    rw (← all_four acls name values, ← c.len-place.ensures, ← c.in_ok-push_leaves.ensures.ok)
    c.push_groups-pushed.ensures.ok
