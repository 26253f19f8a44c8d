use Rattle.std.proofs.Common.{refl, arith, is_some}
use Rattle.sq_conf.proofs.FirstLaws.{begun_acls, begun_classes, begun_looked, begun_members, begun_patterns, begun_stated}
use Rattle.sq_conf.proofs.builder.Builder.new.Goals as goal

pub invariant_of-result : goal.invariant_of-result
invariant_of-result c = record {
  members = rw (c.in_ok-classes.ensures, c.in_ok-acls.ensures, c.is_some-lookup.ensures) (begun_members c.args.sizes);
  patterns = rw (c.in_ok-acls.ensures, c.is_some-lookup.ensures) (begun_patterns (is_some c.args.sizes));
  places = rw c.new.ensures refl;
  pools_are = rw c.new-2.ensures.items refl;
  headers_are = rw c.new-3.ensures refl;
  lower_headers = rw c.new-3.ensures refl;
  program_is = refl;
  children_are = refl;
  lookups_are = rw (c.in_ok-classes.ensures, c.in_ok-acls.ensures, c.is_some-lookup.ensures)
      (begun_looked c.args.sizes);
  few_classes = rw (c.in_ok-classes.ensures, c.is_some-lookup.ensures) (begun_classes c.args.sizes);
  few_acls = rw (c.in_ok-acls.ensures, c.is_some-lookup.ensures) (begun_stated (is_some c.args.sizes));
  all_acls = rw (c.in_ok-acls.ensures, c.is_some-lookup.ensures) (begun_acls (is_some c.args.sizes));
  few_rules = rw c.new.ensures (omega arith);
  few_pools = rw c.new-2.ensures.items (omega arith);
  few_headers = rw c.new-3.ensures (omega arith);
  initial_is = omega arith;
}
