use Rattle.sq_rules.proofs.FourLaws.{lookup_free}
use Rattle.sq_rules.proofs.acl_table.AclTable.push_leaves.Goals as goal

pub push_asking-pushed-requires-clause-free : goal.push_asking-pushed-requires-clause-free
push_asking-pushed-requires-clause-free c =
    rw c.in_ok-push_values.ensures.ok (lookup_free c.args.self.now c.args.name.now c.args.values c.requires.lookup)
