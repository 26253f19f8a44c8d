use Rattle.sq_rules.proofs.LookupLaws.{stated_alike}
use Rattle.sq_rules.specs.declared.configs.Acl.{Acl}
use Rattle.sq_rules.specs.declared.parts.AclPart.{AclPart}
use Rattle.sq_rules.proofs.configs.Config.build.Goals as goal

pub invariant_of-result : goal.invariant_of-result
invariant_of-result c =
    let tables = c.in_ok-tables.ensures in
    let lists = c.in_ok-lists.ensures in
    record {
      short = c.requires.short;
      class_names = c.into_classes.ensures.distinct;
      names = c.into_acls.ensures.unique;
      members = rw (c.into_classes.ensures.classes, c.into_acls.ensures.acls) tables.known;
      shallow = c.into_acls.ensures.shallow;
      places = rw c.into_acls.ensures.acls lists.known;
      pools_are = rw c.into_acls.ensures.acls lists.are_pools;
      headers_are = rw c.into_acls.ensures.acls lists.are_headers;
      lower_headers = lists.lower;
      rewriter_is = c.requires.rewriter_is;
      lookups_are = rw (c.into_classes.ensures.classes, c.into_acls.ensures.acls) tables.looked_up;
      few_classes = rw (c.into_classes.ensures.classes, tables.count) c.requires.few_classes;
      few_acls = rw (
        c.into_acls.ensures.acls,
        stated_alike c.args.parts.dst_lookup (λ (a : Acl). a.name) (λ (p : AclPart). p.name)
            c.in_ok-tables.tables.acls c.args.parts.acls tables.unmade tables.acl_count,
      )
          c.requires.few_acls;
      all_acls = rw (c.into_acls.ensures.acls, tables.acl_count) c.requires.all_acls;
      few_rules = rw lists.rule_count c.requires.few_rules;
      few_pools = rw lists.pool_count c.requires.few_pools;
      few_headers = rw lists.header_count c.requires.few_headers;
      initial_is = c.requires.initial_is;
    }
