use Rattle.std.proofs.Common.{◌≡◌, length, ap, ◌∙◌, arith}
use Rattle.std.proofs.lemmas.List.{length-map}
use Rattle.sq_conf.proofs.SoundLaws.{pools_finished, rewriter_finished}
use Rattle.sq_rules.specs.Drafts.{pool_of_draft}
use Rattle.sq_conf.proofs.builder.Builder.finish.Goals as goal

pub of_fields-requires : goal.of_fields-requires
of_fields-requires c =
    let long : length c.in_ok-pools.pools ≡ length c.self.inside.pools.items = ap length c.in_ok-pools.ensures.ok
    ∙ length-map c.self.inside.pools.items pool_of_draft in
    record {
      short = c.requires;
      class_names = c.into_classes.ensures.distinct;
      names = c.into_acls.ensures.unique;
      members = rw (c.into_classes.ensures.classes, c.into_acls.ensures.acls) c.self.invariant.members;
      shallow = c.into_acls.ensures.shallow;
      places = rw c.into_acls.ensures.acls c.self.invariant.places;
      pools_are = rw (c.into_acls.ensures.acls, c.in_ok-pools.ensures.ok)
          (pools_finished c.self.inside.acls c.self.inside.pools.items c.self.invariant.pools_are
          c.in_ok-pools.ensures.complete);
      lower_headers = c.self.invariant.lower_headers;
      rewriter_is = rw c.in_ok-rewriter.ensures
          (rewriter_finished c.self.inside.program c.self.inside.children c.self.invariant.program_is
          c.self.invariant.children_are);
      headers_are = rw c.into_acls.ensures.acls c.self.invariant.headers_are;
      lookups_are = rw (c.into_classes.ensures.classes, c.into_acls.ensures.acls) c.self.invariant.lookups_are;
      few_classes = rw c.into_classes.ensures.classes c.self.invariant.few_classes;
      few_acls = rw c.into_acls.ensures.acls c.self.invariant.few_acls;
      all_acls = rw c.into_acls.ensures.acls (omega (arith, c.self.invariant.all_acls, c.self.invariant.few_acls));
      few_rules = c.self.invariant.few_rules;
      few_pools = omega (arith, long, c.self.invariant.few_pools);
      few_headers = c.self.invariant.few_headers;
      initial_is = c.self.invariant.initial_is;
    }
