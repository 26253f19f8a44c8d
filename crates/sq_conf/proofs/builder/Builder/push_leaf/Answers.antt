use Rattle.std.proofs.Common.{◌≡◌, ◌&&◌, false, true, nat_lt, refl, sym, subst}
use Rattle.sq_conf.proofs.SoundLaws.{IsSound_by, IsSound_push}
use Rattle.sq_rules.specs.Limits.{acl_limit}
use Rattle.sq_rules.specs.Lookups.{is_dst, stated_acls}
use Rattle.sq_rules.specs.Drafts.{Drafts}
use Rattle.sq_rules.specs.declared.configs.Body.TheVariants as body
use Rattle.sq_conf.proofs.builder.Builder.push_leaf.Goals as goal

pub invariant_of-self : goal.invariant_of-self
invariant_of-self c =
    let room : nat_lt (stated_acls c.self.inside.dst_lookup c.self.inside.acls) acl_limit ≡ true =
    subst (λ (d : Drafts). nat_lt (stated_acls d.dst_lookup d.acls) acl_limit ≡ true) (sym c.self.view_is)
    c.requires.room in
    let plain : (c.self.inside.dst_lookup && is_dst (body.Leaf c.args.leaf)) ≡ false =
    subst (λ (d : Drafts). (d.dst_lookup && is_dst (body.Leaf c.args.leaf)) ≡ false) (sym c.self.view_is)
    c.requires.plain in
    IsSound_by c.push.result _ c.push.new.self _ c.self.invariant c.push.ensures.ok c.push.ensures.err
    (IsSound_push _ (record { name = c.args.name; body = body.Leaf c.args.leaf }) c.self.invariant room c.requires.word
    plain refl c.requires.patterns)
