use Rattle.std.proofs.Common.{◌≡◌, true, nat_lt, sym, subst}
use Rattle.sq_conf.proofs.SoundLaws.{IsSound_by, IsSound_more}
use Rattle.sq_rules.specs.Limits.{acl_limit}
use Rattle.sq_rules.specs.Lookups.{stated_acls}
use Rattle.sq_rules.specs.Drafts.{Drafts}
use Rattle.sq_conf.proofs.builder.Builder.push_lookup.Goals as goal

pub invariant_of-self : goal.invariant_of-self
invariant_of-self c =
    let on : c.self.inside.dst_lookup ≡ true =
    subst (λ (d : Drafts). d.dst_lookup ≡ true) (sym c.self.view_is) c.requires.on in
    let room : nat_lt (stated_acls c.self.inside.dst_lookup c.self.inside.acls) acl_limit ≡ true =
    subst (λ (d : Drafts). nat_lt (stated_acls d.dst_lookup d.acls) acl_limit ≡ true) (sym c.self.view_is)
    c.requires.room in
    IsSound_by c.push_lookup.result _ c.push_lookup.new.self _ c.self.invariant c.push_lookup.ensures.ok
    c.push_lookup.ensures.err (IsSound_more _ c.args.name c.args.values c.self.invariant on room c.requires.word)
