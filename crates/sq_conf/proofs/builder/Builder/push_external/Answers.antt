use Rattle.std.proofs.Common.{◌≡◌, ◌<◌, length, true, nat_lt, refl, sym, subst, arith}
use Rattle.std.proofs.lemmas.Bool.Decides.{nat_tests}
use Rattle.sq_conf.proofs.SoundLaws.{IsSound_by, IsSound_push, no_leaf}
use Rattle.sq_rules.specs.Limits.{acl_limit}
use Rattle.sq_rules.specs.Lookups.{stated_acls}
use Rattle.sq_rules.specs.Drafts.{Drafts}
use Rattle.sq_rules.specs.declared.configs.Body.TheVariants as body
use Rattle.sq_conf.proofs.builder.Builder.push_external.Goals as goal

pub invariant_of-self : goal.invariant_of-self
invariant_of-self c =
    let room : nat_lt (stated_acls c.self.inside.dst_lookup c.self.inside.acls) acl_limit ≡ true =
    subst (λ (d : Drafts). nat_lt (stated_acls d.dst_lookup d.acls) acl_limit ≡ true) (sym c.self.view_is)
    c.requires.room in
    IsSound_by c.push.result _ c.push.new.self _ c.self.invariant c.push.ensures.ok c.push.ensures.err
    (IsSound_push _ (record { name = c.args.name; body = body.External c.args.class c.args.arguments }) c.self.invariant
    room c.requires.word (no_leaf c.self.inside.dst_lookup)
    (grind (
      arith,
      nat_tests,
      subst (λ (d : Drafts). c.args.class < length d.classes) (sym c.self.view_is) c.requires.class,
    )) refl)
