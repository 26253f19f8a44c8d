use Rattle.std.proofs.Common.{◌≡◌, true, nat_lt, refl, sym, subst}
use Rattle.sq_conf.proofs.SoundLaws.{IsSound_by, IsSound_push, no_leaf}
use Rattle.sq_conf.proofs.TakesLaws.{takes_pushed}
use Rattle.sq_rules.specs.Limits.{acl_limit}
use Rattle.sq_rules.specs.Lookups.{stated_acls}
use Rattle.sq_rules.specs.Drafts.{Drafts}
use Rattle.sq_rules.specs.declared.configs.Body.TheVariants as body
use Rattle.sq_conf.proofs.builder.Builder.push_any_of.Goals as goal

pub invariant_of-self : goal.invariant_of-self
invariant_of-self c =
    let room : nat_lt (stated_acls c.self.inside.dst_lookup c.self.inside.acls) acl_limit ≡ true =
    subst (λ (d : Drafts). nat_lt (stated_acls d.dst_lookup d.acls) acl_limit ≡ true) (sym c.self.view_is)
    c.requires.room in
    IsSound_by c.push.result _ c.push.new.self _ c.self.invariant c.push.ensures.ok c.push.ensures.err
    (IsSound_push _ (record { name = c.args.name; body = body.AnyOf c.new.result }) c.self.invariant room
    c.requires.word (no_leaf c.self.inside.dst_lookup) (rw c.new.ensures refl) refl)

pub returns-clause-group : goal.returns-clause-group
returns-clause-group c =
    rw (← c.self.view_is) (takes_pushed c.push.result c.self.inside.dst_lookup c.self.inside.classes c.self.inside.acls
    c.push.new.self (record { name = c.args.name; body = body.AnyOf c.new.result }) c.self.invariant.lookups_are
    c.requires.word c.push.ensures.ok)
