use Rattle.std.proofs.Common.{◌≡◌, length, true, nat_lt, sym, subst}
use Rattle.sq_conf.proofs.SoundLaws.{IsSound_header, IsSound_header_by}
use Rattle.sq_rules.specs.Configurations.{is_header}
use Rattle.sq_rules.specs.Limits.{header_limit}
use Rattle.sq_rules.specs.Drafts.{Drafts}
use Rattle.sq_conf.proofs.builder.Builder.push_header.Goals as goal

pub invariant_of-self : goal.invariant_of-self
invariant_of-self c =
    let room : nat_lt (length c.self.inside.headers) header_limit ≡ true =
    subst (λ (d : Drafts). nat_lt (length d.headers) header_limit ≡ true) (sym c.self.view_is) c.requires.room in
    let fast : is_header c.self.inside.acls c.args.header ≡ true =
    subst (λ (d : Drafts). is_header d.acls c.args.header ≡ true) (sym c.self.view_is) c.requires.fast in
    IsSound_header_by c.push.result _ c.push.new.self _ c.self.invariant c.push.ensures.ok c.push.ensures.err
    (IsSound_header _ c.args.header c.self.invariant room fast c.requires.lower)
