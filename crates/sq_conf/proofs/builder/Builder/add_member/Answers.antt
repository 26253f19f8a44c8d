use Rattle.std.proofs.Common.{◌≡◌, ◌<◌, length, true, sym, subst, ◌∙◌, arith}
use Rattle.std.proofs.lemmas.Grind.{common_steps}
use Rattle.sq_conf.proofs.SoundLaws.{IsSound_by, IsSound_member, member_fast}
use Rattle.sq_conf.proofs.TakesLaws.{takes_changed}
use Rattle.sq_conf.specs.Sound.{stay_fast}
use Rattle.sq_rules.specs.Changes.{with_member_at}
use Rattle.sq_rules.specs.Drafts.{Drafts, are_fast, with_member}
use Rattle.sq_rules.specs.Lookups.{takes_members}
use Rattle.sq_conf.proofs.builder.Builder.add_member.Goals as goal

pub invariant_of-self : goal.invariant_of-self
invariant_of-self c =
    let within : c.args.place < length c.self.inside.acls =
    subst (λ (d : Drafts). c.args.place < length d.acls) (sym c.self.view_is) c.requires.within in
    let fast : stay_fast c.in_ok-slow.slow c.self.inside.pools.items c.self.inside.headers ≡ true =
    grind (arith, common_steps, c.stay_fast.ensures, c.if-not-stay_fast.false, c.as_slice.ensures.value) in
    let takes : takes_members c.self.inside.dst_lookup c.self.inside.acls c.args.place ≡ true =
    subst (λ (d : Drafts). takes_members d.dst_lookup d.acls c.args.place ≡ true) (sym c.self.view_is)
    c.requires.group in
    IsSound_by c.add_member.result _ c.add_member.new.self _ c.self.invariant c.add_member.ensures.ok
    c.add_member.ensures.err
    (IsSound_member _ c.args.place c.args.term c.self.invariant within c.requires.earlier takes
    (member_fast _ c.args.place c.args.term c.in_ok-slow.slow c.self.invariant c.in_ok-slow.ensures ∙ fast))

pub returns-clause-fast : goal.returns-clause-fast
returns-clause-fast c =
    let fast : stay_fast c.in_ok-slow.slow c.self.inside.pools.items c.self.inside.headers ≡ true =
    grind (arith, common_steps, c.stay_fast.ensures, c.if-not-stay_fast.false, c.as_slice.ensures.value) in
    let then_fast : are_fast (with_member_at c.args.place c.args.term c.self.inside.acls) c.self.inside.pools.items
    c.self.inside.headers ≡ true =
    member_fast _ c.args.place c.args.term c.in_ok-slow.slow c.self.invariant c.in_ok-slow.ensures ∙ fast in
    rw (← c.self.view_is, then_fast) (grind (arith, common_steps))

pub returns-clause-not_slow : goal.returns-clause-not_slow
returns-clause-not_slow c =
    let fast : stay_fast c.in_ok-slow.slow c.self.inside.pools.items c.self.inside.headers ≡ true =
    grind (arith, common_steps, c.stay_fast.ensures, c.if-not-stay_fast.false, c.as_slice.ensures.value) in
    let then_fast : are_fast (with_member_at c.args.place c.args.term c.self.inside.acls) c.self.inside.pools.items
    c.self.inside.headers ≡ true =
    member_fast _ c.args.place c.args.term c.in_ok-slow.slow c.self.invariant c.in_ok-slow.ensures ∙ fast in
    rw (← c.self.view_is, then_fast) (grind (arith, common_steps))

pub returns-clause-group : goal.returns-clause-group
returns-clause-group c =
    let within : c.args.place < length c.self.inside.acls =
    subst (λ (d : Drafts). c.args.place < length d.acls) (sym c.self.view_is) c.requires.within in
    let takes : takes_members c.self.inside.dst_lookup c.self.inside.acls c.args.place ≡ true =
    subst (λ (d : Drafts). takes_members d.dst_lookup d.acls c.args.place ≡ true) (sym c.self.view_is)
    c.requires.group in
    takes_changed c.add_member.result c.self.inside.dst_lookup c.self.inside.acls c.add_member.new.self c.args.place
    (with_member c.args.term) within takes c.add_member.ensures.ok c.add_member.ensures.err
