use Rattle.std.proofs.Common.{◌≡◌, ◌<◌, true, length, sym, subst}
use Rattle.sq_conf.proofs.SoundLaws.{IsSound_by, IsSound_line}
use Rattle.sq_conf.proofs.TakesLaws.{takes_changed}
use Rattle.sq_rules.specs.Drafts.{Drafts, with_line}
use Rattle.sq_rules.specs.Lookups.{takes_members}
use Rattle.sq_conf.proofs.builder.Builder.open_line.Goals as goal

pub invariant_of-self : goal.invariant_of-self
invariant_of-self c =
    let within : c.args.place < length c.self.inside.acls =
    subst (λ (d : Drafts). c.args.place < length d.acls) (sym c.self.view_is) c.requires.within in
    let takes : takes_members c.self.inside.dst_lookup c.self.inside.acls c.args.place ≡ true =
    subst (λ (d : Drafts). takes_members d.dst_lookup d.acls c.args.place ≡ true) (sym c.self.view_is)
    c.requires.group in
    IsSound_by c.open_line.result _ c.open_line.new.self _ c.self.invariant c.open_line.ensures.ok
    c.open_line.ensures.err (IsSound_line _ c.args.place c.self.invariant within takes)

pub returns-clause-group : goal.returns-clause-group
returns-clause-group c =
    let within : c.args.place < length c.self.inside.acls =
    subst (λ (d : Drafts). c.args.place < length d.acls) (sym c.self.view_is) c.requires.within in
    let takes : takes_members c.self.inside.dst_lookup c.self.inside.acls c.args.place ≡ true =
    subst (λ (d : Drafts). takes_members d.dst_lookup d.acls c.args.place ≡ true) (sym c.self.view_is)
    c.requires.group in
    takes_changed c.open_line.result c.self.inside.dst_lookup c.self.inside.acls c.open_line.new.self c.args.place
    with_line within takes c.open_line.ensures.ok c.open_line.ensures.err
