use Rattle.std.proofs.Common.{◌<◌, length, sym, subst}
use Rattle.sq_conf.proofs.SoundLaws.{IsSound_by, IsSound_leaf}
use Rattle.sq_rules.specs.Drafts.{Drafts}
use Rattle.sq_conf.proofs.builder.Builder.join_leaf.Goals as goal

pub invariant_of-self : goal.invariant_of-self
invariant_of-self c =
    let within : c.args.place < length c.self.inside.acls =
    subst (λ (d : Drafts). c.args.place < length d.acls) (sym c.self.view_is) c.requires.within in
    IsSound_by c.join_leaf.result _ c.join_leaf.new.self _ c.self.invariant c.join_leaf.ensures.ok
    c.join_leaf.ensures.err (IsSound_leaf _ c.args.place c.args.leaf c.self.invariant within c.requires.patterns)
