use Rattle.std.proofs.Common.{◌≡◌, length, true, nat_lt, sym, subst}
use Rattle.sq_conf.proofs.SoundLaws.{IsSound_class, IsSound_class_by}
use Rattle.sq_rules.specs.Lookups.{classes_within}
use Rattle.sq_rules.specs.Drafts.{Drafts}
use Rattle.sq_conf.proofs.builder.Builder.push_class.Goals as goal

pub invariant_of-self : goal.invariant_of-self
invariant_of-self c =
    let room : nat_lt (length c.self.inside.classes) (classes_within c.self.inside.dst_lookup) ≡ true =
    subst (λ (d : Drafts). nat_lt (length d.classes) (classes_within d.dst_lookup) ≡ true) (sym c.self.view_is)
    c.requires.room in
    IsSound_class_by c.push.result _ c.push.new.self _ c.self.invariant c.push.ensures.ok c.push.ensures.err
    (IsSound_class _ c.args.class c.self.invariant room)
