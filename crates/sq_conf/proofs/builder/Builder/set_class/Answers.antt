use Rattle.std.proofs.Common.{◌≡◌, ◌<◌, length, set, Some, None, true, slice_get, refl, sym, ap, subst, ◌∙◌}
use Rattle.std.proofs.lemmas.Option.{slice_get_read}
use Rattle.sq_conf.proofs.ListLaws.{all_at}
use Rattle.sq_conf.proofs.SoundLaws.{IsSound_pool, at_place, class_set, pool_changed}
use Rattle.sq_conf.specs.Sound.{is_pool_draft}
use Rattle.sq_rules.specs.Drafts.{Drafts, pool_at}
use Rattle.sq_conf.proofs.builder.Builder.set_class.Goals as goal

pub invariant_of-self : goal.invariant_of-self
invariant_of-self c =
    let acls = c.self.inside.acls in
    let pools = c.self.inside.pools.items in
    let place = c.args.place in
    let x = c.index_mut.result.now in
    let within : place < length pools =
    subst (λ (d : Drafts). place < length d.pools) (sym c.self.view_is) c.requires.within in
    let is : slice_get pools place ≡ Some x = slice_get_read pools _ place x refl within c.index_mut.ensures.value in
    let was : is_pool_draft acls x ≡ true = all_at (is_pool_draft acls) pools place x c.self.invariant.pools_are is in
    let none : x.class ≡ None = ap (λ p. p.class) (sym (at_place pools place x is))
    ∙ subst (λ (d : Drafts). (pool_at d.pools place).class ≡ None) (sym c.self.view_is) c.requires.none in
    IsSound_pool _ place c.set_class.new.self c.self.invariant
    (rw c.set_class.ensures (class_set acls x c.args.class was none c.requires.one))

pub returns : goal.returns
returns c =
    let pools = c.self.inside.pools.items in
    let place = c.args.place in
    let x = c.index_mut.result.now in
    let within : place < length pools =
    subst (λ (d : Drafts). place < length d.pools) (sym c.self.view_is) c.requires.within in
    let is : slice_get pools place ≡ Some x = slice_get_read pools _ place x refl within c.index_mut.ensures.value in
    let d : Drafts = (record {
      dst_lookup = c.self.inside.dst_lookup;
      classes = c.self.inside.classes;
      acls = c.self.inside.acls;
      rules = c.self.inside.rules;
      counted = c.self.inside.counted;
      pools = c.self.inside.pools.items;
      initial = c.self.inside.initial;
      port = c.self.inside.port;
      program = c.self.inside.program;
      children = c.self.inside.children;
      headers = c.self.inside.headers;
      notices = c.self.inside.notices;
    }) in
    rw (← c.self.view_is) (ap (λ z. record d { pools = set pools place z }) c.set_class.ensures
    ∙ pool_changed d place x (λ p. record p { class = Some c.args.class }) is)
