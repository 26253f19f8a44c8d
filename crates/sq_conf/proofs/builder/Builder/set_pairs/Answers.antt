use Rattle.std.proofs.Common.{◌≡◌, ◌<◌, length, set, Some, true, slice_get, refl, sym, ap, subst, ◌∙◌}
use Rattle.std.proofs.lemmas.Option.{slice_get_read}
use Rattle.sq_conf.proofs.ListLaws.{all_at}
use Rattle.sq_conf.proofs.SoundLaws.{IsSound_pool, at_place, pairs_set, pool_changed}
use Rattle.sq_conf.specs.Sound.{is_pool_draft}
use Rattle.std.specs.Option.{option_map}
use Rattle.sq_rules.specs.Configurations.{pairs_of}
use Rattle.sq_rules.specs.Drafts.{Drafts, pool_at}
use Rattle.sq_conf.proofs.builder.Builder.set_pairs.Goals as goal

pub invariant_of-self : goal.invariant_of-self
invariant_of-self c =
    let acls = c.self.inside.acls in
    let pools = c.self.inside.pools.items in
    let place = c.args.place in
    let x = c.index_mut.result.now in
    let within : place < length pools =
    subst (λ (d : Drafts). place < length d.pools) (sym c.self.view_is) c.requires.within in
    let is : slice_get pools place ≡ Some x = slice_get_read pools _ place x refl within c.index_mut.ensures.value in
    let was : is_pool_draft acls x ≡ true = all_at (is_pool_draft acls) pools place x c.self.invariant.pools_are is in
    let has : option_map pairs_of x.class ≡ Some (length c.args.pairs) =
    ap (λ p. option_map pairs_of p.class) (sym (at_place pools place x is))
    ∙ subst (λ (d : Drafts). option_map pairs_of (pool_at d.pools place).class ≡ Some (length c.args.pairs))
    (sym c.self.view_is) c.requires.class in
    IsSound_pool _ place c.set_pairs.new.self c.self.invariant
    (rw c.set_pairs.ensures (pairs_set acls x c.args.pairs was has))

pub returns : goal.returns
returns c =
    let pools = c.self.inside.pools.items in
    let place = c.args.place in
    let x = c.index_mut.result.now in
    let within : place < length pools =
    subst (λ (d : Drafts). place < length d.pools) (sym c.self.view_is) c.requires.within in
    let is : slice_get pools place ≡ Some x = slice_get_read pools _ place x refl within c.index_mut.ensures.value in
    let d : Drafts = (record {
      dst_lookup = c.self.inside.dst_lookup;
      classes = c.self.inside.classes;
      acls = c.self.inside.acls;
      rules = c.self.inside.rules;
      counted = c.self.inside.counted;
      pools = c.self.inside.pools.items;
      initial = c.self.inside.initial;
      port = c.self.inside.port;
      program = c.self.inside.program;
      children = c.self.inside.children;
      headers = c.self.inside.headers;
      notices = c.self.inside.notices;
    }) in
    rw (← c.self.view_is) (ap (λ z. record d { pools = set pools place z }) c.set_pairs.ensures
    ∙ pool_changed d place x (λ p. record p { pairs = Some c.args.pairs }) is)
