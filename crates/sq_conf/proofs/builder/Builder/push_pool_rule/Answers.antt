use Rattle.std.proofs.Common.{◌≡◌, ◌<◌, ◌++◌, ◌∷◌, [], length, Some, true, slice_get, refl, sym, subst}
use Rattle.std.proofs.lemmas.Option.{slice_get_read}
use Rattle.sq_conf.proofs.ListLaws.{all_at, by_either}
use Rattle.sq_conf.proofs.SoundLaws.{IsSound_pool, list_push, pool_changed_by}
use Rattle.sq_conf.specs.Sound.{is_pool_draft}
use Rattle.sq_rules.specs.Configurations.{is_known_rule, slow_ones}
use Rattle.sq_rules.specs.Drafts.{Drafts, is_fast}
use Rattle.sq_conf.proofs.builder.Builder.push_pool_rule.Goals as goal

pub invariant_of-self : goal.invariant_of-self
invariant_of-self c =
    let acls = c.self.inside.acls in
    let pools = c.self.inside.pools.items in
    let place = c.args.place in
    let x = c.index_mut.result.now in
    let within : place < length pools =
    subst (λ (d : Drafts). place < length d.pools) (sym c.self.view_is) c.requires.within in
    let is : slice_get pools place ≡ Some x = slice_get_read pools _ place x refl within c.index_mut.ensures.value in
    let was : is_pool_draft acls x ≡ true = all_at (is_pool_draft acls) pools place x c.self.invariant.pools_are is in
    let known : is_known_rule (length acls) c.args.rule ≡ true =
    subst (λ (d : Drafts). is_known_rule (length d.acls) c.args.rule ≡ true) (sym c.self.view_is) c.requires.known in
    let fast : is_fast (slow_ones acls) c.args.rule ≡ true =
    subst (λ (d : Drafts). is_fast (slow_ones d.acls) c.args.rule ≡ true) (sym c.self.view_is) c.requires.fast in
    IsSound_pool _ place c.push_rule.new.self c.self.invariant
    (by_either (λ y. is_pool_draft acls y ≡ true) c.push_rule.result x _ c.push_rule.new.self was c.push_rule.ensures.ok
    c.push_rule.ensures.err (list_push acls x c.args.rule was known fast))

pub returns-clause-ok : goal.returns-clause-ok
returns-clause-ok c =
    let pools = c.self.inside.pools.items in
    let place = c.args.place in
    let x = c.index_mut.result.now in
    let within : place < length pools =
    subst (λ (d : Drafts). place < length d.pools) (sym c.self.view_is) c.requires.within in
    let is : slice_get pools place ≡ Some x = slice_get_read pools _ place x refl within c.index_mut.ensures.value in
    let d : Drafts = (record {
      dst_lookup = c.self.inside.dst_lookup;
      classes = c.self.inside.classes;
      acls = c.self.inside.acls;
      rules = c.self.inside.rules;
      counted = c.self.inside.counted;
      pools = c.self.inside.pools.items;
      initial = c.self.inside.initial;
      port = c.self.inside.port;
      program = c.self.inside.program;
      children = c.self.inside.children;
      headers = c.self.inside.headers;
      notices = c.self.inside.notices;
    }) in
    rw (← c.self.view_is) (pool_changed_by c.push_rule.result d place x c.push_rule.new.self
    (λ p. record p { lists = p.lists ++ c.args.rule ∷ [] }) is c.push_rule.ensures.ok)
