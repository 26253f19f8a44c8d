use Rattle.std.proofs.Common.{◌≡◌, true, refl, ◌||◌, ◌++◌, ◌∷◌, [], ◌∙◌, sym, ap, subst, Some}
use Rattle.std.proofs.lemmas.List.Elements.{All-pop, All-push, All-same}
use Rattle.sq_urlmatch.specs.Names.{has_host, hash_of, is_at}
use Rattle.sq_urlmatch.specs.declared.names.Name.{Name}
use Rattle.sq_urlmatch.proofs.NameLaws.{has_with, has_without}
use Rattle.sq_urlmatch.proofs.domains.apart.Goals as goal

abbrev is_hashed : Name → Type 0
is_hashed n = n.hash ≡ hash_of n.name

pub loop-name-preserved-in-Continue-branch-2 : goal.loop-name-preserved-in-Continue-branch-2
loop-name-preserved-in-Continue-branch-2 c = record {
  same = λ host.
      ap (λ l. has_host l host || has_host c.pop.new.self.items host) c.in_ok-push.ensures.items
      ∙ has_with c.loop-name.kept.items c.pop.new.self.items c.in-Some.name host
      ∙ ap (λ l. has_host c.loop-name.kept.items host || has_host l host) (sym c.in-Some.ensures.items)
      ∙ c.loop-name.invariant.same host;
  kept = All-same is_hashed c.push.new.self.items (c.loop-name.kept.items ++ c.in-Some.name ∷ [])
      c.in_ok-push.ensures.items
      (All-push is_hashed c.loop-name.kept.items c.in-Some.name c.loop-name.invariant.kept
      (All-pop is_hashed c.loop-name.names.items c.pop.new.self.items (Some c.in-Some.name) c.in-Some.ensures.items
      c.loop-name.invariant.left).1);
  left = (All-pop is_hashed c.loop-name.names.items c.pop.new.self.items (Some c.in-Some.name)
      c.in-Some.ensures.items c.loop-name.invariant.left).0;
}

pub loop-name-preserved : goal.loop-name-preserved
loop-name-preserved c = record {
  same = λ host.
      has_without c.loop-name.kept.items c.pop.new.self.items c.in-Some.name host
      (subst (λ l. is_at c.in-Some.name host ≡ true → has_host l host ≡ true) c.as_slice.ensures.value
      (c.if-not-is_covered.ensures refl host))
      ∙ ap (λ l. has_host c.loop-name.kept.items host || has_host l host) (sym c.in-Some.ensures.items)
      ∙ c.loop-name.invariant.same host;
  kept = c.loop-name.invariant.kept;
  left = (All-pop is_hashed c.loop-name.names.items c.pop.new.self.items (Some c.in-Some.name)
      c.in-Some.ensures.items c.loop-name.invariant.left).0;
}
