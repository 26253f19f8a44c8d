-- What a put of the table leaves is what the definition keeps.
use Rattle.std.proofs.Common.{◌≡◌, ℕ, suc, zero, ◌+◌, ◌-◌, ◌<◌, ◌≤◌, true, false, List, [], ◌∷◌, take, length, nat_eq, nat_lt, Option, None, Some, refl, ap, sym, ◌∙◌, arith}
use Rattle.std.proofs.lemmas.List.{take_all}
use Rattle.std.specs.Map.{lookup_entry}
use Rattle.std.specs.Option.{option_map_or}
use Rattle.std.specs.Cmp.Lexicographic.{pointwise, same_text}
use Rattle.lru.specs.LruCache.{LruCache, put_entries, IsValid}
use Rattle.sq_rules.specs.Classes.{Class}
use Rattle.sq_machine.specs.Freshness.{ttl_of}
use Rattle.sq_machine.specs.KeptLists.{CachedReplies, same_key, kept_without, keep}
use Rattle.sq_machine.specs.declared.kept.CachedReply.{CachedReply}

-- what a look-up finds has the key, and one fewer is left without it
found : (key : List ℕ) (kept : CachedReplies) (e : List ℕ × CachedReply) → lookup_entry (same_key key) kept ≡ Some e →
    (e.0 ≡ key) × (length (kept_without key kept) + 1 ≡ length kept)
found key [] e h = cc
found key (p ∷ ps) e h = (elim (pointwise nat_eq key p.0) as
    (λ y. pointwise nat_eq key p.0 ≡ y → (e.0 ≡ key) × (length (kept_without key (p ∷ ps)) + 1 ≡ length (p ∷ ps))) [
      | true ↦ λ t. let h' = rw t at h in let same : p ≡ e = cc in
          (sym (ap (λ (q : List ℕ × CachedReply). q.0) same) ∙ sym (same_text key p.0 (sym t)), rw t (omega arith))
      | false ↦ λ t. let on = found key ps e (rw t at h) in (on.0, rw t (omega (arith, on.1)))
    ]) refl

-- where it finds none, nothing is left out
missing : (key : List ℕ) (kept : CachedReplies) → lookup_entry (same_key key) kept ≡ None → kept_without key kept ≡ kept
missing key [] h = refl
missing key (p ∷ ps) h = (elim (pointwise nat_eq key p.0) as
    (λ y. pointwise nat_eq key p.0 ≡ y → kept_without key (p ∷ ps) ≡ p ∷ ps) [
      | true ↦ λ t. let h' = rw t at h in cc
      | false ↦ λ t. rw t (ap (λ l. p ∷ l) (missing key ps (rw t at h)))
    ]) refl

take_front : {A : Type 0} (n : ℕ) (x : A) (xs : List A) → 0 < n → take n (x ∷ xs) ≡ x ∷ take (n - 1) xs
take_front zero x xs h = absurd (omega (arith, h))
take_front (suc n) x xs h =
    let e : n ≡ suc n - 1 = omega arith in
    ap (λ k. x ∷ take k xs) e

-- the list after a put is cut after its new front
by_case : (key : List ℕ) (v : CachedReply) (most : ℕ) (kept : CachedReplies) (o : Option (List ℕ × CachedReply))
    → lookup_entry (same_key key) kept ≡ o →
    length kept ≤ most → 0 < most →
    option_map_or (λ (e : List ℕ × CachedReply). (e.0, v) ∷ kept_without key kept) o ((key, v) ∷ take (most - 1) kept)
    ≡ take most ((key, v) ∷ kept_without key kept)
by_case key v most kept None h le pos =
    rw (missing key kept h) (sym (take_front most (key, v) kept pos))
by_case key v most kept (Some e) h le pos =
    let f = found key kept e h in
    ap (λ k. (k, v) ∷ kept_without key kept) f.0
    ∙ sym (take_all most ((key, v) ∷ kept_without key kept) (omega (arith, f.1, le)))

positive : (n : ℕ) → 0 < n → nat_lt 0 n ≡ true
positive n h = grind (arith, h)

-- for the put of a verdict: where its time is above 0, the table's put keeps it as the definition does
pub put_keeps : (c : LruCache (List ℕ) CachedReply) (class : Class) (key : List ℕ) (v : CachedReply)
    → IsValid (pointwise nat_eq) c
    → 0 < ttl_of class v.what → put_entries (pointwise nat_eq) c key v ≡ keep c.cap class key v c.entries
put_keeps c class key v valid some =
    rw (positive (ttl_of class v.what) some, positive c.cap valid.2)
    (by_case key v c.cap c.entries (lookup_entry (same_key key) c.entries) refl valid.1 valid.2)
