-- Names at the places of their hashes.
use mathlib.Core.Bool.{or-false}
use Rattle.std.proofs.Common.{◌≡◌, ℕ, ◌+◌, ◌<◌, ◌≤◌, List, ◌++◌, ◌∷◌, [], length, get_or, take, drop, Bool, true, false, ◌||◌, ltb, arith, inl, inr, sym, ◌∙◌, ap, refl, subst}
use Rattle.std.proofs.lemmas.Bool.{and_parts, both_ways, cases_lt, lt-ltb, ltb-true}
use Rattle.std.proofs.lemmas.List.{get_or-drop, get_or-take, get_or_append_left, get_or_push, length-append, length-drop, length-take, take-append-drop}
use Rattle.std.proofs.lemmas.List.Folds.{drop_split, list_any-append, list_any_none}
use Rattle.std.proofs.lemmas.Slice.Eq.{bytes_eq-Decides}
use Rattle.std.specs.List.{list_any, slice_range}
use Rattle.std.specs.Str.{bytes_eq}
use Rattle.sq_urlmatch.proofs.SearchLaws.{unless}
use Rattle.sq_urlmatch.specs.Names.{hash_of, is_named, place_of, some_named, AreHashed, AreStarts, IsTable, Parts}
use Rattle.sq_urlmatch.specs.declared.names.Name.{Name}

-- where none before a range passes a test, nor any behind it, the range decides
range_decides : {X : Type 0} (p : X → Bool) (xs : List X) (first past : ℕ) → first ≤ past →
    ((k : ℕ) (d : X) → k < first → k < length xs → p (get_or xs k d) ≡ false) →
    ((k : ℕ) (d : X) → past ≤ k → k < length xs → p (get_or xs k d) ≡ false) →
    list_any p (slice_range xs first past) ≡ list_any p xs
range_decides {X} p xs first past le before behind =
    let front : list_any p (take first xs) ≡ false = list_any_none p (take first xs) (λ k d within.
    let long = length-take first xs in
    let inside : k < first = omega (arith, long) in
    ap p (get_or-take first xs k d inside) ∙ before k d inside (omega (arith, long))) in
    let end : list_any p (drop past xs) ≡ false = list_any_none p (drop past xs) (λ k d within.
    let long = length-drop past xs in
    ap p (get_or-drop past xs k d) ∙ behind (past + k) d (omega arith) (omega (arith, long))) in
    let range = list_any p (slice_range xs first past) in
    sym (or-false range) ∙ ap (λ t. range || t) (sym end)
    ∙ sym (list_any-append p (slice_range xs first past) (drop past xs))
    ∙ ap (λ t. list_any p t) (sym (drop_split xs first past le))
    ∙ ap (λ t. t || list_any p (drop first xs)) (sym front)
    ∙ sym (list_any-append p (take first xs) (drop first xs))
    ∙ ap (λ t. list_any p t) (take-append-drop first xs)

named_hash : (names : List Name) (bytes : List ℕ) (whole : Bool) (k : ℕ) (d : Name) → AreHashed names
    → k < length names → is_named bytes whole (get_or names k d) ≡ true → (get_or names k d).hash ≡ hash_of bytes
named_hash names bytes whole k d hashed within holds =
    let n = get_or names k d in
    let parts = and_parts (bytes_eq n.name bytes) (whole || n.wide) holds in
    hashed k d within ∙ ap hash_of ((bytes_eq-Decides n.name bytes).0 parts.0)

-- the names of a place decide whether some name is one of that place
pub place_decides : (names : List Name) (shift : ℕ) (starts : List ℕ) (bytes : List ℕ) (whole : Bool) (place : ℕ) →
    IsTable names shift starts → place ≡ place_of (hash_of bytes) shift → place + 1 < length starts →
    get_or starts place 0 ≤ get_or starts (place + 1) 0 →
    some_named (slice_range names (get_or starts place 0) (get_or starts (place + 1) 0)) bytes whole
    ≡ some_named names bytes whole
place_decides names shift starts bytes whole place table is within le =
    let own : Parts names shift place (get_or starts place 0) = table.starts place (omega arith) in
    let next : Parts names shift (place + 1) (get_or starts (place + 1) 0) = table.starts (place + 1) within in
    range_decides (λ n. is_named bytes whole n) names (get_or starts place 0) (get_or starts (place + 1) 0) le
    (λ k d before inside. unless (is_named bytes whole (get_or names k d)) (λ holds.
    let there : place_of (get_or names k d).hash shift ≡ place =
    ap (λ h. place_of h shift) (named_hash names bytes whole k d table.hashed inside holds) ∙ sym is in
    let less = ltb-true (place_of (get_or names k d).hash shift) place (own.0 k d (omega arith) before) in
    absurd (omega (arith, there, less))))
    (λ k d behind inside. unless (is_named bytes whole (get_or names k d)) (λ holds.
    let there : place_of (get_or names k d).hash shift ≡ place =
    ap (λ h. place_of h shift) (named_hash names bytes whole k d table.hashed inside holds) ∙ sym is in
    both_ways (ltb (place_of (get_or names k d).hash shift) (place + 1)) (next.1 k d behind inside)
    (lt-ltb (place_of (get_or names k d).hash shift) (place + 1) (omega (arith, there)))))

-- one start more
pub starts_push : (names : List Name) (shift : ℕ) (starts : List ℕ) (index : ℕ) → AreStarts names shift starts
    → Parts names shift (length starts) index → AreStarts names shift (starts ++ index ∷ [])
starts_push names shift starts index all parts = λ place within.
    let more = length-append starts (index ∷ []) in
    elim (cases_lt place (length starts)) [
      | inl before ↦ subst (λ i. Parts names shift place i)
          (sym (get_or_append_left starts (index ∷ []) 0 place before)) (all place before)
      | inr last ↦
          let end : length starts ≡ place = omega (arith, more) in
          subst (λ j. Parts names shift j (get_or (starts ++ index ∷ []) j 0)) end
          (subst (λ i. Parts names shift (length starts) i) (sym (get_or_push starts index 0 (length starts) refl))
          parts)
    ]
