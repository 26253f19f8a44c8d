-- What names stand for.
use mathlib.Core.Bool.{or-false}
use Rattle.std.proofs.Common.{◌≡◌, ℕ, suc, ◌-◌, ◌+◌, ◌<◌, ◌≤◌, List, zero, ◌++◌, ◌∷◌, [], length, get_or, take, drop, Bool, true, false, ◌&&◌, ◌||◌, not, ◌==◌, nat_eq, arith, inl, inr, sym, ◌∙◌, ap, refl, subst}
use Rattle.std.proofs.Math.Seq.{take-length}
use Rattle.std.proofs.lemmas.Bool.{and_from, and_parts, eqb-true, eq-eqb, or_cases, or_left, or_right}
use Rattle.std.proofs.lemmas.Bool.Decides.{Decides-eqb, same_from_decides}
use Rattle.std.proofs.lemmas.List.{drop_more, length-drop}
use Rattle.std.proofs.lemmas.List.Folds.{list_any-append}
use Rattle.std.proofs.lemmas.Slice.Eq.{bytes_eq-Decides, ends_is}
use Rattle.std.specs.Bool.{Decides}
use Rattle.std.specs.List.{ends_with, slice_range}
use Rattle.std.specs.Str.{bytes_eq}
use Rattle.sq_base.specs.Bytes.{dot}
use Rattle.sq_urlmatch.specs.Names.{has_host, is_at, is_below, some_above, some_named}
use Rattle.sq_urlmatch.specs.declared.names.Name.{Name}

-- what it is to be below a name
below_Decides : (name host : List ℕ) → Decides (is_below name host)
    ((front : List ℕ) × (host ≡ front ++ dot ∷ name))
below_Decides name [] = (λ h. absurd (cc), λ h. none h.0 h.1)
  where
    none : (front : List ℕ) → [] ≡ front ++ dot ∷ name → is_below name [] ≡ true
    none [] e = absurd (cc)
    none (f ∷ fs) e = absurd (cc)
below_Decides name (b ∷ bs) = (
  (λ h. elim (or_cases (is_below name bs) ((b == dot) && bytes_eq name bs) h) [
    | inl more ↦ let rest = (below_Decides name bs).0 more in (b ∷ rest.0, ap (λ t. b ∷ t) rest.1)
    | inr here ↦
        let parts = and_parts (b == dot) (bytes_eq name bs) here in
        let first = eqb-true b dot parts.0 in
        let same = (bytes_eq-Decides name bs).0 parts.1 in
        ([], cc)
  ]),
  (λ h. back (below_Decides name bs).1 h.0 h.1),
)
  where
    back : (((front : List ℕ) × (bs ≡ front ++ dot ∷ name)) → is_below name bs ≡ true) → (front : List ℕ)
        → b ∷ bs ≡ front ++ dot ∷ name → is_below name (b ∷ bs) ≡ true
    back more [] e =
        let first : b ≡ dot = cc in
        let same : name ≡ bs = cc in
        or_right (is_below name bs) ((b == dot) && bytes_eq name bs)
        (and_from (b == dot) (bytes_eq name bs) (eq-eqb b dot first) ((bytes_eq-Decides name bs).1 same))
    back more (f ∷ fs) e =
        let rest : bs ≡ fs ++ dot ∷ name = cc in
        or_left (is_below name bs) ((b == dot) && bytes_eq name bs) (more (fs, rest))

pub below_ends : (name host : List ℕ) → is_below name host ≡ ends_with nat_eq host (dot ∷ name)
below_ends name host =
    let end = ends_is Decides-eqb host (dot ∷ name) (ends_with nat_eq host (dot ∷ name)) refl in
    same_from_decides (is_below name host) (ends_with nat_eq host (dot ∷ name)) (below_Decides name host)
    ((λ h. (take (length host - length (dot ∷ name)) host, end.0 h)), (λ h. end.1 h.0 h.1))

-- a name that is wide stands for its host and for all hosts below
pub wide_at : (n : Name) (host : List ℕ) → n.wide ≡ true
    → is_at n host ≡ (bytes_eq n.name host || ends_with nat_eq host (dot ∷ n.name))
wide_at n host wide = rw wide (ap (λ t. bytes_eq n.name host || t) (below_ends n.name host))

-- one name more, by its parts
with_below : (w b s d e r : Bool) →
    (((w && b) || s) || (d && ((e && w) || r))) ≡ ((w && (b || (d && e))) || (s || (d && r)))
with_below false b s d true r = refl
with_below false b s d false r = refl
with_below true true s d e r = refl
with_below true false true d e r = with_true d e
  where
    with_true : (d e : Bool) → true ≡ ((d && e) || true)
    with_true true true = refl
    with_true true false = refl
    with_true false e = refl
with_below true false false true true r = refl
with_below true false false true false r = refl
with_below true false false false e r = refl

more_above : (n : Name) (ns : List Name) (host : List ℕ)
    → some_above (n ∷ ns) host ≡ ((n.wide && is_below n.name host) || some_above ns host)
more_above n ns [] = none n.wide
  where
    none : (w : Bool) → false ≡ ((w && false) || false)
    none true = refl
    none false = refl
more_above n ns (b ∷ bs) =
    ap (λ t. t || ((b == dot) && ((bytes_eq n.name bs && n.wide) || some_named ns bs false))) (more_above n ns bs)
    ∙ with_below n.wide (is_below n.name bs) (some_above ns bs) (b == dot) (bytes_eq n.name bs) (some_named ns bs false)

none_above : (host : List ℕ) → some_above [] host ≡ false
none_above [] = refl
none_above (b ∷ bs) = ap (λ t. t || ((b == dot) && false)) (none_above bs) ∙ none (b == dot)
  where
    none : (d : Bool) → (d && false) ≡ false
    none true = refl
    none false = refl

with_whole : (e w s a : Bool) → ((e && true) || s) || (w || a) ≡ ((e || w) || (s || a))
with_whole true w s a = refl
with_whole false true true a = refl
with_whole false true false a = refl
with_whole false false true a = refl
with_whole false false false a = refl

-- some name stands for a host where one is the host or a wide one is above it
pub host_parts : (names : List Name) (host : List ℕ)
    → (some_named names host true || some_above names host) ≡ has_host names host
host_parts [] host = none_above host
host_parts (n ∷ ns) host =
    ap (λ t. ((bytes_eq n.name host && true) || some_named ns host true) || t) (more_above n ns host)
    ∙ with_whole (bytes_eq n.name host) (n.wide && is_below n.name host) (some_named ns host true) (some_above ns host)
    ∙ ap (λ t. (bytes_eq n.name host || (n.wide && is_below n.name host)) || t) (host_parts ns host)

-- what an end of the host has above it, the host has
above_drop : (names : List Name) (host : List ℕ) (i : ℕ) → some_above names (drop i host) ≡ true
    → some_above names host ≡ true
above_drop names host zero h = h
above_drop names [] (suc i) h = h
above_drop names (b ∷ bs) (suc i) h = or_left (some_above names bs) ((b == dot) && some_named names bs false)
    (above_drop names bs i h)

-- a wide name behind a dot stands for the host
pub above_found : (names : List Name) (host : List ℕ) (at : ℕ) → at < length host → get_or host at 0 ≡ dot
    → some_named names (slice_range host (at + 1) (length host)) false ≡ true → has_host names host ≡ true
above_found names host at within first behind =
    let rest = drop (at + 1) host in
    let b = get_or host at 0 in
    let whole : slice_range host (at + 1) (length host) ≡ rest = ap (λ n. take n rest)
    (sym (length-drop (at + 1) host)) ∙ take-length rest in
    let found = subst (λ t. some_named names t false ≡ true) whole behind in
    let here : some_above names (b ∷ rest) ≡ true = or_right (some_above names rest)
    ((b == dot) && some_named names rest false)
    (and_from (b == dot) (some_named names rest false) (eq-eqb b dot first) found) in
    let above = above_drop names host at (ap (λ t. some_above names t) (drop_more host at 0 within) ∙ here) in
    sym (host_parts names host) ∙ or_right (some_named names host true) (some_above names host) above

-- where no wide name is above the host, one that is the host decides
pub whole_decides : (names : List Name) (host : List ℕ) (k : ℕ) → length host ≤ k
    → some_above names (drop (length host - k) host) ≡ false
    → some_named names host true ≡ has_host names host
whole_decides names host k past none =
    let start : length host - k ≡ 0 = omega arith in
    let fails : some_above names host ≡ false = subst (λ i. some_above names (drop i host) ≡ false) start none in
    sym (or-false (some_named names host true)) ∙ ap (λ t. some_named names host true || t) (sym fails)
    ∙ host_parts names host

-- a name that covers another stands for all that this one stands for
pub covered_at : (n m : Name) (host : List ℕ) → (bytes_eq n.name m.name && (n.wide || not m.wide)) ≡ true
    → is_at m host ≡ true → is_at n host ≡ true
covered_at n m host covers at =
    let parts = and_parts (bytes_eq n.name m.name) (n.wide || not m.wide) covers in
    let same : n.name ≡ m.name = (bytes_eq-Decides n.name m.name).0 parts.0 in
    subst (λ t. (bytes_eq t host || (n.wide && is_below t host)) ≡ true) (sym same)
    (wider n.wide m.wide (bytes_eq m.name host) (is_below m.name host) parts.1 at)
  where
    wider : (w v e b : Bool) → (w || not v) ≡ true → (e || (v && b)) ≡ true → (e || (w && b)) ≡ true
    wider w v true b more is = refl
    wider true true false b more is = is
    wider true false false b more is = cc
    wider false true false b more is = cc
    wider false false false b more is = is

-- what is kept and what is left have the hosts that they had before the last was taken
last_out : (rest : List Name) (n : Name) (host : List ℕ)
    → has_host (rest ++ n ∷ []) host ≡ (has_host rest host || (is_at n host || false))
last_out rest n host = list_any-append (λ m. is_at m host) rest (n ∷ [])

pub has_without : (kept rest : List Name) (n : Name) (host : List ℕ)
    → (is_at n host ≡ true → has_host kept host ≡ true)
    → (has_host kept host || has_host rest host) ≡ (has_host kept host || has_host (rest ++ n ∷ []) host)
has_without kept rest n host covers =
    covered_is (has_host kept host) (has_host rest host) (is_at n host) covers
    ∙ ap (λ t. has_host kept host || t) (sym (last_out rest n host))
  where
    covered_is : (h r b : Bool) → (b ≡ true → h ≡ true) → (h || r) ≡ (h || (r || (b || false)))
    covered_is true r b covers = refl
    covered_is false true b covers = refl
    covered_is false false true covers = covers refl
    covered_is false false false covers = refl

pub has_with : (kept rest : List Name) (n : Name) (host : List ℕ)
    → (has_host (kept ++ n ∷ []) host || has_host rest host)
    ≡ (has_host kept host || has_host (rest ++ n ∷ []) host)
has_with kept rest n host =
    ap (λ t. t || has_host rest host) (last_out kept n host)
    ∙ moved (has_host kept host) (has_host rest host) (is_at n host)
    ∙ ap (λ t. has_host kept host || t) (sym (last_out rest n host))
  where
    moved : (h r b : Bool) → ((h || (b || false)) || r) ≡ (h || (r || (b || false)))
    moved true r b = refl
    moved false true true = refl
    moved false true false = refl
    moved false false true = refl
    moved false false false = refl
