-- From the acl at a place to its fact.
use Rattle.std.proofs.Common.{◌≡◌, ℕ, ◌+◌, Bool, true, false, List, [], ◌∷◌, ◌++◌, if◌then◌else◌, take, IfOk, Result, Ok, Err, option_map, Some, None, refl, sym, ap, ◌∙◌, take-suc, add-one}
use Rattle.std.proofs.lemmas.Map.Keys.{any_passes_from_place}
use Rattle.std.proofs.lemmas.Option.{get_or_from_slice_get, slice_get-map, slice_get_within}
use Rattle.std.specs.List.{list_any, slice_get}
use Rattle.std.specs.Str.{str_to_ascii_lowercase}
use Rattle.percent_encoding.specs.Percent.{percent_decode}
use Rattle.sq_base.specs.Domains.{in_domain}
use Rattle.sq_urlmatch.specs.Members as index
use Rattle.sq_rules.specs.Facts.{acl_fact, body_fact, facts_of}
use Rattle.sq_rules.specs.Patterns.{some_found}
use Rattle.sq_rules.specs.declared.configs.Acl.{Acl}
use Rattle.sq_rules.specs.declared.configs.Body.{Body}
use Rattle.sq_rules.specs.declared.configs.Body.TheVariants as body
use Rattle.sq_rules.specs.declared.leaves.Leaf.TheVariants as leaf
use Rattle.sq_rules.specs.declared.sights.Sight.{Sight}
use Rattle.sq_urlmatch.specs.Found.{finds_at, finds_in, finds_of}
use Rattle.sq_urlmatch.specs.Patterns.{body_has_patterns, acl_has_patterns}

-- a test that asks patterns was left open because of them
pub asks_patterns : (has : Bool) (fact : Bool) → None ≡ (if has then None else Some fact) → has ≡ true
asks_patterns true fact e = refl
asks_patterns false fact e = cc

body_pattern : (b : Body) (s : Sight) (subject : List ℕ) → body_has_patterns b ≡ true
    → subject ≡ percent_decode s.request.target →
    body_fact s b ≡ some_found (finds_in b) subject
body_pattern (body.Leaf (leaf.UrlRegex finds)) s subject has e = ap (some_found finds) (sym e)
body_pattern (body.Leaf (leaf.Src values)) s subject has e = cc
body_pattern (body.Leaf (leaf.Dst values)) s subject has e = cc
body_pattern (body.Leaf (leaf.DstDomain values)) s subject has e = cc
body_pattern (body.Leaf (leaf.Port values)) s subject has e = cc
body_pattern (body.Leaf (leaf.Method values)) s subject has e = cc
body_pattern (body.Leaf (leaf.Proto values)) s subject has e = cc
body_pattern (body.Leaf (leaf.Time values)) s subject has e = cc
body_pattern (body.Leaf (leaf.MaxConn values)) s subject has e = cc
body_pattern (body.External class arguments) s subject has e = cc
body_pattern (body.AnyOf terms) s subject has e = cc
body_pattern (body.AllOf lines) s subject has e = cc

-- where the acl at a place has patterns, they are its fact
pub pattern_fact : (acls : List Acl) (k : ℕ) (a : Acl) (s : Sight) (subject : List ℕ) → slice_get acls k ≡ Some a
    → acl_has_patterns a ≡ true →
    (list_any acl_has_patterns acls ≡ true → subject ≡ percent_decode s.request.target) →
    slice_get (facts_of acls s) k ≡ Some (some_found (finds_at acls k) subject)
pattern_fact acls k a s subject here has decoded =
    let e = decoded (any_passes_from_place acl_has_patterns acls k a here has) in
    slice_get-map (acl_fact s) acls k ∙ ap (λ o. option_map (acl_fact s) o) here
    ∙ ap Some (body_pattern a.body s subject has e ∙ ap (λ o. some_found (finds_of o) subject) (sym here))

-- one fact more
pub take_more : (facts : List Bool) (k : ℕ) (b : Bool) → slice_get facts k ≡ Some b
    → take (k + 1) facts ≡ take k facts ++ b ∷ []
take_more facts k b here =
    rw (add-one k) (take-suc facts k false (slice_get_within facts k b here)
    ∙ ap (λ x. take k facts ++ x ∷ []) (get_or_from_slice_get facts k b false here))

-- what holds of an answer, by what it is
pub ok_then : {A E : Type 0} {P Q : A → Type 0} (r : Result A E) → IfOk r P → ((a : A) → P a → Q a) → IfOk r Q
ok_then (Ok a) p f = f a p
ok_then (Err e) p f = tt

-- a sorted list of domains holds what the list holds
pub same_domains : (names : List (List ℕ)) (host : List ℕ)
    → index.in_some_domain names host ≡ list_any (λ n. in_domain host (str_to_ascii_lowercase n)) names
same_domains [] host = refl
same_domains (n ∷ names) host = rw (same_domains names host) refl
