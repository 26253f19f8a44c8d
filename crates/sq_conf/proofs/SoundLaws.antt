-- What holds of the drafts, after each of their changes.
use Rattle.std.proofs.Common.{◌≡◌, ℕ, ◌+◌, ◌==◌, false, ◌≤◌, ◌<◌, suc, zero, List, [], ◌∷◌, ◌++◌, length, replicate, set, take, Bool, true, ◌&&◌, not, refl, sym, ap, subst, ◌∙◌, arith, Option, Some, None, slice_get, nat_lt, Result, Ok, Err, OnOk, OnErr, is_some, if◌then◌else◌, map}
use Rattle.std.proofs.lemmas.Bool.{and_from}
use Rattle.std.proofs.lemmas.Bool.Decides.{nat_tests}
use Rattle.std.proofs.lemmas.List.{length-append, length-replicate, length-set, length_push}
use Rattle.std.proofs.lemmas.List.Folds.{list_all-map}
use Rattle.std.proofs.lemmas.Option.{get_or_from_slice_get}
use Rattle.std.specs.List.{list_all}
use Rattle.std.specs.Option.{option_map, unwrap_or}
use Rattle.sq_base.specs.declared.addresses.Range.{Range}
use Rattle.sq_conf.proofs.KnownLaws.{fast_longer, known_set, known_wider, leaf_known, leaf_patterns, line_known, line_patterns, member_known, member_patterns, rule_wider}
use Rattle.sq_conf.proofs.ListLaws.{all_at, all_from, all_from_both, all_set, by_either, first_true, found, second_true}
use Rattle.sq_conf.specs.Sound.{IsSound, has_room_for, has_words, is_children, is_pool_draft, stay_fast}
use Rattle.sq_rules.proofs.AclLaws.{known_longer}
use Rattle.sq_rules.proofs.ListLaws.{all_push}
use Rattle.sq_rules.proofs.LookupLaws.{line_all, line_asking, line_dst, literal_blank, looked_class, looked_group, looked_leaf, looked_more, looked_push, lookup_blank, member_all, member_asking, member_dst, named_blank, stated_alike, unmade_push, unmade_set}
use Rattle.sq_rules.proofs.MemberLaws.{leaf_slow, line_slow}
use Rattle.sq_rules.proofs.PredefinedTexts.{cache_objects, managers}
use Rattle.sq_rules.proofs.TableLaws.{changed_at, slow_length, slow_same}
use Rattle.sq_rules.specs.Changes.{AreSlowOnes, all_patterns, has_patterns, with_member_at}
use Rattle.sq_rules.specs.Classes.{Class}
use Rattle.sq_rules.specs.Configurations.{are_known_bodies, has_buckets, is_fast_rule, is_header, is_known_body, is_known_rule, is_lower, is_pool, is_pool_class, is_rewriter, is_rewriter_class, is_slow, pairs_of, slow_ones, some_slow}
use Rattle.sq_rules.specs.Drafts.{Drafts, PoolDraft, are_complete, are_fast, are_fast_where, are_patterns, change_body, is_complete, is_fast, no_pool, pool_at, pool_of_draft, predefined_ones, rewriter_of, with_leaf, with_line, with_member, with_pool}
use Rattle.sq_rules.specs.Limits.{acl_limit, header_limit, pool_limit}
use Rattle.sq_rules.specs.Lookups.{are_looked_up, asking_acl, begins_lookup, classes_within, either_acl, has_blank, is_dst, looked_up, named_acl, stated_acls, takes_members, unmade_acls, values_acl}
use Rattle.sq_rules.specs.Rates.{Limit}
use Rattle.sq_rules.specs.declared.configs.Acl.{Acl}
use Rattle.sq_rules.specs.declared.configs.Body.{Body}
use Rattle.sq_rules.specs.declared.configs.Rule.{Rule}
use Rattle.sq_rules.specs.declared.configs.Term.{Term}
use Rattle.sq_rules.specs.declared.headers.HeaderRule.{HeaderRule}
use Rattle.sq_rules.specs.declared.leaves.Leaf.{Leaf}

-- changes that may fail, of the acls and of the classes
pub IsSound_by : {V E : Type 0} (r : Result V E) (d : Drafts) (acls changed : List Acl) → IsSound d
    → OnOk r (acls ≡ changed) → OnErr r (acls ≡ d.acls) → IsSound (record d { acls = changed })
    → IsSound (record d { acls = acls })
IsSound_by r d acls changed sound ok err after = by_either (λ l. IsSound (record d { acls = l })) r d.acls changed acls
    sound ok err after

pub IsSound_class_by : {V E : Type 0} (r : Result V E) (d : Drafts) (classes changed : List Class) → IsSound d
    → OnOk r (classes ≡ changed) → OnErr r (classes ≡ d.classes) → IsSound (record d { classes = changed }) →
    IsSound (record d { classes = classes })
IsSound_class_by r d classes changed sound ok err after = by_either (λ l. IsSound (record d { classes = l })) r
    d.classes changed classes sound ok err after

abbrev pool_over : ℕ → List Bool → PoolDraft → Bool
pool_over count slow p = has_room_for p.class p.pairs
    && list_all (λ r. is_known_rule count r && not (some_slow slow r.terms)) p.lists

abbrev header_over : ℕ → List Bool → HeaderRule → Bool
header_over count slow h = is_known_rule count h.rule && not (some_slow slow h.rule.terms)

-- acls of which as many stand, with the same names, and the same are slow
pub IsSound_alike : (d : Drafts) (acls : List Acl) → IsSound d → length acls ≡ length d.acls
    → unmade_acls acls ≡ unmade_acls d.acls → slow_ones acls ≡ slow_ones d.acls
    → are_known_bodies (length d.classes) 0 acls ≡ true →
    all_patterns acls ≡ true → are_looked_up d.dst_lookup d.classes acls ≡ true → IsSound (record d { acls = acls })
IsSound_alike d acls sound long unmade slow known patterns looked =
    let named : stated_acls d.dst_lookup acls ≡ stated_acls d.dst_lookup d.acls =
    stated_alike d.dst_lookup (λ (a : Acl). a.name) (λ (a : Acl). a.name) acls d.acls unmade long in record {
      members = known;
      patterns = patterns;
      places = rw long sound.places;
      pools_are = ap (λ n. list_all (pool_over n (slow_ones acls)) d.pools) long
          ∙ ap (λ s. list_all (pool_over (length d.acls) s) d.pools) slow ∙ sound.pools_are;
      headers_are = ap (λ n. list_all (header_over n (slow_ones acls)) d.headers) long
          ∙ ap (λ s. list_all (header_over (length d.acls) s) d.headers) slow ∙ sound.headers_are;
      lookups_are = looked;
      few_classes = sound.few_classes;
      few_acls = omega (arith, sound.few_acls, named);
      all_acls = omega (arith, sound.all_acls, long, named);
      few_rules = sound.few_rules;
      few_pools = sound.few_pools;
      few_headers = sound.few_headers;
      lower_headers = sound.lower_headers;
      program_is = sound.program_is;
      children_are = sound.children_are;
      initial_is = sound.initial_is;
    }

-- one acl put in
pub members_set : (d : Drafts) (p : ℕ) (x y : Acl) → IsSound d → slice_get d.acls p ≡ Some x
    → (is_known_body (length d.classes) p x.body ≡ true → is_known_body (length d.classes) p y.body ≡ true) →
    are_known_bodies (length d.classes) 0 (set d.acls p y) ≡ true
members_set d p x y sound is step = known_set (length d.classes) 0 p d.acls p x y sound.members is (omega arith) step

pub patterns_set : (d : Drafts) (p : ℕ) (x y : Acl) → IsSound d → slice_get d.acls p ≡ Some x
    → (has_patterns x.body ≡ true → has_patterns y.body ≡ true) → all_patterns (set d.acls p y) ≡ true
patterns_set d p x y sound is step = all_set (λ a. has_patterns a.body) d.acls p y sound.patterns
    (step (all_at (λ a. has_patterns a.body) d.acls p x sound.patterns is))

-- an acl whose body changes, and isn't slow otherwise
pub IsSound_body : (d : Drafts) (p : ℕ) (x : Acl) (f : Body → Body) → IsSound d → slice_get d.acls p ≡ Some x
    → is_slow (take p (slow_ones d.acls)) (f x.body) ≡ is_slow (take p (slow_ones d.acls)) x.body →
    (is_known_body (length d.classes) p x.body ≡ true → is_known_body (length d.classes) p (f x.body) ≡ true)
    → (has_patterns x.body ≡ true → has_patterns (f x.body) ≡ true) →
    are_looked_up d.dst_lookup d.classes (set d.acls p (record x { body = f x.body })) ≡ true
    → IsSound (record d { acls = change_body p f d.acls })
IsSound_body d p x f sound is slow known patterns looked =
    let y : Acl = record x { body = f x.body } in
    subst (λ l. IsSound (record d { acls = l })) (sym (changed_at d.acls p x f is))
    (IsSound_alike d (set d.acls p y) sound (length-set d.acls p y)
    (unmade_set (λ (a : Acl). a.name) d.acls p x y is refl) (slow_same d.acls p x y is slow)
    (members_set d p x y sound is known) (patterns_set d p x y sound is patterns) looked)

pub IsSound_leaf : (d : Drafts) (p : ℕ) (more : Leaf) → IsSound d → p < length d.acls → are_patterns more ≡ true
    → IsSound (record d { acls = change_body p (with_leaf more) d.acls })
IsSound_leaf d p more sound within good =
    let at = found d.acls p within in
    IsSound_body d p at.0 (with_leaf more) sound at.1 (leaf_slow (take p (slow_ones d.acls)) more at.0.body)
    (leaf_known (length d.classes) p more at.0.body) (leaf_patterns more at.0.body good)
    (looked_leaf d.dst_lookup d.classes d.acls p at.0 more at.1 sound.lookups_are)

pub IsSound_line : (d : Drafts) (p : ℕ) → IsSound d → p < length d.acls → takes_members d.dst_lookup d.acls p ≡ true
    → IsSound (record d { acls = change_body p with_line d.acls })
IsSound_line d p sound within takes =
    let at = found d.acls p within in
    IsSound_body d p at.0 with_line sound at.1 (line_slow (take p (slow_ones d.acls)) at.0.body)
    (line_known (length d.classes) p at.0.body) (line_patterns at.0.body)
    (looked_group with_line d.dst_lookup d.classes d.acls p at.0 at.1 line_dst line_asking line_all takes
    sound.lookups_are)

pool_longer : (acls : List Acl) (a : Acl) (p : PoolDraft) → is_pool_draft acls p ≡ true
    → is_pool_draft (acls ++ a ∷ []) p ≡ true
pool_longer acls a p good =
    and_from (has_room_for p.class p.pairs) (list_all (is_fast_rule (acls ++ a ∷ [])) p.lists)
    (first_true (has_room_for p.class p.pairs) (list_all (is_fast_rule acls) p.lists) good)
    (all_from (is_fast_rule acls) (is_fast_rule (acls ++ a ∷ [])) p.lists (λ r. fast_longer acls a r (slow_length acls))
    (second_true (has_room_for p.class p.pairs) (list_all (is_fast_rule acls) p.lists) good))

header_longer : (acls : List Acl) (a : Acl) (h : HeaderRule) → is_header acls h ≡ true
    → is_header (acls ++ a ∷ []) h ≡ true
header_longer acls a h good = fast_longer acls a h.rule (slow_length acls) good

-- what stays of rules, pools and rules for fields where one acl more stands
rules_longer : (acls : List Acl) (a : Acl) (rules : List Rule) → list_all (is_known_rule (length acls)) rules ≡ true
    → list_all (is_known_rule (length (acls ++ a ∷ []))) rules ≡ true
rules_longer acls a rules good =
    all_from (is_known_rule (length acls)) (is_known_rule (length (acls ++ a ∷ []))) rules
    (λ r. rule_wider (length acls) (length (acls ++ a ∷ [])) r (omega (arith, length_push acls a))) good

pools_longer : (acls : List Acl) (a : Acl) (pools : List PoolDraft) → list_all (is_pool_draft acls) pools ≡ true
    → list_all (is_pool_draft (acls ++ a ∷ [])) pools ≡ true
pools_longer acls a pools good = all_from (is_pool_draft acls) (is_pool_draft (acls ++ a ∷ [])) pools
    (pool_longer acls a) good

headers_longer : (acls : List Acl) (a : Acl) (headers : List HeaderRule) → list_all (is_header acls) headers ≡ true
    → list_all (is_header (acls ++ a ∷ [])) headers ≡ true
headers_longer acls a headers good = all_from (is_header acls) (is_header (acls ++ a ∷ [])) headers
    (header_longer acls a) good

plus_one : (n : ℕ) → n + 1 ≡ suc n
plus_one n = omega arith

plus_none : (n : ℕ) → n + 0 ≡ n
plus_none n = omega arith

-- one acl more of a name without a blank
unmade_one : (acls : List Acl) (a : Acl) → has_blank a.name ≡ false
    → unmade_acls (acls ++ a ∷ []) ≡ suc (unmade_acls acls)
unmade_one acls a word = unmade_push (λ (z : Acl). z.name) acls a
    ∙ ap (λ b. unmade_acls acls + (if b then 0 else 1)) word ∙ plus_one (unmade_acls acls)

unmade_none : (acls : List Acl) (a : Acl) → has_blank a.name ≡ true → unmade_acls (acls ++ a ∷ []) ≡ unmade_acls acls
unmade_none acls a made = unmade_push (λ (z : Acl). z.name) acls a
    ∙ ap (λ b. unmade_acls acls + (if b then 0 else 1)) made ∙ plus_none (unmade_acls acls)

counted_one : (lookup : Bool) (acls : List Acl) (a : Acl) → has_blank a.name ≡ false
    → stated_acls lookup (acls ++ a ∷ []) ≡ suc (stated_acls lookup acls)
counted_one true acls a word = unmade_one acls a word
counted_one false acls a word = length_push acls a ∙ plus_one (length acls)

-- one acl more
pub IsSound_push : (d : Drafts) (a : Acl) → IsSound d → nat_lt (stated_acls d.dst_lookup d.acls) acl_limit ≡ true
    → has_blank a.name ≡ false → (d.dst_lookup && is_dst a.body) ≡ false
    → is_known_body (length d.classes) (length d.acls) a.body ≡ true → has_patterns a.body ≡ true
    → IsSound (record d { acls = d.acls ++ a ∷ [] })
IsSound_push d a sound room word plain known good = record {
  members = known_longer (length d.classes) 0 (length d.acls) d.acls a sound.members (omega arith) known;
  patterns = all_push (λ b. has_patterns b.body) d.acls a sound.patterns good;
  places = rules_longer d.acls a d.rules sound.places;
  pools_are = pools_longer d.acls a d.pools sound.pools_are;
  headers_are = headers_longer d.acls a d.headers sound.headers_are;
  lookups_are = looked_push d.dst_lookup d.classes d.acls a sound.lookups_are plain;
  few_classes = sound.few_classes;
  few_acls = grind (arith, nat_tests, room, counted_one d.dst_lookup d.acls a word);
  all_acls = omega (arith, sound.all_acls, counted_one d.dst_lookup d.acls a word, length_push d.acls a);
  few_rules = sound.few_rules;
  few_pools = sound.few_pools;
  few_headers = sound.few_headers;
  lower_headers = sound.lower_headers;
  program_is = sound.program_is;
  children_are = sound.children_are;
  initial_is = sound.initial_is;
}

-- a group, or an acl that asks, is no acl of values
pub no_leaf : (lookup : Bool) → (lookup && false) ≡ false
no_leaf true = refl
no_leaf false = refl

pub four_behind : {A : Type 0} (xs : List A) (a b c e : A)
    → (((xs ++ a ∷ []) ++ b ∷ []) ++ c ∷ []) ++ e ∷ [] ≡ xs ++ a ∷ b ∷ c ∷ e ∷ []
four_behind [] a b c e = refl
four_behind (x ∷ xs) a b c e = ap (λ l. x ∷ l) (four_behind xs a b c e)

-- what stays with each acl more stays with four
by_four : (P : List Acl → Type 0) (acls : List Acl) (a b c e : Acl) → ((l : List Acl) (z : Acl) → P l → P (l ++ z ∷ []))
    → P acls → P (acls ++ a ∷ b ∷ c ∷ e ∷ [])
by_four P acls a b c e step base =
    subst P (four_behind acls a b c e)
    (step (((acls ++ a ∷ []) ++ b ∷ []) ++ c ∷ []) e
    (step ((acls ++ a ∷ []) ++ b ∷ []) c (step (acls ++ a ∷ []) b (step acls a base))))

first_there : (classes : List Class) → begins_lookup classes ≡ true → nat_lt 0 (length classes) ≡ true
first_there [] is = cc
first_there (c ∷ classes) is = grind (arith, nat_tests)

under : (m n : ℕ) → m < n → nat_lt m n ≡ true
under m n l = grind (arith, nat_tests, l)

members_more : (classes : List Class) (acls : List Acl) (name : List ℕ) (values : List Range)
    → begins_lookup classes ≡ true → are_known_bodies (length classes) 0 acls ≡ true
    → are_known_bodies (length classes) 0 (acls ++ looked_up (length acls) name values) ≡ true
members_more classes acls name values looks known =
    let k = length acls in
    let n = length classes in
    let a = values_acl name values in
    let b = asking_acl name in
    let c = named_acl k name in
    let e = either_acl k name in
    let l1 : length (acls ++ a ∷ []) ≡ k + 1 = omega (arith, length_push acls a) in
    let l2 : length ((acls ++ a ∷ []) ++ b ∷ []) ≡ k + 2 = omega (arith, length_push (acls ++ a ∷ []) b, l1) in
    let l3 : length (((acls ++ a ∷ []) ++ b ∷ []) ++ c ∷ []) ≡ k + 3 =
    omega (arith, length_push ((acls ++ a ∷ []) ++ b ∷ []) c, l2) in
    let s1 : are_known_bodies n 0 (acls ++ a ∷ []) ≡ true = known_longer n 0 k acls a known (omega arith) refl in
    let s2 : are_known_bodies n 0 ((acls ++ a ∷ []) ++ b ∷ []) ≡ true =
    known_longer n 0 (k + 1) (acls ++ a ∷ []) b s1 (omega (arith, l1)) (first_there classes looks) in
    let named : is_known_body n (k + 2) c.body ≡ true =
    rw (under 0 (k + 2) (omega arith), under (suc k) (k + 2) (omega arith)) refl in
    let s3 : are_known_bodies n 0 (((acls ++ a ∷ []) ++ b ∷ []) ++ c ∷ []) ≡ true =
    known_longer n 0 (k + 2) ((acls ++ a ∷ []) ++ b ∷ []) c s2 (omega (arith, l2)) named in
    let either : is_known_body n (k + 3) e.body ≡ true =
    rw (under k (k + 3) (omega arith), under (suc (suc k)) (k + 3) (omega arith)) refl in
    subst (λ l. are_known_bodies n 0 l ≡ true) (four_behind acls a b c e)
    (known_longer n 0 (k + 3) (((acls ++ a ∷ []) ++ b ∷ []) ++ c ∷ []) e s3 (omega (arith, l3)) either)

unmade_more : (acls : List Acl) (k : ℕ) (name : List ℕ) (values : List Range) → has_blank name ≡ false
    → unmade_acls (acls ++ looked_up k name values) ≡ suc (unmade_acls acls)
unmade_more acls k name values word =
    let a = values_acl name values in
    let b = asking_acl name in
    let c = named_acl k name in
    let e = either_acl k name in
    ap unmade_acls (sym (four_behind acls a b c e))
    ∙ unmade_one (((acls ++ a ∷ []) ++ b ∷ []) ++ c ∷ []) e word
    ∙ ap suc (unmade_none ((acls ++ a ∷ []) ++ b ∷ []) c (named_blank name)
    ∙ unmade_none (acls ++ a ∷ []) b (lookup_blank name) ∙ unmade_none acls a (literal_blank name))

counted_more : (lookup : Bool) (acls : List Acl) (k : ℕ) (name : List ℕ) (values : List Range) → lookup ≡ true
    → has_blank name ≡ false
    → stated_acls lookup (acls ++ looked_up k name values) ≡ suc (stated_acls lookup acls)
counted_more true acls k name values on word = unmade_more acls k name values word
counted_more false acls k name values on word = cc

length_more : (acls : List Acl) (k : ℕ) (name : List ℕ) (values : List Range)
    → length (acls ++ looked_up k name values) ≡ length acls + 4
length_more acls k name values = length-append acls (looked_up k name values)

looks_there : (classes : List Class) (acls : List Acl) → are_looked_up true classes acls ≡ true
    → begins_lookup classes ≡ true
looks_there classes acls is = first_true (begins_lookup classes) _ is

-- the four acls of one of type dst more
pub IsSound_more : (d : Drafts) (name : List ℕ) (values : List Range) → IsSound d → d.dst_lookup ≡ true
    → nat_lt (stated_acls d.dst_lookup d.acls) acl_limit ≡ true → has_blank name ≡ false
    → IsSound (record d { acls = d.acls ++ looked_up (length d.acls) name values })
IsSound_more d name values sound on room word =
    let k = length d.acls in
    let a = values_acl name values in
    let b = asking_acl name in
    let c = named_acl k name in
    let e = either_acl k name in
    let looks : begins_lookup d.classes ≡ true =
    looks_there d.classes d.acls (subst (λ z. are_looked_up z d.classes d.acls ≡ true) on sound.lookups_are) in
    let count : stated_acls d.dst_lookup (d.acls ++ looked_up k name values) ≡ suc (stated_acls d.dst_lookup d.acls) =
    counted_more d.dst_lookup d.acls k name values on word in
    let long : length (d.acls ++ looked_up k name values) ≡ k + 4 = length_more d.acls k name values in
    record {
      members = members_more d.classes d.acls name values looks sound.members;
      patterns = subst (λ l. all_patterns l ≡ true) (four_behind d.acls a b c e)
          (all_push (λ z. has_patterns z.body) (((d.acls ++ a ∷ []) ++ b ∷ []) ++ c ∷ []) e
          (all_push (λ z. has_patterns z.body) ((d.acls ++ a ∷ []) ++ b ∷ []) c
          (all_push (λ z. has_patterns z.body) (d.acls ++ a ∷ []) b
          (all_push (λ z. has_patterns z.body) d.acls a sound.patterns refl) refl) refl) refl);
      places = by_four (λ l. list_all (is_known_rule (length l)) d.rules ≡ true) d.acls a b c e
          (λ l z good. rules_longer l z d.rules good) sound.places;
      pools_are = by_four (λ l. list_all (is_pool_draft l) d.pools ≡ true) d.acls a b c e
          (λ l z good. pools_longer l z d.pools good) sound.pools_are;
      headers_are = by_four (λ l. list_all (is_header l) d.headers ≡ true) d.acls a b c e
          (λ l z good. headers_longer l z d.headers good) sound.headers_are;
      lookups_are = looked_more d.dst_lookup d.classes d.acls name values sound.lookups_are;
      few_classes = sound.few_classes;
      few_acls = grind (arith, nat_tests, room, count);
      all_acls = omega (arith, sound.all_acls, count, long);
      few_rules = sound.few_rules;
      few_pools = sound.few_pools;
      few_headers = sound.few_headers;
      lower_headers = sound.lower_headers;
      program_is = sound.program_is;
      children_are = sound.children_are;
      initial_is = sound.initial_is;
    }

within_class : (lookup : Bool) (n m : ℕ) → nat_lt n (classes_within lookup) ≡ true → m ≡ suc n
    → m ≤ classes_within lookup
within_class lookup n m room more = grind (arith, nat_tests, room, more)

-- one class more
pub IsSound_class : (d : Drafts) (c : Class) → IsSound d
    → nat_lt (length d.classes) (classes_within d.dst_lookup) ≡ true
    → IsSound (record d { classes = d.classes ++ c ∷ [] })
IsSound_class d c sound room = record {
  members = known_wider (length d.classes) (length (d.classes ++ c ∷ [])) 0 d.acls
      (omega (arith, length_push d.classes c)) sound.members;
  patterns = sound.patterns;
  places = sound.places;
  pools_are = sound.pools_are;
  headers_are = sound.headers_are;
  lookups_are = looked_class d.dst_lookup d.classes c d.acls sound.lookups_are;
  few_classes = within_class d.dst_lookup (length d.classes) (length (d.classes ++ c ∷ [])) room
      (omega (arith, length_push d.classes c));
  few_acls = sound.few_acls;
  all_acls = sound.all_acls;
  few_rules = sound.few_rules;
  few_pools = sound.few_pools;
  few_headers = sound.few_headers;
  lower_headers = sound.lower_headers;
  program_is = sound.program_is;
  children_are = sound.children_are;
  initial_is = sound.initial_is;
}

-- one rule for fields more
pub IsSound_header : (d : Drafts) (h : HeaderRule) → IsSound d → nat_lt (length d.headers) header_limit ≡ true
    → is_header d.acls h ≡ true → is_lower h ≡ true → IsSound (record d { headers = d.headers ++ h ∷ [] })
IsSound_header d h sound room good lower = record {
  members = sound.members;
  patterns = sound.patterns;
  places = sound.places;
  pools_are = sound.pools_are;
  headers_are = all_push (is_header d.acls) d.headers h sound.headers_are good;
  lookups_are = sound.lookups_are;
  few_classes = sound.few_classes;
  few_acls = sound.few_acls;
  all_acls = sound.all_acls;
  few_rules = sound.few_rules;
  few_pools = sound.few_pools;
  few_headers = grind (arith, nat_tests, room, length_push d.headers h);
  lower_headers = all_push is_lower d.headers h sound.lower_headers lower;
  program_is = sound.program_is;
  children_are = sound.children_are;
  initial_is = sound.initial_is;
}

pub IsSound_header_by : {V E : Type 0} (r : Result V E) (d : Drafts) (headers changed : List HeaderRule) → IsSound d
    → OnOk r (headers ≡ changed) → OnErr r (headers ≡ d.headers) → IsSound (record d { headers = changed }) →
    IsSound (record d { headers = headers })
IsSound_header_by r d headers changed sound ok err after = by_either (λ l. IsSound (record d { headers = l })) r
    d.headers changed headers sound ok err after

-- one pool put in
pub IsSound_pool : (d : Drafts) (p : ℕ) (y : PoolDraft) → IsSound d → is_pool_draft d.acls y ≡ true
    → IsSound (record d { pools = set d.pools p y })
IsSound_pool d p y sound good = record {
  members = sound.members;
  patterns = sound.patterns;
  places = sound.places;
  pools_are = all_set (is_pool_draft d.acls) d.pools p y sound.pools_are good;
  headers_are = sound.headers_are;
  lookups_are = sound.lookups_are;
  few_classes = sound.few_classes;
  few_acls = sound.few_acls;
  all_acls = sound.all_acls;
  few_rules = sound.few_rules;
  few_pools = omega (arith, sound.few_pools, length-set d.pools p y);
  few_headers = sound.few_headers;
  lower_headers = sound.lower_headers;
  program_is = sound.program_is;
  children_are = sound.children_are;
  initial_is = sound.initial_is;
}

none_stated : (acls : List Acl) (n : ℕ) → list_all (is_pool_draft acls) (replicate n no_pool) ≡ true
none_stated acls zero = refl
none_stated acls (suc n) = none_stated acls n

-- pools of which nothing is stated
pub IsSound_count : (d : Drafts) (counted : Bool) (n : ℕ) (pools : List PoolDraft) → IsSound d
    → pools ≡ replicate n no_pool → n ≤ pool_limit → IsSound (record d { counted = counted; pools = pools })
IsSound_count d counted n pools sound made few = record {
  members = sound.members;
  patterns = sound.patterns;
  places = sound.places;
  pools_are = rw made (none_stated d.acls n);
  headers_are = sound.headers_are;
  lookups_are = sound.lookups_are;
  few_classes = sound.few_classes;
  few_acls = sound.few_acls;
  all_acls = sound.all_acls;
  few_rules = sound.few_rules;
  few_pools = omega (arith, ap length made, length-replicate n no_pool, few);
  few_headers = sound.few_headers;
  lower_headers = sound.lower_headers;
  program_is = sound.program_is;
  children_are = sound.children_are;
  initial_is = sound.initial_is;
}

fast_again : (acls after : List Acl) (r : Rule) → length after ≡ length acls → is_fast_rule acls r ≡ true
    → is_fast (slow_ones after) r ≡ true → is_fast_rule after r ≡ true
fast_again acls after r long was fast =
    and_from (is_known_rule (length after) r) (is_fast (slow_ones after) r)
    (rw long (first_true (is_known_rule (length acls) r) (not (some_slow (slow_ones acls) r.terms)) was)) fast

pool_again : (acls after : List Acl) (p : PoolDraft) → length after ≡ length acls → is_pool_draft acls p ≡ true
    → list_all (is_fast (slow_ones after)) p.lists ≡ true → is_pool_draft after p ≡ true
pool_again acls after p long was fast =
    and_from (has_room_for p.class p.pairs) (list_all (is_fast_rule after) p.lists)
    (first_true (has_room_for p.class p.pairs) (list_all (is_fast_rule acls) p.lists) was)
    (all_from_both (is_fast_rule acls) (is_fast (slow_ones after)) (is_fast_rule after) p.lists
    (λ r. fast_again acls after r long)
    (second_true (has_room_for p.class p.pairs) (list_all (is_fast_rule acls) p.lists) was) fast)

header_again : (acls after : List Acl) (h : HeaderRule) → length after ≡ length acls → is_header acls h ≡ true
    → is_fast (slow_ones after) h.rule ≡ true → is_header after h ≡ true
header_again acls after h long was fast = fast_again acls after h.rule long was fast

-- one member more, over which pools and rules for fields stay fast
pub IsSound_member : (d : Drafts) (p : ℕ) (t : Term) → IsSound d → p < length d.acls → t.acl < p
    → takes_members d.dst_lookup d.acls p ≡ true → are_fast (with_member_at p t d.acls) d.pools d.headers ≡ true →
    IsSound (record d { acls = with_member_at p t d.acls })
IsSound_member d p t sound within earlier takes fast =
    let at = found d.acls p within in
    let x = at.0 in
    let is = at.1 in
    let less : nat_lt t.acl p ≡ true = grind (arith, nat_tests, earlier) in
    let y : Acl = record x { body = with_member t x.body } in
    let now : set d.acls p y ≡ with_member_at p t d.acls = sym (changed_at d.acls p x (with_member t) is) in
    let long : length (with_member_at p t d.acls) ≡ length d.acls = ap length (sym now) ∙ length-set d.acls p y in
    let unmade : unmade_acls (with_member_at p t d.acls) ≡ unmade_acls d.acls = ap unmade_acls (sym now)
    ∙ unmade_set (λ (a : Acl). a.name) d.acls p x y is refl in
    let named : stated_acls d.dst_lookup (with_member_at p t d.acls) ≡ stated_acls d.dst_lookup d.acls =
    stated_alike d.dst_lookup (λ (a : Acl). a.name) (λ (a : Acl). a.name) (with_member_at p t d.acls) d.acls unmade
    long in
    let slow = slow_ones (with_member_at p t d.acls) in
    let pools_fast : list_all (λ q. list_all (is_fast slow) q.lists) d.pools ≡ true =
    first_true _ (list_all (λ h. is_fast slow h.rule) d.headers) fast in
    let headers_fast : list_all (λ h. is_fast slow h.rule) d.headers ≡ true =
    second_true (list_all (λ q. list_all (is_fast slow) q.lists) d.pools) _ fast in
    record {
      members = subst (λ l. are_known_bodies (length d.classes) 0 l ≡ true) now
          (members_set d p x y sound is (member_known (length d.classes) p t x.body less));
      patterns = subst (λ l. all_patterns l ≡ true) now (patterns_set d p x y sound is (member_patterns t x.body));
      places = rw long sound.places;
      pools_are = all_from_both (is_pool_draft d.acls) (λ q. list_all (is_fast slow) q.lists)
          (is_pool_draft (with_member_at p t d.acls)) d.pools
          (λ q. pool_again d.acls (with_member_at p t d.acls) q long)
          sound.pools_are pools_fast;
      headers_are = all_from_both (is_header d.acls) (λ h. is_fast slow h.rule) (is_header (with_member_at p t d.acls))
          d.headers (λ h. header_again d.acls (with_member_at p t d.acls) h long) sound.headers_are headers_fast;
      lookups_are = subst (λ l. are_looked_up d.dst_lookup d.classes l ≡ true) now
          (looked_group (with_member t) d.dst_lookup d.classes d.acls p x is (member_dst t) (member_asking t)
          (member_all t)
          takes sound.lookups_are);
      few_classes = sound.few_classes;
      few_acls = omega (arith, sound.few_acls, named);
      all_acls = omega (arith, sound.all_acls, named, long);
      few_rules = sound.few_rules;
      few_pools = sound.few_pools;
      few_headers = sound.few_headers;
      lower_headers = sound.lower_headers;
      program_is = sound.program_is;
      children_are = sound.children_are;
      initial_is = sound.initial_is;
    }

-- the pools are fast
pub pools_fast : (acls : List Acl) (pools : List PoolDraft) → list_all (is_pool_draft acls) pools ≡ true
    → list_all (λ p. list_all (is_fast (slow_ones acls)) p.lists) pools ≡ true
pools_fast acls pools good =
    all_from (is_pool_draft acls) (λ p. list_all (is_fast (slow_ones acls)) p.lists) pools
    (λ p one. all_from (is_fast_rule acls) (is_fast (slow_ones acls)) p.lists
    (λ r. second_true (is_known_rule (length acls) r) (is_fast (slow_ones acls) r))
    (second_true (has_room_for p.class p.pairs) (list_all (is_fast_rule acls) p.lists) one))
    good

headers_fast : (acls : List Acl) (headers : List HeaderRule) → list_all (is_header acls) headers ≡ true
    → list_all (λ h. is_fast (slow_ones acls) h.rule) headers ≡ true
headers_fast acls headers good = all_from (is_header acls) (λ h. is_fast (slow_ones acls) h.rule) headers
    (λ h. second_true (is_known_rule (length acls) h.rule) (is_fast (slow_ones acls) h.rule)) good

-- what is tested of a member
pub member_fast : (d : Drafts) (p : ℕ) (t : Term) (new : Option (List Bool)) → IsSound d
    → AreSlowOnes new d.acls (with_member_at p t d.acls)
    → are_fast (with_member_at p t d.acls) d.pools d.headers ≡ stay_fast new d.pools d.headers
member_fast d p t None sound same =
    ap (λ s. are_fast_where s d.pools d.headers) (sym same)
    ∙ and_from (list_all (λ q. list_all (is_fast (slow_ones d.acls)) q.lists) d.pools)
    (list_all (λ h. is_fast (slow_ones d.acls) h.rule) d.headers) (pools_fast d.acls d.pools sound.pools_are)
    (headers_fast d.acls d.headers sound.headers_are)
member_fast d p t (Some slow) sound same = ap (λ s. are_fast_where s d.pools d.headers) (sym same)

buckets : (class : Option ℕ) (pairs : Option (List (Option Limit))) → has_room_for class pairs ≡ true
    → (is_some class && is_some pairs) ≡ true → has_buckets (unwrap_or class 0) (length (unwrap_or pairs [])) ≡ true
buckets None pairs room full = cc
buckets (Some class) None room full = cc
buckets (Some class) (Some pairs) room full = room

pool_finished : (acls : List Acl) (p : PoolDraft) → is_pool_draft acls p ≡ true → is_complete p ≡ true
    → is_pool acls (pool_of_draft p) ≡ true
pool_finished acls p good full =
    and_from (has_buckets (unwrap_or p.class 0) (length (unwrap_or p.pairs []))) (list_all (is_fast_rule acls) p.lists)
    (buckets p.class p.pairs (first_true (has_room_for p.class p.pairs) (list_all (is_fast_rule acls) p.lists) good)
    full)
    (second_true (has_room_for p.class p.pairs) (list_all (is_fast_rule acls) p.lists) good)

-- complete pools are pools
pub pools_finished : (acls : List Acl) (pools : List PoolDraft) → list_all (is_pool_draft acls) pools ≡ true
    → are_complete pools ≡ true → list_all (is_pool acls) (map pool_of_draft pools) ≡ true
pools_finished acls pools good full =
    list_all-map (is_pool acls) pool_of_draft pools
    ∙ all_from_both (is_pool_draft acls) is_complete (λ p. is_pool acls (pool_of_draft p)) pools (pool_finished acls)
    good full

-- the class of a program that rewrites has its name
pub rewriter_finished : (program : Option (List (List ℕ))) (children : Option Class) → has_words program ≡ true
    → is_children children ≡ true → is_rewriter (rewriter_of program children) ≡ true
rewriter_finished None children words named = refl
rewriter_finished (Some w) None words named = words
rewriter_finished (Some w) (Some c) words named = and_from (is_rewriter_class c) (nat_lt 0 (length w)) named words

unset : (class : Option ℕ) (pairs : Option (List (Option Limit))) (n : ℕ) → has_room_for class pairs ≡ true
    → class ≡ None → is_pool_class n ≡ true → has_room_for (Some n) pairs ≡ true
unset None None n room none one = one
unset None (Some pairs) n room none one = cc
unset (Some class) pairs n room none one = cc

-- a class is set
pub class_set : (acls : List Acl) (p : PoolDraft) (n : ℕ) → is_pool_draft acls p ≡ true → p.class ≡ None
    → is_pool_class n ≡ true → is_pool_draft acls (record p { class = Some n }) ≡ true
class_set acls p n good none one =
    and_from (has_room_for (Some n) p.pairs) (list_all (is_fast_rule acls) p.lists)
    (unset p.class p.pairs n (first_true (has_room_for p.class p.pairs) (list_all (is_fast_rule acls) p.lists) good)
    none one)
    (second_true (has_room_for p.class p.pairs) (list_all (is_fast_rule acls) p.lists) good)

with_pairs : (n : ℕ) (new : List (Option Limit)) → is_pool_class n ≡ true → pairs_of n ≡ length new
    → has_buckets n (length new) ≡ true
with_pairs n new one many = and_from (is_pool_class n) (length new == pairs_of n) one (grind (arith, many))

fits : (class : Option ℕ) (old : Option (List (Option Limit))) (new : List (Option Limit))
    → has_room_for class old ≡ true → option_map pairs_of class ≡ Some (length new)
    → has_room_for class (Some new) ≡ true
fits None old new room has = cc
fits (Some n) None new room has = let many : pairs_of n ≡ length new = cc in with_pairs n new room many
fits (Some n) (Some m) new room has = let many : pairs_of n ≡ length new = cc in
    with_pairs n new (first_true (is_pool_class n) (length m == pairs_of n) room) many

-- parameters are set
pub pairs_set : (acls : List Acl) (p : PoolDraft) (new : List (Option Limit)) → is_pool_draft acls p ≡ true
    → option_map pairs_of p.class ≡ Some (length new) → is_pool_draft acls (record p { pairs = Some new }) ≡ true
pairs_set acls p new good has =
    and_from (has_room_for p.class (Some new)) (list_all (is_fast_rule acls) p.lists)
    (fits p.class p.pairs new (first_true (has_room_for p.class p.pairs) (list_all (is_fast_rule acls) p.lists) good)
    has)
    (second_true (has_room_for p.class p.pairs) (list_all (is_fast_rule acls) p.lists) good)

-- one rule more of a pool
pub list_push : (acls : List Acl) (p : PoolDraft) (r : Rule) → is_pool_draft acls p ≡ true
    → is_known_rule (length acls) r ≡ true → is_fast (slow_ones acls) r ≡ true
    → is_pool_draft acls (record p { lists = p.lists ++ r ∷ [] }) ≡ true
list_push acls p r good known fast =
    and_from (has_room_for p.class p.pairs) (list_all (is_fast_rule acls) (p.lists ++ r ∷ []))
    (first_true (has_room_for p.class p.pairs) (list_all (is_fast_rule acls) p.lists) good)
    (all_push (is_fast_rule acls) p.lists r
    (second_true (has_room_for p.class p.pairs) (list_all (is_fast_rule acls) p.lists) good)
    (and_from (is_known_rule (length acls) r) (is_fast (slow_ones acls) r) known fast))

-- the pool at a place, and the drafts with it changed
pub at_place : (pools : List PoolDraft) (p : ℕ) (x : PoolDraft) → slice_get pools p ≡ Some x → pool_at pools p ≡ x
at_place pools p x is = get_or_from_slice_get pools p x no_pool is

pub pool_changed : (d : Drafts) (p : ℕ) (x : PoolDraft) (f : PoolDraft → PoolDraft) → slice_get d.pools p ≡ Some x
    → record d { pools = set d.pools p (f x) } ≡ with_pool p f d
pool_changed d p x f is = rw is refl

pub pool_changed_by : {V E : Type 0} (r : Result V E) (d : Drafts) (p : ℕ) (x y : PoolDraft) (f : PoolDraft → PoolDraft)
    → slice_get d.pools p ≡ Some x → OnOk r (y ≡ f x) → OnOk r (record d { pools = set d.pools p y } ≡ with_pool p f d)
pool_changed_by (Ok v) d p x y f is ok = ap (λ z. record d { pools = set d.pools p z }) ok ∙ pool_changed d p x f is
pool_changed_by (Err e) d p x y f is ok = tt

-- the predefined acls hold patterns
pub first_patterns : all_patterns predefined_ones ≡ true
first_patterns = rw (cache_objects, managers) refl
