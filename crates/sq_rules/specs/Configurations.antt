-- In the statement: docs/STATEMENT.md lists which definitions.
-- A configuration as a value, and what holds of every one (configuration reference, `acl`,
-- `http_access`, `external_acl_type`, `delay_pools`, `delay_class`, `delay_access`,
-- `delay_parameters`, `request_header_access`, `reply_header_access`, `url_rewrite_program`).
use Rattle.std.specs.Prelude.{◌≡◌, ℕ, ◌≤◌, List, [], ◌∷◌, ◌++◌, length, Bool, true, false, not, ◌&&◌, ◌||◌, ◌==◌, nat_lt, nat_le, max, suc, bytes_eq, slice_index_or, if◌then◌else◌, Some, None, codes}
use Rattle.std.specs.declared.option.Option.{Option}
use Rattle.std.specs.List.{list_all, list_any}
use Rattle.std.specs.Str.{str_to_ascii_lowercase}
use Rattle.sq_rules.specs.Classes.{Class}
use Rattle.sq_rules.specs.Limits.{acl_limit, header_limit, initial_limit, most_acls, nesting_limit, pool_limit, rule_limit, text_limit}
use Rattle.sq_rules.specs.Lookups.{are_looked_up, classes_within, stated_acls}
use Rattle.sq_rules.specs.declared.configs.Acl.{Acl}
use Rattle.sq_rules.specs.declared.configs.Body.{Body}
use Rattle.sq_rules.specs.declared.configs.Body.TheVariants as body
use Rattle.sq_rules.specs.declared.configs.Rule.{Rule}
use Rattle.sq_rules.specs.declared.configs.Term.{Term}
use Rattle.sq_rules.specs.declared.headers.HeaderRule.{HeaderRule}
use Rattle.sq_rules.specs.declared.notices.Notice.{Notice}
use Rattle.sq_rules.specs.declared.pools.Pool.{Pool}

-- the text of the file, and what it states; with `dst_lookup` names of hosts are looked up
pub record Configuration : Type 0 where
  pub source : List ℕ
  pub dst_lookup : Bool
  pub classes : List Class
  pub acls : List Acl
  pub rules : List Rule
  pub pools : List Pool
  pub initial : ℕ
  pub port : ℕ
  pub rewriter : Option Class
  pub headers : List HeaderRule
  pub notices : List Notice

-- one of these has the name
abbrev pub is_named : {A : Type 0} → (A → List ℕ) → List A → List ℕ → Bool
is_named name_of list name = list_any (λ a. bytes_eq (name_of a) name) list

-- no two of these have one name
abbrev pub have_own_names : {A : Type 0} → (A → List ℕ) → List A → Bool
have_own_names name_of [] = true
have_own_names name_of (a ∷ list) = not (is_named name_of list (name_of a))
    && have_own_names name_of list

-- the place of the first with this name, where they stand from this place on
abbrev pub place_from : {A : Type 0} → (A → List ℕ) → ℕ → List A → List ℕ → Option ℕ
place_from name_of place [] name = None
place_from name_of place (a ∷ list) name = if bytes_eq (name_of a) name then Some place
    else place_from name_of (suc place) list name

-- an acl of this name is among these
abbrev pub has_name : List Acl → List ℕ → Bool
has_name acls name = is_named (λ a. a.name) acls name

-- no two acls have one name
abbrev pub are_unique : List Acl → Bool
are_unique acls = have_own_names (λ a. a.name) acls

-- a class of this name is among these
abbrev pub has_class : List Class → List ℕ → Bool
has_class classes name = is_named (λ c. c.name) classes name

-- no two classes have one name
abbrev pub have_distinct_names : List Class → Bool
have_distinct_names classes = have_own_names (λ c. c.name) classes

-- each term names one of this many acls
abbrev pub are_known : ℕ → List Term → Bool
are_known count terms = list_all (λ t. nat_lt t.acl count) terms

-- each term of the rule names one of this many acls
abbrev pub is_known_rule : ℕ → Rule → Bool
is_known_rule count r = are_known count r.terms

-- the class is one of so many, and each member is one of the so many acls before
abbrev pub is_known_body : ℕ → ℕ → Body → Bool
is_known_body classes before (body.Leaf l) = true
is_known_body classes before (body.External class arguments) = nat_lt class classes
is_known_body classes before (body.AnyOf terms) = are_known before terms
is_known_body classes before (body.AllOf lines) = list_all (are_known before) lines

abbrev pub is_leaf_body : Body → Bool
is_leaf_body (body.Leaf l) = true
is_leaf_body (body.External class arguments) = false
is_leaf_body (body.AnyOf terms) = false
is_leaf_body (body.AllOf lines) = false

-- an acl is a list of values
abbrev pub is_leaf : Acl → Bool
is_leaf a = is_leaf_body a.body

-- each of these acls, the first of which stands at this place, names only what there is before it
abbrev pub are_known_bodies : ℕ → ℕ → List Acl → Bool
are_known_bodies classes place [] = true
are_known_bodies classes place (a ∷ acls) = is_known_body classes place a.body
    && are_known_bodies classes (suc place) acls

-- the greatest of the numbers that some things have; 0 where there is none
abbrev pub greatest_of : {A : Type 0} → (A → ℕ) → List A → ℕ
greatest_of number [] = 0
greatest_of number (x ∷ xs) = max (number x) (greatest_of number xs)

-- the greatest of the nestings of the terms, where the acls before have these
abbrev pub deepest : List ℕ → List Term → ℕ
deepest before terms = greatest_of (λ t. slice_index_or before t.acl 0) terms

-- how deep an acl nests: a group one more than its deepest member
abbrev pub nesting_of : List ℕ → Body → ℕ
nesting_of before (body.Leaf l) = 0
nesting_of before (body.External class arguments) = 0
nesting_of before (body.AnyOf terms) = suc (deepest before terms)
nesting_of before (body.AllOf lines) = suc (greatest_of (deepest before) lines)

-- the nestings of some acls, behind those of the acls before them
abbrev pub nestings_on : List ℕ → List Acl → List ℕ
nestings_on before [] = before
nestings_on before (a ∷ acls) = nestings_on (before ++ nesting_of before a.body ∷ []) acls

-- the nesting of each acl
abbrev pub nestings : List Acl → List ℕ
nestings acls = nestings_on [] acls

-- groups nest no deeper than they may
abbrev pub are_shallow : List Acl → Bool
are_shallow acls = list_all (λ n. nat_le n nesting_limit) (nestings acls)

-- some term is slow, where these tell it of the acls before
abbrev pub some_slow : List Bool → List Term → Bool
some_slow before terms = list_any (λ t. slice_index_or before t.acl false) terms

-- an acl is slow that asks a helper, or has a slow member
abbrev pub is_slow : List Bool → Body → Bool
is_slow before (body.Leaf l) = false
is_slow before (body.External class arguments) = true
is_slow before (body.AnyOf terms) = some_slow before terms
is_slow before (body.AllOf lines) = list_any (some_slow before) lines

-- which of some acls are slow, behind those of the acls before them
abbrev pub slow_on : List Bool → List Acl → List Bool
slow_on before [] = before
slow_on before (a ∷ acls) = slow_on (before ++ is_slow before a.body ∷ []) acls

-- which acls are slow
abbrev pub slow_ones : List Acl → List Bool
slow_ones acls = slow_on [] acls

-- a rule of a pool names acls that are there and are not slow
abbrev pub is_fast_rule : List Acl → Rule → Bool
is_fast_rule acls r = is_known_rule (length acls) r && not (some_slow (slow_ones acls) r.terms)

-- no term of the rules asks a helper, or names a group that reaches one
abbrev pub asks_nobody : Configuration → Bool
asks_nobody c = list_all (λ r. not (some_slow (slow_ones c.acls) r.terms)) c.rules

-- the class is 1, 2, 3 or 5
abbrev pub is_pool_class : ℕ → Bool
is_pool_class class = (nat_le 1 class && nat_le class 3) || class == 5

-- how many limits a class has: one for each kind of its buckets
abbrev pub pairs_of : ℕ → ℕ
pairs_of class = if class == 5 then 1 else class

-- the class is one, and there are as many limits as it has
abbrev pub has_buckets : ℕ → ℕ → Bool
has_buckets class pairs = is_pool_class class && pairs == pairs_of class

-- a pool has a class with its limits, and fast rules
abbrev pub is_pool : List Acl → Pool → Bool
is_pool acls p = has_buckets p.class (length p.pairs) && list_all (is_fast_rule acls) p.lists

-- the rule for a field names acls that are there and are not slow
abbrev pub is_header : List Acl → HeaderRule → Bool
is_header acls h = is_fast_rule acls h.rule

-- the name of the field stands in lower case
abbrev pub is_lower : HeaderRule → Bool
is_lower h = bytes_eq h.name (str_to_ascii_lowercase h.name)

-- the class of the program that rewrites has its name
abbrev pub is_rewriter_class : Class → Bool
is_rewriter_class c = bytes_eq c.name (codes "url rewrite")

-- where there is a program that rewrites, its class has the name, and the program a word or more
abbrev pub is_rewriter : Option Class → Bool
is_rewriter None = true
is_rewriter (Some c) = is_rewriter_class c && nat_lt 0 (length c.words)

-- what holds of every configuration; the ranges of a class's options, of a pool's rates and of the
-- periods of `time` are held by the invariants of these types
pub record IsConfiguration (c : Configuration) : Type 0 where
  pub short : length c.source ≤ text_limit
  pub class_names : have_distinct_names c.classes ≡ true
  pub names : are_unique c.acls ≡ true
  pub members : are_known_bodies (length c.classes) 0 c.acls ≡ true
  pub shallow : are_shallow c.acls ≡ true
  pub places : list_all (is_known_rule (length c.acls)) c.rules ≡ true
  pub pools_are : list_all (is_pool c.acls) c.pools ≡ true
  pub headers_are : list_all (is_header c.acls) c.headers ≡ true
  pub lower_headers : list_all is_lower c.headers ≡ true
  pub rewriter_is : is_rewriter c.rewriter ≡ true
  pub lookups_are : are_looked_up c.dst_lookup c.classes c.acls ≡ true
  pub few_classes : length c.classes ≤ classes_within c.dst_lookup
  pub few_acls : stated_acls c.dst_lookup c.acls ≤ acl_limit
  pub all_acls : length c.acls ≤ most_acls
  pub few_rules : length c.rules ≤ rule_limit
  pub few_pools : length c.pools ≤ pool_limit
  pub few_headers : length c.headers ≤ header_limit
  pub initial_is : c.initial ≤ initial_limit
