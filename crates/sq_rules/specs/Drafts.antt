-- In the statement: docs/STATEMENT.md lists which definitions.
-- A configuration as far as some of its lines state it, and what a line changes (configuration
-- reference, `acl`, `http_access`, `external_acl_type`, `delay_pools`, `delay_class`,
-- `delay_access`, `delay_parameters`, `delay_initial_bucket_level`, `http_port`,
-- `request_header_access`, `reply_header_access`, `url_rewrite_program`, `url_rewrite_children`).
use Rattle.std.specs.Prelude.{ℕ, List, [], ◌∷◌, ◌++◌, map, length, codes, if◌then◌else◌, Bool, true, false, not, ◌&&◌, replicate, set, Some, None, is_some, slice_get, slice_index_or}
use Rattle.std.specs.List.{list_all}
use Rattle.std.specs.Option.{unwrap_or}
use Rattle.std.specs.declared.option.Option.{Option}
use Rattle.sq_rules.specs.Classes.{Class}
use Rattle.sq_rules.specs.Configurations.{Configuration, slow_ones, some_slow}
use Rattle.sq_rules.specs.Lookups.{LookupSizes, literal_acl, lookup_class, looked_up}
use Rattle.sq_rules.specs.Patterns.{is_pattern}
use Rattle.sq_rules.specs.Predefined.{predefined}
use Rattle.sq_rules.specs.Rates.{Limit}
use Rattle.sq_rules.specs.declared.acl_types.AclType.{AclType}
use Rattle.sq_rules.specs.declared.acl_types.AclType.TheVariants as type
use Rattle.sq_rules.specs.declared.configs.Acl.{Acl}
use Rattle.sq_rules.specs.declared.configs.Body.{Body}
use Rattle.sq_rules.specs.declared.configs.Body.TheVariants as body
use Rattle.sq_rules.specs.declared.configs.Rule.{Rule}
use Rattle.sq_rules.specs.declared.configs.Term.{Term}
use Rattle.sq_base.specs.declared.addresses.Range.{Range}
use Rattle.sq_rules.specs.declared.headers.HeaderRule.{HeaderRule}
use Rattle.sq_rules.specs.declared.leaves.Leaf.{Leaf}
use Rattle.sq_rules.specs.declared.leaves.Leaf.TheVariants as leaf
use Rattle.sq_rules.specs.declared.notices.Notice.{Notice}
use Rattle.sq_rules.specs.declared.parts.BodyPart.{BodyPart}
use Rattle.sq_rules.specs.declared.parts.BodyPart.TheVariants as part
use Rattle.sq_rules.specs.declared.pools.Pool.{Pool}

-- a delay pool as far as it is stated
pub record PoolDraft : Type 0 where
  pub class : Option ℕ
  pub pairs : Option (List (Option Limit))
  pub lists : List Rule

-- what the lines so far state; the pools are counted once `delay_pools` stands, and the class of
-- the program that rewrites is its numbers alone, without the program
pub record Drafts : Type 0 where
  pub dst_lookup : Bool
  pub classes : List Class
  pub acls : List Acl
  pub rules : List Rule
  pub counted : Bool
  pub pools : List PoolDraft
  pub initial : ℕ
  pub port : Option ℕ
  pub program : Option (List (List ℕ))
  pub children : Option Class
  pub headers : List HeaderRule
  pub notices : List Notice

-- the body of a leaf acl
abbrev pub leaf_of : BodyPart → Body
leaf_of (part.Leaf l) = body.Leaf l
leaf_of p = body.AnyOf []

-- the predefined acls, which are all leaves
abbrev pub predefined_ones : List Acl
predefined_ones = map (λ a. record { name = a.name; body = leaf_of a.body }) predefined

-- an acl behind others; of type dst it is four
abbrev pub with_first : Body → List ℕ → List Acl → List Acl
with_first (body.Leaf (leaf.Dst values)) name acls = acls ++ looked_up (length acls) name values
with_first b name acls = acls ++ (record { name = name; body = b }) ∷ []

-- some acls, behind those before them
abbrev pub with_firsts : List Acl → List Acl → List Acl
with_firsts acls [] = acls
with_firsts acls (a ∷ more) = with_firsts (with_first a.body a.name acls) more

-- the acls that stand before the first line
abbrev pub first_acls : Bool → List Acl
first_acls lookup = if lookup then with_firsts (literal_acl ∷ []) predefined_ones
    else predefined_ones

-- the classes that do
abbrev pub first_classes : Option LookupSizes → List Class
first_classes None = []
first_classes (Some sizes) = lookup_class sizes ∷ []

-- what stands before the lines, where names are looked up or not
unfoldable pub begun : Option LookupSizes → Drafts
begun sizes = record {
  dst_lookup = is_some sizes;
  classes = first_classes sizes;
  acls = first_acls (is_some sizes);
  rules = [];
  counted = false;
  pools = [];
  initial = 50;
  port = None;
  program = None;
  children = None;
  headers = [];
  notices = [];
}

-- the type of a leaf acl
abbrev pub type_of_leaf : Leaf → AclType
type_of_leaf (leaf.Src values) = type.Src
type_of_leaf (leaf.Dst values) = type.Dst
type_of_leaf (leaf.DstDomain values) = type.DstDomain
type_of_leaf (leaf.Port values) = type.Port
type_of_leaf (leaf.Method values) = type.Method
type_of_leaf (leaf.Proto values) = type.Proto
type_of_leaf (leaf.Time values) = type.Time
type_of_leaf (leaf.UrlRegex values) = type.UrlRegex
type_of_leaf (leaf.MaxConn values) = type.MaxConn

-- the type of an acl
abbrev pub type_of_body : Body → AclType
type_of_body (body.Leaf l) = type_of_leaf l
type_of_body (body.External class arguments) = type.External
type_of_body (body.AnyOf terms) = type.AnyOf
type_of_body (body.AllOf lines) = type.AllOf

-- the values of both, which are of one type
abbrev pub joined_leaves : Leaf → Leaf → Leaf
joined_leaves (leaf.Src a) (leaf.Src b) = leaf.Src (a ++ b)
joined_leaves (leaf.Dst a) (leaf.Dst b) = leaf.Dst (a ++ b)
joined_leaves (leaf.DstDomain a) (leaf.DstDomain b) = leaf.DstDomain (a ++ b)
joined_leaves (leaf.Port a) (leaf.Port b) = leaf.Port (a ++ b)
joined_leaves (leaf.Method a) (leaf.Method b) = leaf.Method (a ++ b)
joined_leaves (leaf.Proto a) (leaf.Proto b) = leaf.Proto (a ++ b)
joined_leaves (leaf.Time a) (leaf.Time b) = leaf.Time (a ++ b)
joined_leaves (leaf.UrlRegex a) (leaf.UrlRegex b) = leaf.UrlRegex (a ++ b)
joined_leaves (leaf.MaxConn a) (leaf.MaxConn b) = leaf.MaxConn (a ++ b)
joined_leaves a b = a

-- an acl with further values
abbrev pub with_leaf : Leaf → Body → Body
with_leaf more (body.Leaf l) = body.Leaf (joined_leaves l more)
with_leaf more b = b

-- a term more in the last of some lines
abbrev pub in_last : Term → List (List Term) → List (List Term)
in_last t [] = (t ∷ []) ∷ []
in_last t (l ∷ []) = (l ++ t ∷ []) ∷ []
in_last t (l ∷ m ∷ lines) = l ∷ in_last t (m ∷ lines)

-- a group with a member more; of all-of, in its last line
abbrev pub with_member : Term → Body → Body
with_member t (body.AnyOf terms) = body.AnyOf (terms ++ t ∷ [])
with_member t (body.AllOf lines) = body.AllOf (in_last t lines)
with_member t b = b

-- a group to which a line of members is added: of all-of, one line more, that has no member yet
abbrev pub with_line : Body → Body
with_line (body.AllOf lines) = body.AllOf (lines ++ [] ∷ [])
with_line b = b

-- the acl at a place, changed
abbrev pub changed_acl : (Body → Body) → Option Acl → List Acl → ℕ → List Acl
changed_acl change None acls place = acls
changed_acl change (Some a) acls place = set acls place (record a { body = change a.body })

-- acls of which the one at a place is changed
abbrev pub change_body : ℕ → (Body → Body) → List Acl → List Acl
change_body place change acls = changed_acl change (slice_get acls place) acls place

-- the drafts with this acl changed
abbrev pub with_body : ℕ → (Body → Body) → Drafts → Drafts
with_body place change d = record d { acls = change_body place change d.acls }

-- the drafts with one acl more
abbrev pub with_acl_more : List ℕ → Body → Drafts → Drafts
with_acl_more name b d = record d { acls = d.acls ++ (record { name = name; body = b }) ∷ [] }

-- the drafts with the four acls of one of type dst
abbrev pub with_lookup : List ℕ → List Range → Drafts → Drafts
with_lookup name values d = record d { acls = d.acls ++ looked_up (length d.acls) name values }

-- each pattern of the leaf is one
abbrev pub are_patterns : Leaf → Bool
are_patterns (leaf.UrlRegex finds) = list_all is_pattern finds
are_patterns l = true

-- no term of the rule is slow
abbrev pub is_fast : List Bool → Rule → Bool
is_fast slow r = not (some_slow slow r.terms)

-- no rule of a pool or for a field asks a helper or reaches an acl that does, where these acls are
-- slow
abbrev pub are_fast_where : List Bool → List PoolDraft → List HeaderRule → Bool
are_fast_where slow pools headers = list_all (λ p. list_all (is_fast slow) p.lists) pools
    && list_all (λ h. is_fast slow h.rule) headers

-- whether pools and header rules name only acls that ask no helper
abbrev pub are_fast : List Acl → List PoolDraft → List HeaderRule → Bool
are_fast acls pools headers = are_fast_where (slow_ones acls) pools headers

-- a pool of which no line has said anything
abbrev pub no_pool : PoolDraft
no_pool = record { class = None; pairs = None; lists = [] }

-- the pools that `delay_pools` counts
abbrev pub with_pools : ℕ → Drafts → Drafts
with_pools count d = record d { counted = true; pools = replicate count no_pool }

-- the pools with one of them changed
abbrev pub changed_pool : (PoolDraft → PoolDraft) → Option PoolDraft → List PoolDraft → ℕ
    → List PoolDraft
changed_pool change None pools place = pools
changed_pool change (Some p) pools place = set pools place (change p)

-- the drafts with the pool at a place, from 0, changed
abbrev pub with_pool : ℕ → (PoolDraft → PoolDraft) → Drafts → Drafts
with_pool place change d = record d
    { pools = changed_pool change (slice_get d.pools place) d.pools place }

-- the pool at a place
abbrev pub pool_at : List PoolDraft → ℕ → PoolDraft
pool_at pools place = slice_index_or pools place no_pool

-- the pool has its class and its limits
abbrev pub is_complete : PoolDraft → Bool
is_complete p = is_some p.class && is_some p.pairs

-- every pool has
abbrev pub are_complete : List PoolDraft → Bool
are_complete pools = list_all is_complete pools

-- a pool that is complete
abbrev pub pool_of_draft : PoolDraft → Pool
pool_of_draft p = record {
  class = unwrap_or p.class 0;
  pairs = unwrap_or p.pairs [];
  lists = p.lists;
}

-- the class of the program that rewrites, without its program: the defaults of
-- `url_rewrite_children`
abbrev pub rewriter_class : Class
rewriter_class = record {
  name = codes "url rewrite";
  ttl = 3600;
  negative_ttl = 3600;
  grace = 0;
  cache = 262144;
  children_max = 20;
  startup = 0;
  concurrency = 0;
  queue_size = 40;
  format = [];
  words = [];
}

-- the class of the program that rewrites, where there is one
abbrev pub rewriter_of : Option (List (List ℕ)) → Option Class → Option Class
rewriter_of None children = None
rewriter_of (Some words) children = Some
    (record (unwrap_or children rewriter_class) { words = words })

-- the configuration that all lines of a text state
unfoldable pub finished : List ℕ → Drafts → Configuration
finished source d = record {
  source = source;
  dst_lookup = d.dst_lookup;
  classes = d.classes;
  acls = d.acls;
  rules = d.rules;
  pools = map pool_of_draft d.pools;
  initial = d.initial;
  port = unwrap_or d.port 3128;
  rewriter = rewriter_of d.program d.children;
  headers = d.headers;
  notices = d.notices;
}
