-- In the statement: docs/STATEMENT.md lists which definitions.
-- The configuration that parts state, or their first fault: the parts in their order, and in each
-- its names from left to right; that an acl nests too deep comes after the names in it
-- (configuration reference, `acl`, `http_access`, `external_acl_type`, `delay_access`,
-- `request_header_access`, `reply_header_access`).
use Rattle.std.specs.Prelude.{◌≡◌, ◌≢◌, ℕ, ◌≤◌, List, [], ◌∷◌, ◌++◌, length, suc, Bool, false, true, if◌then◌else◌, nat_le, Some, None, Ok, Err, MatchResult, slice_index_or}
use Rattle.std.specs.Str.{str_to_ascii_lowercase}
use Rattle.std.specs.declared.option.Option.{Option}
use Rattle.std.specs.declared.result.Result.{Result}
use Rattle.sq_base.specs.Results.{◌>>=◌}
use Rattle.sq_rules.specs.Classes.{Class, with_arguments}
use Rattle.sq_rules.specs.Configurations.{Configuration, has_buckets, has_class, has_name, is_rewriter, nesting_of, nestings, place_from, slow_ones}
use Rattle.sq_rules.specs.Limits.{acl_limit, header_limit, initial_limit, most_acls, nesting_limit, pool_limit, rule_limit, text_limit}
use Rattle.sq_rules.specs.Lookups.{are_looked_up, classes_within, stated_of}
use Rattle.sq_rules.specs.declared.configs.Acl.{Acl}
use Rattle.sq_rules.specs.declared.configs.Body.{Body}
use Rattle.sq_rules.specs.declared.configs.Body.TheVariants as body
use Rattle.sq_rules.specs.declared.configs.Rule.{Rule}
use Rattle.sq_rules.specs.declared.configs.Term.{Term}
use Rattle.sq_rules.specs.declared.headers.HeaderRule.{HeaderRule}
use Rattle.sq_rules.specs.declared.parts.AclPart.{AclPart}
use Rattle.sq_rules.specs.declared.parts.BodyPart.{BodyPart}
use Rattle.sq_rules.specs.declared.parts.BodyPart.TheVariants as part
use Rattle.sq_rules.specs.declared.parts.BuildFault.{BuildFault}
use Rattle.sq_rules.specs.declared.parts.BuildFault.TheVariants as fault
use Rattle.sq_rules.specs.declared.parts.HeaderPart.{HeaderPart}
use Rattle.sq_rules.specs.declared.parts.Parts.{Parts}
use Rattle.sq_rules.specs.declared.parts.PoolPart.{PoolPart}
use Rattle.sq_rules.specs.declared.parts.RulePart.{RulePart}
use Rattle.sq_rules.specs.declared.parts.TermPart.{TermPart}
use Rattle.sq_rules.specs.declared.pools.Pool.{Pool}

-- what a call answered is what was made, unless memory ran out
abbrev pub IsMade : {A : Type 0} → Result A BuildFault → Result A BuildFault → Type 0
IsMade result made = MatchResult result (λ x. made ≡ Ok x)
    (λ e. e ≢ fault.WantOfMemory → made ≡ Err e)

-- what is made of each of some parts, or the fault of the first that has one
abbrev pub each_made : {A B : Type 0} → (A → Result B BuildFault) → List A
    → Result (List B) BuildFault
each_made make [] = Ok []
each_made make (x ∷ xs) = make x >>= λ y. each_made make xs >>= λ ys. Ok (y ∷ ys)

-- the place of the acl with this name
abbrev pub place_of : List Acl → List ℕ → Option ℕ
place_of acls name = place_from (λ a. a.name) 0 acls name

-- the place of the class with this name
abbrev pub class_place : List Class → List ℕ → Option ℕ
class_place classes name = place_from (λ c. c.name) 0 classes name

abbrev pub term_at : TermPart → Option ℕ → Result Term BuildFault
term_at t None = Err (fault.UndefinedAcl t.acl)
term_at t (Some place) = Ok (record { acl = place; negated = t.negated })

-- a term names one of these acls
abbrev pub term_made : List Acl → TermPart → Result Term BuildFault
term_made acls t = term_at t (place_of acls t.acl)

abbrev pub terms_made : List Acl → List TermPart → Result (List Term) BuildFault
terms_made acls terms = each_made (term_made acls) terms

abbrev pub external_at : List ℕ → List (List ℕ) → Option ℕ → Result Body BuildFault
external_at class arguments None = Err (fault.UndefinedClass class)
external_at class arguments (Some place) = Ok (body.External place arguments)

-- what an acl is, over these classes and the acls before it
abbrev pub body_made : List Class → List Acl → BodyPart → Result Body BuildFault
body_made classes acls (part.Leaf l) = Ok (body.Leaf l)
body_made classes acls (part.External class arguments) = external_at class arguments
    (class_place classes class)
body_made classes acls (part.AnyOf terms) = terms_made acls terms >>= λ made. Ok (body.AnyOf made)
body_made classes acls (part.AllOf lines) = each_made (terms_made acls) lines >>= λ made. Ok
    (body.AllOf made)

-- one acl more, where it doesn't nest too deep
abbrev pub with_acl : List Acl → List ℕ → Body → Result (List Acl) BuildFault
with_acl acls name b =
    if nat_le (nesting_of (nestings acls) b) nesting_limit then Ok
    (acls ++ (record { name = name; body = b }) ∷ []) else Err (fault.TooDeep name)

-- the next acl has a name of its own
abbrev pub next_acl : List Class → List Acl → AclPart → Result (List Acl) BuildFault
next_acl classes acls a =
    if has_name acls a.name then Err (fault.Duplicate a.name)
    else (body_made classes acls a.body >>= with_acl acls a.name)

-- some acls, behind those before them
abbrev pub acls_made : List Class → List Acl → List AclPart → Result (List Acl) BuildFault
acls_made classes acls [] = Ok acls
acls_made classes acls (a ∷ parts) = next_acl classes acls a >>= λ more. acls_made classes more
    parts

-- the acls, where each of type dst stands with its look-up if names are looked up. The fault names
-- none of them, since what lacks may be the class or `dst literal`; it comes behind the faults of
-- all classes and acls, and before those of rules
abbrev pub unless_looked_up : Bool → List Class → List Acl → Result (List Acl) BuildFault
unless_looked_up lookup classes acls = if are_looked_up lookup classes acls then Ok acls
    else Err fault.NoLookup

-- the class with `%DATA` in its format
abbrev pub completed : Class → Class
completed c = record c { format = with_arguments c.format }

-- the next class has a name of its own
abbrev pub next_class : List Class → Class → Result (List Class) BuildFault
next_class classes c = if has_class classes c.name then Err (fault.Duplicate c.name)
    else Ok (classes ++ completed c ∷ [])

-- some classes, behind those before them
abbrev pub classes_made : List Class → List Class → Result (List Class) BuildFault
classes_made classes [] = Ok classes
classes_made classes (c ∷ parts) = next_class classes c >>= λ more. classes_made more parts

abbrev pub rule_made : List Acl → RulePart → Result Rule BuildFault
rule_made acls r = terms_made acls r.terms >>= λ made. Ok (record { allow = r.allow; terms = made })

-- the term of a pool's rule names no slow acl
abbrev pub unless_slow : List Acl → TermPart → Term → Result Term BuildFault
unless_slow acls t made = if slice_index_or (slow_ones acls) made.acl false then Err
    (fault.SlowInFastList t.acl) else Ok made

abbrev pub fast_term_made : List Acl → TermPart → Result Term BuildFault
fast_term_made acls t = term_made acls t >>= unless_slow acls t

abbrev pub fast_rule_made : List Acl → RulePart → Result Rule BuildFault
fast_rule_made acls r = each_made (fast_term_made acls) r.terms >>= λ made. Ok
    (record { allow = r.allow; terms = made })

-- the pool at a place has its class and limits, and fast rules
abbrev pub pool_made : List Acl → ℕ → PoolPart → Result Pool BuildFault
pool_made acls place p =
    if has_buckets p.class (length p.pairs)
    then (each_made (fast_rule_made acls) p.lists >>= λ made. Ok
    (record { class = p.class; pairs = p.pairs; lists = made }))
    else Err (fault.PoolIncomplete place)

-- the pools, the first of which stands at this place
abbrev pub pools_made : List Acl → ℕ → List PoolPart → Result (List Pool) BuildFault
pools_made acls place [] = Ok []
pools_made acls place (p ∷ parts) = pool_made acls place p >>= λ made. pools_made acls (suc place)
    parts >>= λ others. Ok (made ∷ others)

-- a rule for a field is fast; the field's name is kept in lower case
abbrev pub header_made : List Acl → HeaderPart → Result HeaderRule BuildFault
header_made acls h = fast_rule_made acls h.rule >>= λ made. Ok
    (record { reply = h.reply; name = str_to_ascii_lowercase h.name; rule = made })

-- the configuration that the parts state, or their first fault
unfoldable pub built : Parts → Result Configuration BuildFault
built p = do
  classes ← classes_made [] p.classes
  acls ← acls_made classes [] p.acls >>= unless_looked_up p.dst_lookup classes
  rules ← each_made (rule_made acls) p.rules
  pools ← pools_made acls 0 p.pools
  headers ← each_made (header_made acls) p.headers
  Ok (record {
    source = p.source;
    dst_lookup = p.dst_lookup;
    classes = classes;
    acls = acls;
    rules = rules;
    pools = pools;
    initial = p.initial;
    port = p.port;
    rewriter = p.rewriter;
    headers = headers;
    notices = p.notices;
  })

-- the numbers and lengths of the parts lie within their limits; what is made for look-ups does not
-- count where names are looked up. The class that rewrites, where there is one, has its name and a
-- program
pub record AreWithin (p : Parts) : Type 0 where
  pub short : length p.source ≤ text_limit
  pub few_classes : length p.classes ≤ classes_within p.dst_lookup
  pub few_acls : stated_of p.dst_lookup (λ a. a.name) p.acls ≤ acl_limit
  pub all_acls : length p.acls ≤ most_acls
  pub few_rules : length p.rules ≤ rule_limit
  pub few_pools : length p.pools ≤ pool_limit
  pub few_headers : length p.headers ≤ header_limit
  pub rewriter_is : is_rewriter p.rewriter ≡ true
  pub initial_is : p.initial ≤ initial_limit
