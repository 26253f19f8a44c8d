-- What stands before the lines.
use Rattle.std.proofs.Common.{◌≡◌, ℕ, ◌+◌, ◌≤◌, suc, List, [], ◌∷◌, ◌++◌, length, Bool, true, false, ◌*◌, append_assoc, append-nil, refl, sym, ap, subst, ◌∙◌, arith, Option, Some, None, if◌then◌else◌, is_some}
use Rattle.std.proofs.lemmas.List.{length-append}
use Rattle.std.specs.Str.{bytes_eq}
use Rattle.sq_base.specs.declared.addresses.Range.{Range}
use Rattle.sq_rules.proofs.LookupLaws.{literal_push}
use Rattle.sq_rules.proofs.NameLaws.{own_free}
use Rattle.sq_rules.proofs.PredefinedTexts.{cache_objects, managers}
use Rattle.sq_rules.specs.Building.{place_of}
use Rattle.sq_rules.specs.Changes.{all_patterns}
use Rattle.sq_rules.specs.Configurations.{are_known_bodies, have_own_names, place_from}
use Rattle.sq_rules.specs.Limits.{acl_limit, most_acls}
use Rattle.sq_rules.specs.Drafts.{first_acls, first_classes, with_first, with_firsts}
use Rattle.sq_rules.specs.Lookups.{are_looked_up, asking_acl, begins_literal, classes_within, either_acl, is_dst, literal_name, looked_up, lookup_name, named_acl, named_name, stated_acls, values_acl, LookupSizes}
use Rattle.sq_rules.specs.declared.configs.Acl.{Acl}
use Rattle.sq_rules.specs.declared.configs.Body.{Body}
use Rattle.sq_rules.specs.declared.configs.Body.TheVariants as body
use Rattle.sq_rules.specs.declared.leaves.Leaf.TheVariants as leaf

abbrev named : Acl → List ℕ
named a = a.name

-- what stands in front of a list is free of a name that the whole is
front_by : (b : Bool) (n : ℕ) (rest front : Option ℕ) → (rest ≡ None → front ≡ None)
    → (if b then Some n else rest) ≡ None → (if b then Some n else front) ≡ None
front_by true n rest front so e = cc
front_by false n rest front so e = so e

free_front : (n : ℕ) (xs ys : List Acl) (q : List ℕ) → place_from named n (xs ++ ys) q ≡ None
    → place_from named n xs q ≡ None
free_front n [] ys q none = refl
free_front n (x ∷ xs) ys q none = front_by (bytes_eq x.name q) n (place_from named (suc n) (xs ++ ys) q)
    (place_from named (suc n) xs q) (free_front (suc n) xs ys q) none

-- of names of their own, none that comes stands in front
pub own_front : (acls before after : List Acl) (x : Acl) → have_own_names named (acls ++ (before ++ x ∷ after)) ≡ true
    → place_of acls x.name ≡ None
own_front acls before after x own =
    free_front 0 acls before x.name
    (own_free named 0 (acls ++ before) after x
    (subst (λ l. have_own_names named l ≡ true) (sym (append_assoc acls before (x ∷ after))) own))

-- what begins holds of what stands before the lines
pub begun_members : (sizes : Option LookupSizes)
    → are_known_bodies (length (first_classes sizes)) 0 (first_acls (is_some sizes)) ≡ true
begun_members (Some sizes) = refl
begun_members None = refl

pub begun_patterns : (lookup : Bool) → all_patterns (first_acls lookup) ≡ true
begun_patterns true = rw (cache_objects, managers) refl
begun_patterns false = rw (cache_objects, managers) refl

pub begun_looked : (sizes : Option LookupSizes)
    → are_looked_up (is_some sizes) (first_classes sizes) (first_acls (is_some sizes)) ≡ true
begun_looked (Some sizes) = refl
begun_looked None = refl

pub begun_classes : (sizes : Option LookupSizes) → length (first_classes sizes) ≤ classes_within (is_some sizes)
begun_classes (Some sizes) = omega arith
begun_classes None = omega arith

pub begun_stated : (lookup : Bool) → stated_acls lookup (first_acls lookup) ≤ acl_limit
begun_stated true = omega arith
begun_stated false = omega arith

pub begun_acls : (lookup : Bool) → length (first_acls lookup) ≤ suc (4 * stated_acls lookup (first_acls lookup))
begun_acls true = omega arith
begun_acls false = omega arith

-- what comes stands behind what is there
first_ends : (b : Body) (name : List ℕ) (acls : List Acl) → (ends : List Acl) × (with_first b name acls ≡ acls ++ ends)
first_ends (body.Leaf (leaf.Src v)) name acls = ((record { name = name; body = body.Leaf (leaf.Src v) }) ∷ [], refl)
first_ends (body.Leaf (leaf.Dst v)) name acls = (looked_up (length acls) name v, refl)
first_ends (body.Leaf (leaf.DstDomain v)) name acls = (
  (record { name = name; body = body.Leaf (leaf.DstDomain v) })
      ∷ [],
  refl,
)
first_ends (body.Leaf (leaf.Port v)) name acls = ((record { name = name; body = body.Leaf (leaf.Port v) }) ∷ [], refl)
first_ends (body.Leaf (leaf.Method v)) name acls = (
  (record { name = name; body = body.Leaf (leaf.Method v) }) ∷ [],
  refl,
)
first_ends (body.Leaf (leaf.Proto v)) name acls = ((record { name = name; body = body.Leaf (leaf.Proto v) }) ∷ [], refl)
first_ends (body.Leaf (leaf.Time v)) name acls = ((record { name = name; body = body.Leaf (leaf.Time v) }) ∷ [], refl)
first_ends (body.Leaf (leaf.UrlRegex v)) name acls = (
  (record { name = name; body = body.Leaf (leaf.UrlRegex v) }) ∷ [],
  refl,
)
first_ends (body.Leaf (leaf.MaxConn v)) name acls = (
  (record { name = name; body = body.Leaf (leaf.MaxConn v) }) ∷ [],
  refl,
)
first_ends (body.External class arguments) name acls = (
  (record { name = name; body = body.External class arguments })
      ∷ [],
  refl,
)
first_ends (body.AnyOf terms) name acls = ((record { name = name; body = body.AnyOf terms }) ∷ [], refl)
first_ends (body.AllOf lines) name acls = ((record { name = name; body = body.AllOf lines }) ∷ [], refl)

pub grows : (acls more : List Acl) → (ends : List Acl) × (with_firsts acls more ≡ acls ++ ends)
grows acls [] = ([], sym (append-nil acls))
grows acls (a ∷ more) =
    let one = first_ends a.body a.name acls in
    let rest = grows (with_first a.body a.name acls) more in
    (one.0 ++ rest.0, rest.1 ∙ ap (λ l. l ++ rest.0) one.1 ∙ append_assoc acls one.0 rest.0)

-- few stand before the lines
pub grown_few : (acls more : List Acl) → with_firsts acls more ≡ first_acls true → length acls + 4 ≤ most_acls
grown_few acls more is =
    let g = grows acls more in
    let all : length (acls ++ g.0) ≡ 13 = ap length (sym g.1 ∙ is) in
    omega (arith, all, length-append acls g.0)

-- where an acl of type dst comes, the names that are made for it are free
pub grown_own : (acls more : List Acl) (name : List ℕ) (values : List Range)
    → with_firsts (acls ++ looked_up (length acls) name values) more ≡ first_acls true
    → (place_of acls (literal_name name) ≡ None) × (place_of acls (lookup_name name) ≡ None)
    × (place_of acls (named_name name) ≡ None) × (place_of acls name ≡ None)
grown_own acls more name values is =
    let g = grows (acls ++ looked_up (length acls) name values) more in
    let whole : acls ++ (looked_up (length acls) name values ++ g.0) ≡ first_acls true =
    sym (append_assoc acls (looked_up (length acls) name values) g.0) ∙ sym g.1 ∙ is in
    let own : have_own_names named (acls ++ (looked_up (length acls) name values ++ g.0)) ≡ true =
    ap (have_own_names named) whole in
    let a = values_acl name values in
    let b = asking_acl name in
    let c = named_acl (length acls) name in
    let e = either_acl (length acls) name in (
      own_front acls [] (b ∷ c ∷ e ∷ g.0) a own,
      own_front acls (a ∷ []) (c ∷ e ∷ g.0) b own,
      own_front acls (a ∷ b ∷ []) (e ∷ g.0) c own,
      own_front acls (a ∷ b ∷ c ∷ []) g.0 e own,
    )

-- where another one comes, its name is free
pub grown_free : (acls more : List Acl) (a : Acl) → with_firsts (acls ++ a ∷ []) more ≡ first_acls true
    → place_of acls a.name ≡ None
grown_free acls more a is =
    let g = grows (acls ++ a ∷ []) more in
    let whole : acls ++ (a ∷ g.0) ≡ first_acls true = sym (append_assoc acls (a ∷ []) g.0) ∙ sym g.1 ∙ is in
    own_front acls [] g.0 a (ap (have_own_names named) whole)

-- what comes behind others, where all come to what stands before the lines
pub next_few : (b : Body) (name : List ℕ) (acls more : List Acl)
    → with_firsts acls ((record { name = name; body = b }) ∷ more) ≡ first_acls true → length acls + 4 ≤ most_acls
next_few b name acls more is = grown_few acls ((record { name = name; body = b }) ∷ more) is

-- its name is free
pub next_free : (b : Body) (name : List ℕ) (acls more : List Acl)
    → with_firsts (with_first b name acls) more ≡ first_acls true → place_of acls name ≡ None
next_free (body.Leaf (leaf.Src v)) name acls more is = grown_free acls more
    (record { name = name; body = body.Leaf (leaf.Src v) }) is
next_free (body.Leaf (leaf.Dst v)) name acls more is = (grown_own acls more name v is).3
next_free (body.Leaf (leaf.DstDomain v)) name acls more is =
    grown_free acls more (record { name = name; body = body.Leaf (leaf.DstDomain v) }) is
next_free (body.Leaf (leaf.Port v)) name acls more is = grown_free acls more
    (record { name = name; body = body.Leaf (leaf.Port v) }) is
next_free (body.Leaf (leaf.Method v)) name acls more is = grown_free acls more
    (record { name = name; body = body.Leaf (leaf.Method v) }) is
next_free (body.Leaf (leaf.Proto v)) name acls more is = grown_free acls more
    (record { name = name; body = body.Leaf (leaf.Proto v) }) is
next_free (body.Leaf (leaf.Time v)) name acls more is = grown_free acls more
    (record { name = name; body = body.Leaf (leaf.Time v) }) is
next_free (body.Leaf (leaf.UrlRegex v)) name acls more is =
    grown_free acls more (record { name = name; body = body.Leaf (leaf.UrlRegex v) }) is
next_free (body.Leaf (leaf.MaxConn v)) name acls more is = grown_free acls more
    (record { name = name; body = body.Leaf (leaf.MaxConn v) }) is
next_free (body.External class arguments) name acls more is =
    grown_free acls more (record { name = name; body = body.External class arguments }) is
next_free (body.AnyOf terms) name acls more is = grown_free acls more
    (record { name = name; body = body.AnyOf terms }) is
next_free (body.AllOf lines) name acls more is = grown_free acls more
    (record { name = name; body = body.AllOf lines }) is

-- the names that are made for an acl of type dst are free
pub record AreFree (acls : List Acl) (name : List ℕ) : Type 0 where
  pub literal : place_of acls (literal_name name) ≡ None
  pub lookup : place_of acls (lookup_name name) ≡ None
  pub named : place_of acls (named_name name) ≡ None

pub next_made : (b : Body) (name : List ℕ) (acls more : List Acl)
    → with_firsts (with_first b name acls) more ≡ first_acls true → is_dst b ≡ true → AreFree acls name
next_made (body.Leaf (leaf.Src v)) name acls more is dst = absurd (cc)
next_made (body.Leaf (leaf.Dst v)) name acls more is dst = let own = grown_own acls more name v is in
    record { literal = own.0; lookup = own.1; named = own.2 }
next_made (body.Leaf (leaf.DstDomain v)) name acls more is dst = absurd (cc)
next_made (body.Leaf (leaf.Port v)) name acls more is dst = absurd (cc)
next_made (body.Leaf (leaf.Method v)) name acls more is dst = absurd (cc)
next_made (body.Leaf (leaf.Proto v)) name acls more is dst = absurd (cc)
next_made (body.Leaf (leaf.Time v)) name acls more is dst = absurd (cc)
next_made (body.Leaf (leaf.UrlRegex v)) name acls more is dst = absurd (cc)
next_made (body.Leaf (leaf.MaxConn v)) name acls more is dst = absurd (cc)
next_made (body.External class arguments) name acls more is dst = absurd (cc)
next_made (body.AnyOf terms) name acls more is dst = absurd (cc)
next_made (body.AllOf lines) name acls more is dst = absurd (cc)

-- `dst literal` stays first
pub next_begins : (b : Body) (name : List ℕ) (acls : List Acl) → begins_literal acls ≡ true
    → begins_literal (with_first b name acls) ≡ true
next_begins b name acls is =
    let ends = first_ends b name acls in
    rw ends.1 (literal_push acls ends.0 is)
