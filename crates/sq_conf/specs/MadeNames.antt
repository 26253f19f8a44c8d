-- Names of what is made for acls of type `dst` where names are looked up.
use Rattle.std.specs.Prelude.{ℕ, List, Bool, not, ◌||◌, bytes_eq, codes, map}
use Rattle.std.specs.List.{list_all, list_any}
use Rattle.sq_rules.specs.Lookups.{has_blank, literal_name, lookup_name, named_name}
use Rattle.sq_rules.specs.declared.configs.Acl.{Acl}

abbrev pub names_of : List Acl → List (List ℕ)
names_of acls = map (λ a. a.name) acls

-- the first name is that of what is made for an acl of the second
abbrev pub is_made_for : List ℕ → List ℕ → Bool
is_made_for made name = bytes_eq made (literal_name name)
    || (bytes_eq made (lookup_name name) || bytes_eq made (named_name name))

-- or of one of these names
abbrev pub is_made : List (List ℕ) → List ℕ → Bool
is_made names made = list_any (is_made_for made) names

-- a name that holds a blank is `dst literal`, or that of what is made for an acl of one of these
abbrev pub is_explained : List (List ℕ) → List ℕ → Bool
is_explained names name = not (has_blank name)
    || (bytes_eq name (codes "dst literal") || is_made names name)

abbrev pub are_explained : List (List ℕ) → Bool
are_explained names = list_all (is_explained names) names
