-- Which acls have patterns (configuration reference, `acl`, type url_regex).
use Rattle.std.specs.Prelude.{Bool, true, false, not}
use Rattle.sq_rules.specs.declared.configs.Acl.{Acl}
use Rattle.sq_rules.specs.declared.configs.Body.{Body}
use Rattle.sq_rules.specs.declared.configs.Body.TheVariants as body
use Rattle.sq_rules.specs.declared.leaves.Leaf.{Leaf}
use Rattle.sq_rules.specs.declared.leaves.Leaf.TheVariants as leaf

-- a leaf whose values are no patterns
abbrev pub is_plain_leaf : Leaf → Bool
is_plain_leaf (leaf.UrlRegex finds) = false
is_plain_leaf l = true

-- a leaf whose values are patterns
abbrev pub body_has_patterns : Body → Bool
body_has_patterns (body.Leaf l) = not (is_plain_leaf l)
body_has_patterns b = false

-- an acl whose values are patterns
abbrev pub acl_has_patterns : Acl → Bool
acl_has_patterns a = body_has_patterns a.body
