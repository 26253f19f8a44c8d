-- In the statement: docs/STATEMENT.md lists which definitions.
-- The acls that stand before the first line of a configuration (configuration reference, `acl`).
use Rattle.std.specs.Prelude.{ℕ, ◌*◌, ◌^◌, List, [], ◌∷◌, true, false, codes}
use Rattle.sq_base.specs.Addresses.{v4, v6}
use Rattle.sq_base.specs.Ranges.{all_addresses, block, single}
use Rattle.sq_rules.specs.declared.leaves.Leaf.{Leaf}
use Rattle.sq_rules.specs.declared.leaves.Leaf.TheVariants as leaf
use Rattle.sq_rules.specs.declared.parts.AclPart.{AclPart}
use Rattle.sq_rules.specs.declared.parts.BodyPart.TheVariants as part

-- an acl of values
abbrev pub leaf_part : List ℕ → Leaf → AclPart
leaf_part name l = record { name = name; body = part.Leaf l }

-- src all
abbrev pub all_part : AclPart
all_part = leaf_part (codes "all") (leaf.Src (all_addresses ∷ []))

-- src 127.0.0.1/32 ::1
abbrev pub localhost_part : AclPart
localhost_part = leaf_part (codes "localhost")
    (leaf.Src (single (v4 2130706433) ∷ single (v6 1) ∷ []))

-- method CONNECT
abbrev pub connect_part : AclPart
connect_part = leaf_part (codes "CONNECT") (leaf.Method (codes "CONNECT" ∷ []))

-- url_regex -i ^cache_object:// +i ^[^:]+://[^/]+/squid-internal-mgr/
abbrev pub manager_part : AclPart
manager_part =
    leaf_part (codes "manager") (leaf.UrlRegex (
    (record { pattern = codes "^cache_object://"; fold = true })
    ∷ (record { pattern = codes "^[^:]+://[^/]+/squid-internal-mgr/"; fold = false })
    ∷ []
    ))

-- dst 127.0.0.0/8 0.0.0.0/32 ::1 ::
abbrev pub to_localhost_part : AclPart
to_localhost_part =
    leaf_part (codes "to_localhost")
    (leaf.Dst (block (2 ^ 24) (v4 2130706432) ∷ single (v4 0) ∷ single (v6 1) ∷ single (v6 0) ∷ []))

-- dst 169.254.0.0/16 fe80::/10
abbrev pub to_linklocal_part : AclPart
to_linklocal_part = leaf_part (codes "to_linklocal")
    (leaf.Dst (block (2 ^ 16) (v4 2851995648) ∷ block (2 ^ 118) (v6 (65152 * 2 ^ 112)) ∷ []))

-- all of them, in their order
abbrev pub predefined : List AclPart
predefined = all_part ∷ localhost_part ∷ connect_part ∷ manager_part ∷ to_localhost_part
    ∷ to_linklocal_part ∷ []
