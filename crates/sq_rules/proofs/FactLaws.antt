-- The fact of the acl at a place.
use Rattle.std.proofs.Common.{◌≡◌, ℕ, List, length, false, refl, get_or, slice_get, Some}
use Rattle.std.proofs.lemmas.List.{get_or-map, length-map}
use Rattle.std.proofs.lemmas.Option.{get_or_from_slice_get, slice_get_within}
use Rattle.sq_rules.specs.Facts.{acl_fact, facts_of}
use Rattle.sq_rules.specs.declared.configs.Acl.{Acl}
use Rattle.sq_rules.specs.declared.sights.Sight.{Sight}

-- there is one fact for each acl
pub facts_count : (acls : List Acl) (s : Sight) → length (facts_of acls s) ≡ length acls
facts_count acls s = length-map acls (acl_fact s)

-- the fact at a place is that of the acl there
pub fact_at : (acls : List Acl) (s : Sight) (place : ℕ) (a : Acl) → slice_get acls place ≡ Some a
    → get_or (facts_of acls s) place false ≡ acl_fact s a
fact_at acls s place a here =
    rw (
      get_or-map (acl_fact s) acls place a false (slice_get_within acls place a here),
      get_or_from_slice_get acls place a a here,
    ) refl
