-- What holds of the drafts as each line leaves them (configuration reference, `acl`, `http_access`,
-- `external_acl_type`, `delay_pools`, `request_header_access`).
use Rattle.std.specs.Prelude.{◌≡◌, ℕ, suc, ◌*◌, ◌≤◌, List, Bool, true, false, ◌&&◌, length, nat_lt, Option, Some, None}
use Rattle.std.specs.List.{list_all}
use Rattle.sq_rules.specs.Changes.{all_patterns}
use Rattle.sq_rules.specs.Classes.{Class}
use Rattle.sq_rules.specs.Configurations.{are_known_bodies, has_buckets, is_fast_rule, is_header, is_known_rule, is_lower, is_pool_class, is_rewriter_class}
use Rattle.sq_rules.specs.Drafts.{Drafts, PoolDraft, are_fast_where}
use Rattle.sq_rules.specs.Limits.{acl_limit, header_limit, initial_limit, pool_limit, rule_limit}
use Rattle.sq_rules.specs.Lookups.{are_looked_up, classes_within, stated_acls}
use Rattle.sq_rules.specs.Rates.{Limit}
use Rattle.sq_rules.specs.declared.configs.Acl.{Acl}
use Rattle.sq_rules.specs.declared.headers.HeaderRule.{HeaderRule}

-- the class is one, and limits that stand are as many as it has
abbrev pub has_room_for : Option ℕ → Option (List (Option Limit)) → Bool
has_room_for None None = true
has_room_for None (Some pairs) = false
has_room_for (Some class) None = is_pool_class class
has_room_for (Some class) (Some pairs) = has_buckets class (length pairs)

-- a pool as far as it is stated, whose rules name acls that are there and are not slow
abbrev pub is_pool_draft : List Acl → PoolDraft → Bool
is_pool_draft acls p = has_room_for p.class p.pairs && list_all (is_fast_rule acls) p.lists

-- no rule of a pool or for a field is slow, where the acls that are slow are new or as before
abbrev pub stay_fast : Option (List Bool) → List PoolDraft → List HeaderRule → Bool
stay_fast None pools headers = true
stay_fast (Some slow) pools headers = are_fast_where slow pools headers

-- a program that rewrites has a word or more
abbrev pub has_words : Option (List (List ℕ)) → Bool
has_words None = true
has_words (Some words) = nat_lt 0 (length words)

-- the numbers of its processes are those of a class of its name
abbrev pub is_children : Option Class → Bool
is_children None = true
is_children (Some c) = is_rewriter_class c

-- what holds of drafts, beside names of their own and the nesting
pub record IsSound (d : Drafts) : Type 0 where
  pub members : are_known_bodies (length d.classes) 0 d.acls ≡ true
  pub patterns : all_patterns d.acls ≡ true
  pub places : list_all (is_known_rule (length d.acls)) d.rules ≡ true
  pub pools_are : list_all (is_pool_draft d.acls) d.pools ≡ true
  pub headers_are : list_all (is_header d.acls) d.headers ≡ true
  pub lower_headers : list_all is_lower d.headers ≡ true
  pub program_is : has_words d.program ≡ true
  pub children_are : is_children d.children ≡ true
  pub lookups_are : are_looked_up d.dst_lookup d.classes d.acls ≡ true
  pub few_classes : length d.classes ≤ classes_within d.dst_lookup
  pub few_acls : stated_acls d.dst_lookup d.acls ≤ acl_limit
  pub all_acls : length d.acls ≤ suc (4 * stated_acls d.dst_lookup d.acls)
  pub few_rules : length d.rules ≤ rule_limit
  pub few_pools : length d.pools ≤ pool_limit
  pub few_headers : length d.headers ≤ header_limit
  pub initial_is : d.initial ≤ initial_limit
