-- In the statement: docs/STATEMENT.md lists which definitions.
-- Classes of helpers (configuration reference, `external_acl_type`).
use Rattle.std.specs.Prelude.{◌≡◌, ℕ, suc, ◌≤◌, List, [], ◌∷◌, ◌++◌, length, Bool, true, false, not, if◌then◌else◌, ◌&&◌, ◌||◌, nat_le}
use Rattle.std.specs.List.{list_any}
use Rattle.sq_rules.specs.Limits.{cache_limit, children_limit, grace_limit, name_limit, queue_limit, seconds_limit, token_limit}
use Rattle.sq_rules.specs.declared.classes.Token.{Token}
use Rattle.sq_rules.specs.declared.classes.Token.TheVariants as token

-- a class: its name, its options, the format of its keys, and the words of its program
pub record Class : Type 0 where
  pub name : List ℕ
  pub ttl : ℕ
  pub negative_ttl : ℕ
  pub grace : ℕ
  pub cache : ℕ
  pub children_max : ℕ
  pub startup : ℕ
  pub concurrency : ℕ
  pub queue_size : ℕ
  pub format : List Token
  pub words : List (List ℕ)

-- the token of an acl's arguments
abbrev pub is_arguments : Token → Bool
is_arguments token.Arguments = true
is_arguments t = false

-- `%DATA` stands in each format: at its end, where none was written
abbrev pub with_arguments : List Token → List Token
with_arguments format = if list_any is_arguments format then format else format ++ token.Arguments
    ∷ []

-- that token stands at the end alone, where it may have been added
abbrev pub ends_in_arguments : List Token → Bool
ends_in_arguments [] = false
ends_in_arguments (t ∷ []) = is_arguments t
ends_in_arguments (t ∷ u ∷ format) = not (is_arguments t) && ends_in_arguments (u ∷ format)

-- the tokens that were written are few; one more may have been added
abbrev pub has_few_tokens : List Token → Bool
has_few_tokens format = nat_le (length format) token_limit
    || (nat_le (length format) (suc token_limit) && ends_in_arguments format)

-- each option lies in its range, the name is short, and the tokens are few
pub record IsClass (c : Class) : Type 0 where
  pub short_name : length c.name ≤ name_limit
  pub ttl_is : c.ttl ≤ seconds_limit
  pub negative_ttl_is : c.negative_ttl ≤ seconds_limit
  pub grace_is : c.grace ≤ grace_limit
  pub cache_is : c.cache ≤ cache_limit
  pub some_children : 1 ≤ c.children_max
  pub few_children : c.children_max ≤ children_limit
  pub startup_is : c.startup ≤ children_limit
  pub concurrency_is : c.concurrency ≤ children_limit
  pub queue_size_is : c.queue_size ≤ queue_limit
  pub few_tokens : has_few_tokens c.format ≡ true
