-- In the statement: docs/STATEMENT.md lists which definitions.
-- Lines `request_header_access NAME allow|deny TERM ...` and `reply_header_access` (configuration
-- reference, `request_header_access`, `reply_header_access`).
use Rattle.std.specs.Prelude.{ℕ, List, [], ◌∷◌, ◌++◌, length, Bool, not, ◌&&◌, nat_lt, Ok, codes}
use Rattle.std.specs.Str.{str_eq_ignore_ascii_case, str_to_ascii_lowercase}
use Rattle.std.specs.declared.result.Result.{Result}
use Rattle.sq_base.specs.Results.{◌>>=◌}
use Rattle.sq_rules.specs.AclLines.{action}
use Rattle.sq_rules.specs.AclValues.{is_token}
use Rattle.sq_rules.specs.Drafts.{Drafts}
use Rattle.sq_rules.specs.Limits.{header_limit}
use Rattle.sq_rules.specs.PoolLines.{fast_term}
use Rattle.sq_rules.specs.Steps.{WordList, unless, word, some_of}
use Rattle.sq_rules.specs.declared.kinds.Kind.{Kind}
use Rattle.sq_rules.specs.declared.kinds.Kind.TheVariants.{BadValue, TooMany}
use Rattle.sq_rules.specs.declared.configs.Rule.{Rule}

-- the name of a field, or `All`; `Other`, which stands for fields that Squid does not know, is
-- refused
abbrev pub is_field_name : List ℕ → Bool
is_field_name w = is_token w && not (str_eq_ignore_ascii_case w (codes "other"))

-- the name in lower case
unfoldable pub header_name : List ℕ → Result (List ℕ) Kind
header_name w = unless (is_field_name w) BadValue (Ok (str_to_ascii_lowercase w))

-- one more rule of a header's field
abbrev pub with_header : Bool → List ℕ → Rule → Drafts → Drafts
with_header reply name r d = record d
    { headers = d.headers ++ (record { reply = reply; name = name; rule = r }) ∷ [] }

-- NAME allow|deny TERM ..., for requests or replies; their terms ask no helper
unfoldable pub header_line : Bool → Drafts → WordList → Result Drafts Kind
header_line reply d ws = do
  first ← word ws
  name ← header_name first.0
  second ← word first.1
  allow ← action second.0
  terms ← unless (nat_lt (length d.headers) header_limit) TooMany
      (some_of (fast_term d.acls) second.1)
  Ok (with_header reply name (record { allow = allow; terms = terms }) d)
