-- In the statement: docs/STATEMENT.md lists which definitions.
-- Numbers of a configuration: those of options, delay directives and http_port may have leading
-- zeros (configuration reference, `external_acl_type`, `delay_parameters`, `http_port`).
use Rattle.std.specs.Prelude.{ℕ, List, length, Bool, if◌then◌else◌, ◌&&◌, ◌||◌, nat_le, Some, None, is_some, codes, bytes_eq, Ok}
use Rattle.std.specs.Char.{is_ascii_digit}
use Rattle.std.specs.List.{list_all, list_any, before_first, after_first, after_last}
use Rattle.std.specs.declared.option.Option.{Option}
use Rattle.std.specs.declared.result.Result.{Result}
use Rattle.sq_base.specs.Addresses.{is_colon}
use Rattle.sq_base.specs.Decimals.{read_on}
use Rattle.sq_base.specs.Ranges.{is_slash}
use Rattle.sq_rules.specs.Limits.{delay_limit}
use Rattle.sq_rules.specs.Rates.{Limit}
use Rattle.sq_rules.specs.Steps.{needed}
use Rattle.sq_rules.specs.declared.kinds.Kind.{Kind}
use Rattle.sq_rules.specs.declared.kinds.Kind.TheVariants.{BadNumber}

-- one decimal digit or more
abbrev pub is_digits : List ℕ → Bool
is_digits w = nat_le 1 (length w) && list_all is_ascii_digit w

-- the number of decimal digits, where it is at most this
unfoldable pub digits_of : ℕ → List ℕ → Option ℕ
digits_of most w = if is_digits w && nat_le (read_on 0 w) most then Some (read_on 0 w) else None

-- a number from the least to the most
abbrev pub from_least : ℕ → Option ℕ → Option ℕ
from_least least None = None
from_least least (Some n) = if nat_le least n then Some n else None

-- the number that a word states, from the least to the most
unfoldable pub number_between : ℕ → ℕ → List ℕ → Result ℕ Kind
number_between least most w = needed BadNumber (from_least least (digits_of most w))

-- PORT of PORT or HOST:PORT: what stands behind the last `:`, or the whole word where none stands
unfoldable pub port_text : List ℕ → List ℕ
port_text w = after_last is_colon w

-- the word states a host: a `:` stands in it
unfoldable pub has_host : List ℕ → Bool
has_host w = list_any is_colon w

-- both numbers are there
abbrev pub both_rates : Option ℕ → Option ℕ → Option (Option Limit)
both_rates (Some r) (Some m) = Some (Some (record { restore = r; max = m }))
both_rates r m = None

-- what stands before and behind the `/` of a pair: `-1` before it is no limit
abbrev pub rate_of : List ℕ → List ℕ → Option (Option Limit)
rate_of r m =
    if bytes_eq r (codes "-1")
    then (if bytes_eq m (codes "-1") || is_some (digits_of delay_limit m) then Some None else None)
    else both_rates (digits_of delay_limit r) (digits_of delay_limit m)

-- a pair of `delay_parameters`: `none`, or RESTORE/MAX
unfoldable pub limit_pair_of : List ℕ → Result (Option Limit) Kind
limit_pair_of w =
    if bytes_eq w (codes "none") then Ok None
    else needed BadNumber (rate_of (before_first is_slash w) (after_first is_slash w))
