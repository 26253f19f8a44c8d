-- In the statement: docs/STATEMENT.md lists which definitions.
-- Lines of delay pools, and `http_port` (configuration reference, `delay_pools`, `delay_class`,
-- `delay_access`, `delay_parameters`, `delay_initial_bucket_level`, `http_port`).
use Rattle.std.specs.Prelude.{ℕ, ◌-◌, List, [], ◌∷◌, ◌++◌, length, Bool, true, false, not, ◌&&◌, ◌==◌, nat_lt, nat_le, Some, None, Ok, Err, is_none, codes, slice_index_or}
use Rattle.std.specs.declared.option.Option.{Option}
use Rattle.std.specs.declared.result.Result.{Result}
use Rattle.sq_base.specs.Decimals.{port_limit}
use Rattle.sq_base.specs.NameTables.{is_among}
use Rattle.sq_base.specs.Results.{◌>>=◌}
use Rattle.sq_rules.specs.AclLines.{action, known_term}
use Rattle.sq_rules.specs.ClassLines.{with_notice_if}
use Rattle.sq_rules.specs.ConfNumbers.{digits_of, is_digits, number_between, limit_pair_of, port_text, has_host}
use Rattle.sq_rules.specs.Configurations.{is_pool_class, pairs_of, slow_ones}
use Rattle.sq_rules.specs.Drafts.{Drafts, PoolDraft, pool_at, with_pool, with_pools}
use Rattle.sq_rules.specs.Limits.{initial_limit, pool_limit}
use Rattle.sq_rules.specs.Rates.{Limit}
use Rattle.sq_rules.specs.Steps.{WordList, unless, needed, word, no_more, over, some_of}
use Rattle.sq_rules.specs.declared.configs.Acl.{Acl}
use Rattle.sq_rules.specs.declared.configs.Rule.{Rule}
use Rattle.sq_rules.specs.declared.configs.Term.{Term}
use Rattle.sq_rules.specs.declared.kinds.Kind.{Kind}
use Rattle.sq_rules.specs.declared.kinds.Kind.TheVariants.{BadNumber, BadValue, MissingWord, PoolOutOfRange, SlowInFastList, TooMany}

-- how many pools there are
unfoldable pub pool_number : List ℕ → Result ℕ Kind
pool_number w = unless (is_digits w) BadNumber (needed TooMany (digits_of pool_limit w))

-- delay_pools N
unfoldable pub pools_line : Drafts → WordList → Result Drafts Kind
pools_line d ws = do
  first ← word ws
  count ← pool_number first.0
  unless (not d.counted) BadValue (no_more first.1 (with_pools count d))

-- the place of a pool, which is counted from 0, by its number, which is counted from 1
abbrev pub place_in : ℕ → Option ℕ → Result ℕ Kind
place_in count None = Err PoolOutOfRange
place_in count (Some n) = unless (nat_le 1 n && nat_le n count) PoolOutOfRange (Ok (n - 1))

-- POOL: the number of one of so many
unfoldable pub pool_place : ℕ → List ℕ → Result ℕ Kind
pool_place count w = unless (is_digits w) BadNumber (place_in count (digits_of pool_limit w))

-- a pool with its class
abbrev pub with_pool_class : ℕ → PoolDraft → PoolDraft
with_pool_class class p = record p { class = Some class }

-- the class of a pool
unfoldable pub pool_class : List ℕ → Result ℕ Kind
pool_class w = number_between 1 5 w >>= λ class. unless (is_pool_class class) BadNumber (Ok class)

-- delay_class POOL CLASS
unfoldable pub pool_class_line : Drafts → WordList → Result Drafts Kind
pool_class_line d ws = do
  first ← word ws
  place ← pool_place (length d.pools) first.0
  second ← unless (is_none (pool_at d.pools place).class) BadValue (word first.1)
  class ← pool_class second.0
  no_more second.1 (with_pool place (with_pool_class class) d)

-- TERM of a pool's rule: an acl that stands, asks no helper and reaches none that does
unfoldable pub fast_term : List Acl → List ℕ → Result Term Kind
fast_term acls w = known_term acls w >>= λ t. unless
    (not (slice_index_or (slow_ones acls) t.acl false)) SlowInFastList (Ok t)

-- a pool with one more access rule
abbrev pub with_pool_rule : Rule → PoolDraft → PoolDraft
with_pool_rule r p = record p { lists = p.lists ++ r ∷ [] }

-- delay_access POOL allow|deny TERM ...
unfoldable pub pool_access_line : Drafts → WordList → Result Drafts Kind
pool_access_line d ws = do
  first ← word ws
  place ← pool_place (length d.pools) first.0
  second ← word first.1
  allow ← action second.0
  terms ← some_of (fast_term d.acls) second.1
  Ok (with_pool place (with_pool_rule (record { allow = allow; terms = terms })) d)

-- the class of a pool that lacks its limits; one without a class, or with limits, is a fault
abbrev pub class_wanted : Option ℕ → Option (List (Option Limit)) → Result ℕ Kind
class_wanted None pairs = Err BadValue
class_wanted (Some class) (Some pairs) = Err BadValue
class_wanted (Some class) None = Ok class

-- the class of the pool, which has no limits yet
abbrev pub class_for_pairs : PoolDraft → Result ℕ Kind
class_for_pairs p = class_wanted p.class p.pairs

-- a pair more, of so many
abbrev pub pair_step : ℕ → List (Option Limit) → List ℕ → Result (List (Option Limit)) Kind
pair_step count pairs w = unless (nat_lt (length pairs) count) BadValue
    (limit_pair_of w >>= λ p. Ok (pairs ++ p ∷ []))

-- so many pairs
unfoldable pub limit_pairs_of : ℕ → WordList → Result (List (Option Limit)) Kind
limit_pairs_of count ws = over (pair_step count) [] ws >>= λ pairs. unless (length pairs == count)
    MissingWord (Ok pairs)

-- a pool with its limits
abbrev pub with_limits : List (Option Limit) → PoolDraft → PoolDraft
with_limits pairs p = record p { pairs = Some pairs }

-- delay_parameters POOL PAIR ...
unfoldable pub pool_pairs_line : Drafts → WordList → Result Drafts Kind
pool_pairs_line d ws = do
  first ← word ws
  place ← pool_place (length d.pools) first.0
  class ← class_for_pairs (pool_at d.pools place)
  pairs ← limit_pairs_of (pairs_of class) first.1
  Ok (with_pool place (with_limits pairs) d)

-- the initial level of buckets
abbrev pub with_initial : ℕ → Drafts → Drafts
with_initial level d = record d { initial = level }

-- delay_initial_bucket_level LEVEL; of several lines the last counts
unfoldable pub initial_line : Drafts → WordList → Result Drafts Kind
initial_line d ws = do
  first ← word ws
  level ← number_between 0 initial_limit first.0
  no_more first.1 (with_initial level d)

-- modes of `http_port` that are refused: of interception, of a reverse proxy, and of TLS that is
-- opened
abbrev pub refused_modes : List (List ℕ)
refused_modes = codes "intercept" ∷ codes "tproxy" ∷ codes "accel" ∷ codes "ssl-bump" ∷ []

-- a further word of `http_port`, which is no refused mode: it has no effect, and that is noted
abbrev pub mode_step : Bool → List ℕ → Result Bool Kind
mode_step noted w = unless (not (is_among refused_modes w)) BadValue (Ok true)

-- of several lines the first counts
abbrev pub first_port : Option ℕ → ℕ → Option ℕ
first_port None port = Some port
first_port (Some earlier) port = Some earlier

-- the port, if none was stated before
abbrev pub with_http_port : ℕ → Drafts → Drafts
with_http_port port d = record d { port = first_port d.port port }

-- http_port PORT|HOST:PORT ...; a host and further words have no effect
unfoldable pub port_line : ℕ → Drafts → WordList → Result Drafts Kind
port_line line d ws = do
  first ← word ws
  port ← number_between 1 (port_limit - 1) (port_text first.0)
  noted ← over mode_step (has_host first.0) first.1
  Ok (with_notice_if noted line (codes "http_port") (with_http_port port d))
