-- In the statement: docs/STATEMENT.md lists which definitions.
-- Values of leaf acls (configuration reference, `acl`).
use Rattle.std.specs.Prelude.{ℕ, ◌+◌, ◌*◌, List, [], ◌∷◌, ◌++◌, length, Bool, true, false, not, if◌then◌else◌, nat_lt, nat_le, Some, None, Ok, codes, bit_or}
use Rattle.std.specs.List.{list_any, before_first, after_first}
use Rattle.std.specs.Option.{option_map, option_and_then}
use Rattle.std.specs.declared.option.Option.{Option}
use Rattle.std.specs.declared.result.Result.{Result}
pub use Rattle.httparse.specs.Grammar.{is_token}
use Rattle.sq_base.specs.Addresses.{is_colon}
use Rattle.sq_base.specs.Bytes.{quote}
use Rattle.sq_base.specs.Decimals.{number_of, port_limit}
use Rattle.sq_base.specs.NameTables.{beside}
use Rattle.sq_base.specs.Ranges.{range_of, is_dash}
use Rattle.sq_base.specs.declared.addresses.Range.{Range}
use Rattle.sq_rules.specs.ConfNumbers.{digits_of}
use Rattle.sq_rules.specs.Limits.{maxconn_limit}
use Rattle.sq_rules.specs.Patterns.{is_pattern}
use Rattle.sq_base.specs.Results.{◌>>=◌}
use Rattle.sq_rules.specs.Steps.{WordList, unless, needed, word, is_empty, no_more, over, begins}
use Rattle.sq_rules.specs.Times.{Hour, day_minutes}
use Rattle.sq_rules.specs.declared.kinds.Kind.{Kind}
use Rattle.sq_rules.specs.declared.kinds.Kind.TheVariants.{BadValue, BadPattern, BadTime, MissingWord}
use Rattle.sq_rules.specs.declared.leaves.Find.{Find}
use Rattle.sq_rules.specs.declared.leaves.PortRange.{PortRange}

-- the word does not begin with `"`; one that does would name a file of values, which is not read
abbrev pub is_unquoted : List ℕ → Bool
is_unquoted w = not (begins quote w)

-- src and dst: a range of addresses
abbrev pub range_value : List ℕ → Result Range Kind
range_value w = needed BadValue (range_of w)

-- dstdomain, proto and the arguments of external: any word that does not begin with `"`
abbrev pub plain_value : List ℕ → Result (List ℕ) Kind
plain_value w = unless (is_unquoted w) BadValue (Ok w)

-- a range of ports does not fall
abbrev pub ports_from : Option ℕ → Option ℕ → Option PortRange
ports_from (Some a) (Some b) = if nat_le a b then Some (record { first = a; last = b }) else None
ports_from a b = None

-- a port without leading zeros
abbrev pub port_number : List ℕ → Option ℕ
port_number w = number_of port_limit w

-- the ports that a word states: one, or a range `FIRST-LAST`
unfoldable pub ports_of : List ℕ → Option PortRange
ports_of w =
    if list_any is_dash w then ports_from (port_number (before_first is_dash w))
    (port_number (after_first is_dash w))
    else option_map (λ n. record { first = n; last = n }) (port_number w)

-- port: PORT, or PORT-PORT
abbrev pub port_value : List ℕ → Result PortRange Kind
port_value w = needed BadValue (ports_of w)

-- method: a token of HTTP (RFC 9110 section 5.6.2)
abbrev pub method_value : List ℕ → Result (List ℕ) Kind
method_value w = unless (is_token w) BadValue (Ok w)

-- maxconn has one number
abbrev pub maxconn_value : List ℕ → Result ℕ Kind
maxconn_value w = needed BadValue (number_of maxconn_limit w)

-- the one number of a maxconn line
unfoldable pub maxconn_values : WordList → Result (List ℕ) Kind
maxconn_values ws = do
  first ← word ws
  number ← maxconn_value first.0
  no_more first.1 (number ∷ [])

-- the weekdays of each letter as the bits of a number, Sunday the lowest; D stands for Monday to
-- Friday
abbrev pub day_letters : List (List ℕ × ℕ)
day_letters =
    (codes "S", 1)
    ∷ (codes "M", 2)
    ∷ (codes "T", 4)
    ∷ (codes "W", 8)
    ∷ (codes "H", 16)
    ∷ (codes "F", 32)
    ∷ (codes "A", 64)
    ∷ (codes "D", 62)
    ∷ []

-- the weekdays of a letter
unfoldable pub day_bits : ℕ → Option ℕ
day_bits b = beside day_letters (b ∷ [])

-- the weekdays of some letters, with those so far
abbrev pub days_on : ℕ → List ℕ → Option ℕ
days_on days [] = Some days
days_on days (b ∷ bs) = option_and_then (λ more. days_on (bit_or days more) bs) (day_bits b)

-- the weekdays of one letter or more
unfoldable pub days_of : List ℕ → Option ℕ
days_of [] = None
days_of (b ∷ bs) = days_on 0 (b ∷ bs)

-- a number of one or two digits
unfoldable pub short_number : ℕ → List ℕ → Option ℕ
short_number most w = if nat_le (length w) 2 then digits_of most w else None

-- the minute of the day, up to its end
abbrev pub minute_at : Option ℕ → Option ℕ → Option ℕ
minute_at (Some h) (Some m) = if nat_le (h * 60 + m) day_minutes then Some (h * 60 + m) else None
minute_at h m = None

-- the minute of the day of `h:m`; 24:00 is the last
unfoldable pub minute_of : List ℕ → Option ℕ
minute_of w = minute_at (short_number 24 (before_first is_colon w))
    (short_number 59 (after_first is_colon w))

-- from the first to the last minute, which is later
abbrev pub period_at : ℕ → Option ℕ → Option ℕ → Option Hour
period_at days (Some a) (Some b) = if nat_lt a b then Some
    (record { days = days; first = a; last = b }) else None
period_at days a b = None

-- some weekdays, from minute to minute: `h1:m1-h2:m2`
unfoldable pub period_of : ℕ → List ℕ → Option Hour
period_of days w = period_at days (minute_of (before_first is_dash w))
    (minute_of (after_first is_dash w))

-- hours of these weekdays
abbrev pub hours_value : ℕ → List ℕ → Result Hour Kind
hours_value days w = unless (is_unquoted w) BadValue (needed BadTime (period_of days w))

-- behind day letters: nothing, and so the whole day, or hours
abbrev pub behind_days : ℕ → WordList → Result Hour Kind
behind_days days [] = Ok (record { days = days; first = 0; last = day_minutes })
behind_days days (w ∷ ws) = hours_value days w >>= λ p. no_more ws p

-- the first word is day letters, or else hours of all days
abbrev pub by_first : Option ℕ → List ℕ → WordList → Result Hour Kind
by_first (Some days) w ws = behind_days days ws
by_first None w ws = hours_value 127 w >>= λ p. no_more ws p

-- time: day letters, hours, or both in this order
unfoldable pub time_value : WordList → Result Hour Kind
time_value ws = do
  first ← word ws
  by_first (days_of first.0) first.0 first.1

-- the one span of a time line
abbrev pub time_values : WordList → Result (List Hour) Kind
time_values ws = time_value ws >>= λ p. Ok (p ∷ [])

-- the patterns of a line so far, and whether case is off for those that follow
pub record Finding : Type 0 where
  pub fold : Bool
  pub finds : List Find

-- a pattern more
abbrev pub with_find : Finding → Find → Result Finding Kind
with_find s f = unless (is_pattern f) BadPattern (Ok (record s { finds = s.finds ++ f ∷ [] }))

-- the words that switch case off and on
abbrev pub case_switches : List (List ℕ × Bool)
case_switches = (codes "-i", true) ∷ (codes "+i", false) ∷ []

-- a switch of case, or else a pattern
abbrev pub switched : Option Bool → Finding → List ℕ → Result Finding Kind
switched (Some fold) s w = Ok (record s { fold = fold })
switched None s w = with_find s (record { pattern = w; fold = s.fold })

-- one word of the line
unfoldable pub find_step : Finding → List ℕ → Result Finding Kind
find_step s w = switched (beside case_switches w) s w

-- url_regex: switches and one pattern or more; case is on at first
unfoldable pub find_values : WordList → Result (List Find) Kind
find_values ws = over find_step (record { fold = false; finds = [] }) ws >>= λ s. unless
    (not (is_empty s.finds)) MissingWord (Ok s.finds)
