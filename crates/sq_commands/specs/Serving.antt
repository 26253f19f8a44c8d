-- In the statement: docs/STATEMENT.md lists which definitions.
-- The words of `serve`.
use Rattle.std.specs.Prelude.{ℕ, suc, ◌==◌, List, [], ◌∷◌, if◌then◌else◌, Some, None, bytes_eq, codes, option_map, option_and_then}
use Rattle.std.specs.declared.option.Option.{Option}
use Rattle.sq_base.specs.Decimals.{number_of, port_limit}
use Rattle.sq_journal.specs.Reading.{offset_from}
use Rattle.sq_commands.specs.Limits.{most_workers}
use Rattle.sq_commands.specs.declared.options.Options.{Options}
use Rattle.sq_commands.specs.declared.options.Service.{Service}

-- what is stated where no option is
abbrev pub no_options : Options
no_options = record { port = None; workers = None; offset = None }

-- the number below the limit, above 0
abbrev pub above_zero : ℕ → Option ℕ
above_zero n = if n == 0 then None else Some n

-- the number that the word states, from 1 to the limit
abbrev pub positive_of : ℕ → List ℕ → Option ℕ
positive_of limit word = option_and_then above_zero (number_of limit word)

-- a value that is stated for the first time
abbrev pub first : {A : Type 0} → Option A → Option A → Option A
first None value = value
first (Some a) value = None

-- what is stated with one option more
abbrev pub with_option : List ℕ → List ℕ → Options → Option Options
with_option word value o =
    if bytes_eq word (codes "--port") then option_map (λ n. record o { port = Some n })
    (first o.port (positive_of port_limit value))
    else (if bytes_eq word (codes "--workers") then option_map (λ n. record o { workers = Some n })
    (first o.workers (positive_of (suc most_workers) value))
    else (if bytes_eq word (codes "--utc-offset") then option_map
    (λ z. record o { offset = Some z }) (first o.offset (offset_from value))
    else None))

-- what pairs of an option and its value state behind others
abbrev pub options_from : List (List ℕ) → Options → Option Options
options_from [] o = Some o
options_from (word ∷ []) o = None
options_from (word ∷ value ∷ rest) o = option_and_then (options_from rest)
    (with_option word value o)

-- a server by the file of its configuration, with what its options state
pub record Server : Type 0 where
  pub conf : List ℕ
  pub options : Options

-- the server that the words name, the program's name left out
abbrev pub service_of : List (List ℕ) → Option Server
service_of (word ∷ conf ∷ rest) = if bytes_eq word (codes "serve") then option_map
    (λ o. record { conf = conf; options = o }) (options_from rest no_options) else None
service_of words = None

-- the server that the code reads
abbrev pub shown_service : Service → Server
shown_service s = record { conf = s.conf.now; options = s.options }
