-- In the statement: docs/STATEMENT.md lists which definitions.
-- Decimal numbers: digits without leading zeros, as in journals, scripts and parts of addresses.
use Rattle.std.specs.Prelude.{ℕ, ◌+◌, ◌-◌, ◌*◌, ◌^◌, List, [], ◌∷◌, if◌then◌else◌, ◌&&◌, nat_lt, Some, None, decimal, bytes_eq}
use Rattle.std.specs.declared.option.Option.{Option}
use Rattle.sq_base.specs.Bytes.{digit_zero}

-- the value of these digits, read after the number so far
abbrev pub read_on : ℕ → List ℕ → ℕ
read_on n [] = n
read_on n (c ∷ cs) = read_on (n * 10 + (c - digit_zero)) cs

-- the number below the limit whose decimal text the word is
unfoldable pub number_of : ℕ → List ℕ → Option ℕ
number_of limit word =
    if nat_lt (read_on 0 word) limit
    && bytes_eq (decimal (read_on 0 word)) word then Some (read_on 0 word) else None

-- numbers of connections, checks and the like, and moments, are below this
abbrev pub number_limit : ℕ
number_limit = 2 ^ 63

-- ports are below this
abbrev pub port_limit : ℕ
port_limit = 65536
