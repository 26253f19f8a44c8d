-- In the statement: docs/STATEMENT.md lists which definitions.
-- Ranges of addresses, as the acl types src and dst of Squid's configuration reference have them:
-- one address, a block `ADDR/N` or `ADDR/MASK`, a span `ADDR-ADDR`, and `all`.
use Rattle.std.specs.Prelude.{◌≡◌, ℕ, ◌+◌, ◌-◌, ◌*◌, ◌%◌, ◌^◌, List, Bool, false, not, if◌then◌else◌, ◌&&◌, ◌==◌, nat_le, Some, None, take, drop, codes, bytes_eq}
use Rattle.std.specs.Int.{is_power_of_two}
use Rattle.std.specs.List.{position}
use Rattle.std.specs.Option.{option_map}
use Rattle.std.specs.declared.option.Option.{Option}
use Rattle.sq_base.specs.Bytes.{dash, slash}
use Rattle.sq_base.specs.Addresses.{Address, v4, v6, is_at_most, v4_of, address_of}
use Rattle.sq_base.specs.Decimals.{number_of}
use Rattle.sq_base.specs.declared.addresses.Range.{Range}

-- the address stands from the first to the last
abbrev pub in_range : Range → Address → Bool
in_range r a = is_at_most r.first a && is_at_most a r.last

-- every address of both kinds
abbrev pub all_addresses : Range
all_addresses = record { first = v4 0; last = v6 (2 ^ 128 - 1) }

-- the range of one address
abbrev pub single : Address → Range
single a = record { first = a; last = a }

-- the block of so many addresses in which the address stands: its low bits cleared, and set
abbrev pub block : ℕ → Address → Range
block size a =
    record {
      first = record a { number = a.number - a.number % size };
      last = record a { number = a.number - a.number % size + (size - 1) };
    }

-- how many bits an address has
abbrev pub bits_of : Bool → ℕ
bits_of v6 = if v6 then 128 else 32

-- how many addresses a block has: by the count of its leading bits, or by its mask, whose ones have
-- to stand before its zeros
abbrev pub size_by : Bool → Option ℕ → Option ℕ → Option ℕ
size_by v6 (Some n) mask = Some (2 ^ (bits_of v6 - n))
size_by false None (Some mask) = if is_power_of_two (2 ^ 32 - mask) then Some (2 ^ 32 - mask)
    else None
size_by v6 None mask = None

-- how many addresses a block has by what stands behind `/`; only IPv4 has masks
unfoldable pub block_size : Bool → List ℕ → Option ℕ
block_size v6 word = size_by v6 (number_of (bits_of v6 + 1) word) (v4_of word)

-- the block that begins with this address, with the size that the word states
abbrev pub block_of : Option Address → List ℕ → Option Range
block_of None word = None
block_of (Some a) word = option_map (λ size. block size a) (block_size a.v6 word)

-- both have one kind
abbrev pub one_kind : Address → Address → Bool
one_kind a b = if a.v6 then b.v6 else not b.v6

-- a span is of one kind and does not fall
abbrev pub span_of : Option Address → Option Address → Option Range
span_of (Some a) (Some b) = if one_kind a b
    && nat_le a.number b.number then Some (record { first = a; last = b }) else None
span_of a b = None

-- the range of a text by the places of its first `/` and its first `-`
abbrev pub range_at : List ℕ → Option ℕ → Option ℕ → Option Range
range_at text (Some n) to = block_of (address_of (take n text)) (drop (n + 1) text)
range_at text None (Some n) = span_of (address_of (take n text)) (address_of (drop (n + 1) text))
range_at text None None = option_map single (address_of text)

-- whether the byte is `/`
abbrev pub is_slash : ℕ → Bool
is_slash b = b == slash

-- whether the byte is `-`
abbrev pub is_dash : ℕ → Bool
is_dash b = b == dash

-- the range with this text
unfoldable pub range_of : List ℕ → Option Range
range_of text = if bytes_eq text (codes "all") then Some all_addresses
    else range_at text (position is_slash text) (position is_dash text)

-- the one divides the other
abbrev pub Divides : ℕ → ℕ → Type 0
Divides size total = (count : ℕ) × (size * count ≡ total)
