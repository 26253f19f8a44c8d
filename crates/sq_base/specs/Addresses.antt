-- In the statement: docs/STATEMENT.md lists which definitions.
-- IP addresses and their texts: RFC 4291 section 2.2 for IPv6, RFC 5952 section 4 for its printing,
-- and four decimal parts for IPv4. `IsDotted` and `IsColonHex` are the standard library's grammar
-- of both, `read_ipv4` and `read_ipv6` its readers.
use Rattle.std.specs.Prelude.{◌≡◌, ℕ, ◌+◌, ◌*◌, ◌/◌, ◌%◌, ◌^◌, ◌⊎◌, List, [], ◌∷◌, Bool, true, false, not, if◌then◌else◌, ◌&&◌, ◌||◌, ◌==◌, nat_lt, nat_le, Some, None}
use Rattle.std.specs.Option.{option_map}
use Rattle.std.specs.declared.option.Option.{Option}
use Rattle.std.specs.Net.Grammar.{IsDotted, IsColonHex}
use Rattle.std.specs.Net.Reader.{read_ipv4, read_ipv6, whole_value}
use Rattle.std.specs.Net.Text.{ipv4_text, hex_groups_text}
use Rattle.sq_base.specs.Bytes.{colon}

-- an address: its kind, and its bits as a number
pub record Address : Type 0 where
  pub v6 : Bool
  pub number : ℕ

-- an address of each kind
abbrev pub v4 : ℕ → Address
v4 n = record { v6 = false; number = n }

-- an IPv6 address by its number
abbrev pub v6 : ℕ → Address
v6 n = record { v6 = true; number = n }

-- the number has the bits of its kind
abbrev pub IsAddress : Address → Type 0
IsAddress a = (a.v6 ≡ false → nat_lt a.number (2 ^ 32) ≡ true) × (nat_lt a.number (2 ^ 128) ≡ true)

-- the one stands no later than the other: IPv4 before IPv6, and each kind by its number
abbrev pub is_at_most : Address → Address → Bool
is_at_most a b = (not a.v6 && b.v6) || (not (a.v6 || b.v6) && nat_le a.number b.number)
    || ((a.v6 && b.v6) && nat_le a.number b.number)

-- whether the byte is `:`
abbrev pub is_colon : ℕ → Bool
is_colon b = b == colon

-- digits of a base as one number, the highest first, read after the number so far
abbrev pub number_on : ℕ → ℕ → List ℕ → ℕ
number_on base n [] = n
number_on base n (d ∷ ds) = number_on base (n * base + d) ds

-- the address of four octets, and that of eight groups
abbrev pub of_octets : List ℕ → Address
of_octets octets = v4 (number_on 256 0 octets)

abbrev pub of_groups : List ℕ → Address
of_groups groups = v6 (number_on 65536 0 groups)

-- The text spells the address. IPv4: four decimal numbers below 256 without leading zeros, and dots
-- between them. IPv6: eight groups of one to four hexadecimal digits with colons between them,
-- where the last two may be written as IPv4, and one `::` may stand for one zero group or more.
abbrev pub Spells : List ℕ → Address → Type 0
Spells text a =
    ((octets : List ℕ) × IsDotted text octets × (a ≡ of_octets octets))
    ⊎ ((groups : List ℕ) × IsColonHex text groups × (a ≡ of_groups groups))

-- the number of the IPv4 address that the text spells
unfoldable pub v4_of : List ℕ → Option ℕ
v4_of text = option_map (number_on 256 0) (whole_value (read_ipv4 text))

-- the number of the IPv6 address that the text spells
unfoldable pub v6_of : List ℕ → Option ℕ
v6_of text = option_map (number_on 65536 0) (whole_value (read_ipv6 text))

-- the address of a text that is read as IPv4 or as IPv6: IPv4 first
abbrev pub either_of : Option ℕ → Option ℕ → Option Address
either_of (Some n) other = Some (v4 n)
either_of None other = option_map v6 other

-- the address that the text spells
unfoldable pub address_of : List ℕ → Option Address
address_of text = either_of (v4_of text) (v6_of text)

-- the four octets of an IPv4 address
abbrev pub four_octets : ℕ → List ℕ
four_octets n = n / 16777216 ∷ n / 65536 % 256 ∷ n / 256 % 256 ∷ n % 256 ∷ []

-- the text of an IPv4 address
unfoldable pub v4_text : ℕ → List ℕ
v4_text n = ipv4_text (four_octets n)

-- the eight groups of an IPv6 address
abbrev pub eight_groups : ℕ → List ℕ
eight_groups n =
    n / 2 ^ 112 ∷ n / 2 ^ 96 % 65536 ∷ n / 2 ^ 80 % 65536 ∷ n / 2 ^ 64 % 65536
    ∷ n / 2 ^ 48 % 65536 ∷ n / 2 ^ 32 % 65536 ∷ n / 2 ^ 16 % 65536 ∷ n % 65536 ∷ []

-- The text of an IPv6 address: groups in lower case without leading zeros. The longest run of two
-- zero groups or more, the first of equals, is `::`.
unfoldable pub v6_text : ℕ → List ℕ
v6_text n = hex_groups_text (eight_groups n)

-- the text of an address
abbrev pub address_text : Address → List ℕ
address_text a = if a.v6 then v6_text a.number else v4_text a.number
