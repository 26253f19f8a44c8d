-- The one spelling in which a host is reached, so that none passes a rule over addresses or names
-- by being spelled otherwise. Beside these spellings the system takes for an address what
-- inet_aton(3) reads: one to four numbers, each decimal, octal or hexadecimal.
use Rattle.std.specs.Prelude.{ℕ, ◌^◌, ◌/◌, List, [], ◌∷◌, Bool, not, if◌then◌else◌, ◌&&◌, ◌||◌, ◌==◌, nat_le, nat_eq, Some, None, drop}
use Rattle.std.specs.List.{list_all, starts_with}
use Rattle.std.specs.Char.{is_ascii_digit, is_ascii_hexdigit, is_ascii_lowercase}
use Rattle.std.specs.declared.option.Option.{Option}
use Rattle.sq_base.specs.Addresses.{Address, address_of}
use Rattle.sq_base.specs.Bytes.{dash, dot, underscore}

-- an IPv6 address that stands for no IPv4 one: it is not mapped, and not compatible, as `::` and
-- `::1` are not (RFC 4291 section 2.5.5)
abbrev pub is_own_v6 : ℕ → Bool
is_own_v6 n = not (n / 2 ^ 32 == 65535) && (nat_le n 1 || nat_le (2 ^ 32) n)

-- a byte of a name in lower case
abbrev pub is_name_byte : ℕ → Bool
is_name_byte b = is_ascii_lowercase b || is_ascii_digit b || b == dash || b == dot || b
    == underscore

-- a label that is a number to inet_aton, or nothing: `0x` and hexadecimal digits, or decimal or
-- octal ones
abbrev pub is_number : List ℕ → Bool
is_number label = if starts_with nat_eq label (48 ∷ 120 ∷ []) then list_all is_ascii_hexdigit
    (drop 2 label) else list_all is_ascii_digit label

-- what stands behind the last dot of a text, or else this label
abbrev pub label_on : List ℕ → List ℕ → List ℕ
label_on label [] = label
label_on label (b ∷ bs) = if b == dot then label_on bs bs else label_on label bs

-- what stands behind the last dot
abbrev pub last_label : List ℕ → List ℕ
last_label host = label_on host host

abbrev pub spelled_so : Option Address → List ℕ → Bool
spelled_so (Some a) host = not a.v6 || is_own_v6 a.number
spelled_so None host = list_all is_name_byte host && not (is_number (last_label host))

-- an IPv4 address as four decimal numbers without leading zeros, an IPv6 address of its own, or a
-- name in lower case whose last label is there and is no number
abbrev pub has_one_spelling : List ℕ → Bool
has_one_spelling host = spelled_so (address_of host) host
