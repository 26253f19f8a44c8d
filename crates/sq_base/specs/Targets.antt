-- In the statement: docs/STATEMENT.md lists which definitions.
-- Request targets: RFC 9112 section 3.2 (absolute-form and authority-form) over RFC 3986 section 3,
-- without user information and fragments.
use Rattle.std.specs.Prelude.{ℕ, ◌+◌, List, [], ◌∷◌, length, Bool, false, not, if◌then◌else◌, ◌&&◌, ◌||◌, ◌==◌, nat_lt, nat_le, nat_eq, Some, None, take, drop, position, codes, bytes_eq}
use Rattle.std.specs.List.{list_all, take_while, before_first, after_first, prefix_len, starts_with}
use Rattle.std.specs.Char.{is_ascii_alphabetic, is_ascii_alphanumeric, is_ascii_digit, is_ascii_graphic}
use Rattle.std.specs.Str.{str_to_ascii_lowercase}
use Rattle.std.specs.Option.{option_map}
use Rattle.std.specs.declared.option.Option.{Option}
use Rattle.sq_base.specs.Bytes.{hash, plus, dash, dot, slash, question, open_bracket, close_bracket, underscore}
use Rattle.sq_base.specs.Addresses.{Address, v4, v6, v4_of, v6_of, is_colon}
use Rattle.sq_base.specs.Decimals.{port_limit, read_on}

-- the parts of a target: scheme and host in lower case, and the address that the host spells
pub record Target : Type 0 where
  pub scheme : List ℕ
  pub host : List ℕ
  pub literal : Option Address
  pub port : ℕ
  pub path : List ℕ

-- visible ASCII but `#`, which would begin a fragment
abbrev pub is_target_byte : ℕ → Bool
is_target_byte b = is_ascii_graphic b && not (b == hash)

-- whether the byte may stand in a scheme
abbrev pub is_scheme_byte : ℕ → Bool
is_scheme_byte b = is_ascii_alphanumeric b || b == plus || b == dash || b == dot

-- a letter, and then letters, digits, `+`, `-` and `.`
abbrev pub is_scheme : List ℕ → Bool
is_scheme [] = false
is_scheme (b ∷ bs) = is_ascii_alphabetic b && list_all is_scheme_byte bs

-- a byte of a host's name: a letter, a digit, `-`, `.` or `_`
abbrev pub is_host_byte : ℕ → Bool
is_host_byte b = is_ascii_alphanumeric b || b == dash || b == dot || b == underscore

-- a byte that does not end an authority
abbrev pub in_authority : ℕ → Bool
in_authority b = not (b == slash || b == question)

-- a byte that stands before a port
abbrev pub before_port : ℕ → Bool
before_port b = not (is_colon b)

-- whether the byte is `]`
abbrev pub is_bracket : ℕ → Bool
is_bracket b = b == close_bracket

-- a host, the address that it spells, and what stands after it in the authority
pub record Host : Type 0 where
  pub name : List ℕ
  pub literal : Option Address
  pub rest : List ℕ

-- a literal IPv6 address, without its brackets
abbrev pub bracketed : List ℕ → List ℕ → Option ℕ → Option Host
bracketed text rest None = None
bracketed text rest (Some n) = Some
    (record { name = str_to_ascii_lowercase text; literal = Some (v6 n); rest = rest })

-- a name or a literal IPv4 address
abbrev pub named_host : List ℕ → List ℕ → Option Host
named_host [] rest = None
named_host (b ∷ bs) rest =
    if list_all is_host_byte (b ∷ bs)
    then Some (record {
      name = str_to_ascii_lowercase (b ∷ bs);
      literal = option_map v4 (v4_of (b ∷ bs));
      rest = rest;
    }) else None

-- a literal IPv6 address behind `[`, by the place of the `]`
abbrev pub in_brackets : List ℕ → Option ℕ → Option Host
in_brackets inside None = None
in_brackets inside (Some n) = bracketed (take n inside) (drop (n + 1) inside)
    (v6_of (take n inside))

-- the host at the front of an authority
unfoldable pub host_in : List ℕ → Option Host
host_in [] = None
host_in (b ∷ bs) =
    if b == open_bracket then in_brackets bs (position is_bracket bs)
    else named_host (take_while before_port (b ∷ bs))
    (drop (prefix_len before_port (b ∷ bs)) (b ∷ bs))

-- the number of one to five digits, as a port may have it
unfoldable pub port_of : List ℕ → Option ℕ
port_of word =
    if nat_le 1 (length word) && nat_le (length word) 5 && list_all is_ascii_digit word
    && nat_lt (read_on 0 word) port_limit
    then Some (read_on 0 word) else None

-- the port that stands after a host; the default where there is none, or an empty one
abbrev pub port_after : ℕ → List ℕ → Option ℕ
port_after default [] = Some default
port_after default (b ∷ []) = if is_colon b then Some default else None
port_after default (b ∷ c ∷ bs) = if is_colon b then port_of (c ∷ bs) else None

-- the port that a scheme has by itself, and 0 for one that is not known
abbrev pub scheme_port : List ℕ → ℕ
scheme_port scheme =
    if bytes_eq scheme (codes "http") then 80
    else (if bytes_eq scheme (codes "https") then 443
    else (if bytes_eq scheme (codes "ftp") then 21 else 0))

-- the target of these parts, if there is a port
abbrev pub with_port : List ℕ → List ℕ → Host → Option ℕ → Option Target
with_port scheme path h None = None
with_port scheme path h (Some port) =
    Some (record { scheme = scheme; host = h.name; literal = h.literal; port = port; path = path })

-- the target of a scheme and a path, if there is a host
abbrev pub with_host : List ℕ → List ℕ → Option Host → Option Target
with_host scheme path None = None
with_host scheme path (Some h) = with_port scheme path h (port_after (scheme_port scheme) h.rest)

-- the target of a scheme, in lower case, and what stands behind `://`
unfoldable pub with_scheme : List ℕ → List ℕ → Option Target
with_scheme scheme rest =
    with_host scheme (drop (prefix_len in_authority rest) rest)
    (host_in (take_while in_authority rest))

-- what stands before and behind the first `:` of a target in absolute form
abbrev pub with_colon : List ℕ → List ℕ → Option Target
with_colon scheme after =
    if is_scheme scheme && starts_with nat_eq after (codes "//") then with_scheme
    (str_to_ascii_lowercase scheme) (drop 2 after) else None

-- a target in absolute form: scheme, `://`, authority, and then nothing, a path or a query
unfoldable pub absolute_form : List ℕ → Option Target
absolute_form text =
    if list_all is_target_byte text then with_colon (before_first is_colon text)
    (after_first is_colon text) else None

-- the port of an authority behind its host: `:` and a number
abbrev pub connect_port : List ℕ → Option ℕ
connect_port [] = None
connect_port (b ∷ bs) = if is_colon b then port_of bs else None

-- a port from 1 on
abbrev pub from_one : Option ℕ → Option ℕ
from_one None = None
from_one (Some port) = if port == 0 then None else Some port

-- the target of a CONNECT, whose port is at least 1
abbrev pub connect_host : Option Host → Option Target
connect_host None = None
connect_host (Some h) = with_port [] [] h (from_one (connect_port h.rest))

-- a target in authority form: host, `:` and a port
unfoldable pub authority_form : List ℕ → Option Target
authority_form text = if list_all is_target_byte text then connect_host (host_in text) else None

-- the parts of a method's target, where it has the form that this method takes
unfoldable pub target_of : List ℕ → List ℕ → Option Target
target_of method text = if bytes_eq method (codes "CONNECT") then authority_form text
    else absolute_form text
