-- Header fields by their names, and which of them a proxy passes on: RFC 9110 sections 5.1 (names
-- have no case), 5.6.1 (lists) and 7.6.1 (fields of one connection).
use Rattle.std.specs.Prelude.{ℕ, List, [], ◌∷◌, map, Bool, true, not, ◌&&◌, ◌||◌, ◌==◌, if◌then◌else◌, codes}
use Rattle.std.specs.List.{filter, flat_map, list_any}
use Rattle.std.specs.Str.{str_eq_ignore_ascii_case}
use Rattle.httparse.specs.Ascii.{comma}
use Rattle.httparse.specs.Grammar.{trim_ows}
use Rattle.sq_base.specs.declared.requests.Field.{Field}
use Rattle.sq_request.specs.Heads.{field_line}
use Rattle.sq_rules.specs.Keys.{field_values}
use Rattle.sq_message.specs.declared.names.Direction.{Direction}
use Rattle.sq_message.specs.declared.names.Direction.TheVariants.{ToOrigin, ToClient}

-- one of the names, without case
abbrev pub is_one_of : List (List ℕ) → List ℕ → Bool
is_one_of names name = list_any (λ n. str_eq_ignore_ascii_case n name) names

-- the pieces, with a byte put in front of the first
abbrev pub before_first : ℕ → List (List ℕ) → List (List ℕ)
before_first b [] = (b ∷ []) ∷ []
before_first b (piece ∷ pieces) = (b ∷ piece) ∷ pieces

-- the pieces between commas
abbrev pub comma_pieces : List ℕ → List (List ℕ)
comma_pieces [] = [] ∷ []
comma_pieces (b ∷ bs) = if b == comma then [] ∷ comma_pieces bs
    else before_first b (comma_pieces bs)

-- the elements of a list, without the white space around them
unfoldable pub elements : List ℕ → List (List ℕ)
elements value = map trim_ows (comma_pieces value)

-- what the Connection fields list
abbrev pub connection_options : List Field → List (List ℕ)
connection_options fields = flat_map elements (field_values (codes "connection") fields)

-- the fields that are for one connection alone
abbrev pub of_one_connection : List (List ℕ)
of_one_connection =
    codes "connection" ∷ codes "proxy-connection" ∷ codes "keep-alive" ∷ codes "te"
    ∷ codes "trailer" ∷ codes "transfer-encoding" ∷ codes "upgrade" ∷ []

-- those, and the fields of a request that are for the proxy, or that it writes itself
abbrev pub of_the_proxy : List (List ℕ)
of_the_proxy = codes "host" ∷ codes "proxy-authorization" ∷ codes "expect" ∷ of_one_connection

-- the fields that are not passed on, whatever Connection lists
abbrev pub dropped : Direction → List (List ℕ)
dropped ToOrigin = of_the_proxy
dropped ToClient = of_one_connection

-- Connection lists the field; Content-Length is passed on nevertheless
abbrev pub is_listed : List (List ℕ) → List ℕ → Bool
is_listed options name = is_one_of options name
    && not (str_eq_ignore_ascii_case (codes "content-length") name)

abbrev pub is_kept : Direction → List (List ℕ) → Field → Bool
is_kept way options f = not (is_one_of (dropped way) f.name || is_listed options f.name)

-- the test of names that each name passes
abbrev pub each_name : List ℕ → Bool
each_name name = true

-- the fields whose lines stay, whatever a test of names says
abbrev pub always_there : List (List ℕ)
always_there = codes "host" ∷ codes "content-length" ∷ codes "transfer-encoding"
    ∷ codes "connection" ∷ []

-- a line of this name goes out where names are tested so
abbrev pub goes_out : (List ℕ → Bool) → List ℕ → Bool
goes_out test name = test name || is_one_of always_there name

-- the line, if one of this name goes out
abbrev pub line_of : (List ℕ → Bool) → List ℕ → List ℕ → List ℕ
line_of test name line = if goes_out test name then line else []

abbrev pub is_sent : (List ℕ → Bool) → Direction → List (List ℕ) → Field → Bool
is_sent test way options f = goes_out test f.name && is_kept way options f

-- the fields that are passed on where names are tested so, in their order
abbrev pub kept_fields : (List ℕ → Bool) → Direction → List Field → List Field
kept_fields test way fields = filter (is_sent test way (connection_options fields)) fields

-- their lines
abbrev pub kept_lines : (List ℕ → Bool) → Direction → List Field → List ℕ
kept_lines test way fields = flat_map field_line (kept_fields test way fields)
