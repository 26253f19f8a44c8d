-- In the statement: docs/STATEMENT.md lists which definitions.
-- Of which parts a head can be written that reads as these parts: RFC 9112 sections 3 and 5.
use Rattle.std.specs.Prelude.{ℕ, List, length, Bool, ◌&&◌, if◌then◌else◌, nat_lt, nat_le, bytes_eq, None}
use Rattle.std.specs.List.{list_all}
use Rattle.std.specs.Str.{is_utf8}
use Rattle.std.specs.declared.option.Option.{Option}
use Rattle.httparse.specs.Grammar.{is_token, is_uri_byte, is_value_byte, trim_ows}
use Rattle.sq_base.specs.Requests.{HttpRequest}
use Rattle.sq_base.specs.declared.requests.Field.{Field}
use Rattle.sq_request.specs.Heads.{most_fields, request_with}

-- UTF-8, not empty, each byte visible or past ASCII
abbrev pub is_written_target : List ℕ → Bool
is_written_target target = nat_lt 0 (length target)
    && (list_all is_uri_byte target && is_utf8 target)

-- no control byte but the tab, and no white space at its ends
abbrev pub is_written_value : List ℕ → Bool
is_written_value value = list_all is_value_byte value && bytes_eq (trim_ows value) value

-- whether a field can stand in a head
abbrev pub is_written_field : Field → Bool
is_written_field f = is_token f.name && is_written_value f.value

-- the head that is written of these parts is in the grammar, and reads as these parts
unfoldable pub is_written : List ℕ → List ℕ → ℕ → List Field → Bool
is_written method target minor fields = is_token method
    && (is_written_target target && (nat_le minor 1 && list_all is_written_field fields))

-- the request that is made of these parts: none where no such head can be written of them, where
-- they have too many fields, or where the target has not the form that the method takes
abbrev pub made_request : List ℕ → List ℕ → ℕ → List Field → Option HttpRequest
made_request method target minor fields =
    if is_written method target minor fields
    && nat_le (length fields) most_fields then request_with method target minor fields else None
