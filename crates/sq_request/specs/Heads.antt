-- In the statement: docs/STATEMENT.md lists which definitions.
-- The request of a head: RFC 9112 sections 3 and 5, as the grammar of `httparse` reads them.
use Rattle.std.specs.Prelude.{◌≡◌, ℕ, ◌+◌, ◌<◌, ◌≤◌, List, [], ◌∷◌, ◌++◌, length, map, codes, Some, None}
use Rattle.std.specs.List.{flat_map}
use Rattle.std.specs.Option.{option_map}
use Rattle.std.specs.declared.option.Option.{Option}
use Rattle.httparse.specs.Grammar.{RequestHead, ReadsRequest, field_value}
use Rattle.httparse.specs.Grammar as grammar
use Rattle.sq_base.specs.Bytes.{lf, cr, space, digit_zero, colon}
use Rattle.sq_base.specs.declared.requests.Field.{Field}
use Rattle.sq_base.specs.Requests.{HttpRequest}
use Rattle.sq_base.specs.Targets.{Target, target_of}

-- a head has so many fields at most
abbrev pub most_fields : ℕ
most_fields = 128

-- the bytes are a head of the grammar, and nothing more
abbrev pub IsHead : List ℕ → RequestHead → Type 0
IsHead head h = ReadsRequest head h []

-- a field line's name, and its value without the white space around it
abbrev pub field_of : grammar.Field → Field
field_of f = record { name = f.name; value = field_value f }

abbrev pub fields_of : RequestHead → List Field
fields_of h = map field_of h.fields

-- the request of these parts and this target
abbrev pub at_target : List ℕ → List ℕ → ℕ → List Field → Target → HttpRequest
at_target method target minor fields t =
    record {
      method = method;
      target = target;
      scheme = t.scheme;
      host = t.host;
      literal = t.literal;
      port = t.port;
      path = t.path;
      minor = minor;
      fields = fields;
    }

-- the request of these parts, where the target has the form that the method takes
abbrev pub request_with : List ℕ → List ℕ → ℕ → List Field → Option HttpRequest
request_with method target minor fields = option_map (at_target method target minor fields)
    (target_of method target)

-- the request with another target, and all else kept
abbrev pub retargeted : HttpRequest → List ℕ → Option HttpRequest
retargeted r target = request_with r.method target r.minor r.fields

-- the request of a head of the grammar
abbrev pub request_of : RequestHead → Option HttpRequest
request_of h = request_with h.method h.target h.minor (fields_of h)

-- the bytes are a head that has this request
pub record HasRequest (head : List ℕ) (r : HttpRequest) : Type 0 where
  pub tree : RequestHead
  pub whole : IsHead head tree
  pub few : length tree.fields ≤ most_fields
  pub gives : request_of tree ≡ Some r

-- the bytes are a head with too many fields
pub record HasTooManyFields (head : List ℕ) : Type 0 where
  pub tree : RequestHead
  pub whole : IsHead head tree
  pub many : most_fields < length tree.fields

-- the bytes are a head whose target has not the form that its method takes
pub record HasBadTarget (head : List ℕ) : Type 0 where
  pub tree : RequestHead
  pub whole : IsHead head tree
  pub few : length tree.fields ≤ most_fields
  pub bad : request_of tree ≡ None

-- the line of a field
abbrev pub field_line : Field → List ℕ
field_line f = f.name ++ colon ∷ space ∷ f.value ++ cr ∷ lf ∷ []

-- the head that is written of these parts
unfoldable pub head_text : List ℕ → List ℕ → ℕ → List Field → List ℕ
head_text method target minor fields =
    method ++ space ∷ target ++ codes " HTTP/1." ++ (digit_zero + minor) ∷ cr ∷ lf
    ∷ flat_map field_line fields ++ cr ∷ lf ∷ []

-- the head has these parts
pub record HasParts (tree : RequestHead) (method_text target_text : List ℕ) (version : ℕ)
    (listed : List Field) : Type 0 where
  pub method : tree.method ≡ method_text
  pub target : tree.target ≡ target_text
  pub minor : tree.minor ≡ version
  pub fields : fields_of tree ≡ listed

-- the head that is written of these parts is a head of the grammar, and reads as these parts
abbrev pub IsWrittenHead : List ℕ → List ℕ → ℕ → List Field → Type 0
IsWrittenHead method target minor fields =
    (h : RequestHead) × IsHead (head_text method target minor fields) h
    × HasParts h method target minor fields
