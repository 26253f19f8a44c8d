-- In the statement: docs/STATEMENT.md lists which definitions.
-- The key of an external acl: the question that its helper is asked about a request (configuration
-- reference, `external_acl_type`, FORMAT).
use Rattle.std.specs.Prelude.{ℕ, Bool, ◌||◌, ◌==◌, nat_le, List, [], ◌∷◌, if◌then◌else◌, map, Some, None, codes, decimal, slice_get}
use Rattle.std.specs.List.{filter, flat_map, join_by, join_with_byte}
use Rattle.std.specs.Str.{str_eq_ignore_ascii_case}
use Rattle.std.specs.declared.option.Option.{Option}
use Rattle.percent_encoding.specs.Percent.{percent_encode_byte}
use Rattle.sq_base.specs.Addresses.{address_text}
use Rattle.sq_base.specs.declared.requests.Field.{Field}
use Rattle.sq_rules.specs.Classes.{Class}
use Rattle.sq_rules.specs.Configurations.{Configuration}
use Rattle.sq_rules.specs.declared.classes.Token.{Token}
use Rattle.sq_rules.specs.declared.classes.Token.TheVariants as token
use Rattle.sq_rules.specs.declared.configs.Acl.{Acl}
use Rattle.sq_rules.specs.declared.configs.Body.{Body}
use Rattle.sq_rules.specs.declared.configs.Body.TheVariants as body
use Rattle.sq_rules.specs.declared.sights.Sight.{Sight}

-- a byte that is no visible ASCII, and `"`, `%`, `<`, `>` and `\`
abbrev pub is_key_escaped : ℕ → Bool
is_key_escaped b = nat_le b 32 || nat_le 127 b || b == 34 || b == 37 || b == 60 || b == 62 || b
    == 92

-- each such byte becomes `%` and two upper-case hexadecimal digits
abbrev pub key_escaped_byte : ℕ → List ℕ
key_escaped_byte b = if is_key_escaped b then percent_encode_byte b else b ∷ []

-- a text as it stands in a key
unfoldable pub key_escaped : List ℕ → List ℕ
key_escaped bytes = flat_map key_escaped_byte bytes

-- what is absent is `-`
abbrev pub or_dash : List ℕ → List ℕ
or_dash [] = codes "-"
or_dash (b ∷ bytes) = key_escaped (b ∷ bytes)

-- some values with `, ` between them; where there is none, `-`
abbrev pub values_text : List (List ℕ) → List ℕ
values_text [] = codes "-"
values_text (v ∷ values) = key_escaped (join_by (λ w. w) (codes ", ") (v ∷ values))

-- the values of the fields of a name, without case
abbrev pub field_values : List ℕ → List Field → List (List ℕ)
field_values name fields = map (λ f. f.value)
    (filter (λ f. str_eq_ignore_ascii_case f.name name) fields)

-- the arguments of an acl, each escaped by itself, with a space between them; where there is none,
-- `-`
abbrev pub arguments_text : List (List ℕ) → List ℕ
arguments_text [] = codes "-"
arguments_text (a ∷ arguments) = join_with_byte 32 (map key_escaped (a ∷ arguments))

-- what stands in the key for a token, over the acl's name and arguments; digits and addresses have
-- no byte to escape
abbrev pub token_text : List ℕ → List (List ℕ) → Sight → Token → List ℕ
token_text name arguments s token.ClientAddr = address_text s.addr
token_text name arguments s token.ClientPort = decimal s.port
token_text name arguments s token.Method = key_escaped s.request.method
token_text name arguments s token.Uri = key_escaped s.request.target
token_text name arguments s token.Scheme = or_dash s.request.scheme
token_text name arguments s token.Host = key_escaped s.request.host
token_text name arguments s token.Port = decimal s.request.port
token_text name arguments s token.Path = or_dash s.request.path
token_text name arguments s (token.Header field) = values_text (field_values field s.request.fields)
token_text name arguments s token.AclName = key_escaped name
token_text name arguments s token.Arguments = arguments_text arguments
token_text name arguments s token.Percent = codes "%"

-- the texts of a class's tokens with a space between them
abbrev pub format_text : List ℕ → List (List ℕ) → Sight → Option Class → List ℕ
format_text name arguments s None = []
format_text name arguments s (Some k) = join_with_byte 32
    (map (token_text name arguments s) k.format)

-- the key of an external acl's body; other bodies have none
abbrev pub body_key : Configuration → Sight → List ℕ → Body → List ℕ
body_key c s name (body.Leaf l) = []
body_key c s name (body.External class arguments) = format_text name arguments s
    (slice_get c.classes class)
body_key c s name (body.AnyOf terms) = []
body_key c s name (body.AllOf lines) = []

-- the key of an acl, if it is there
abbrev pub acl_key : Configuration → Sight → Option Acl → List ℕ
acl_key c s None = []
acl_key c s (Some a) = body_key c s a.name a.body

-- the key of the external acl at a place; any other acl has none
unfoldable pub key_text : Configuration → ℕ → Sight → List ℕ
key_text c place s = acl_key c s (slice_get c.acls place)
