-- In the statement: docs/STATEMENT.md lists which definitions.
-- Requests as rules and helpers see them: a method and target, the target's parts, and the fields.
use Rattle.std.specs.Prelude.{◌≡◌, ℕ, List, Bool, true, not, ◌==◌, Some}
use Rattle.std.specs.List.{list_all}
use Rattle.std.specs.declared.option.Option.{Option}
use Rattle.sq_base.specs.Bytes.{colon}
use Rattle.sq_base.specs.Addresses.{Address}
use Rattle.sq_base.specs.Targets.{Target, target_of}
use Rattle.sq_base.specs.declared.requests.Field.{Field}

-- a request: RFC 9112 section 3, with the parts of its target; `minor` is that of HTTP/1.minor
pub record HttpRequest : Type 0 where
  pub method : List ℕ
  pub target : List ℕ
  pub scheme : List ℕ
  pub host : List ℕ
  pub literal : Option Address
  pub port : ℕ
  pub path : List ℕ
  pub minor : ℕ
  pub fields : List Field

-- the parts of the target that the request shows
abbrev pub shown_target : HttpRequest → Target
shown_target r = record {
  scheme = r.scheme;
  host = r.host;
  literal = r.literal;
  port = r.port;
  path = r.path;
}

-- no byte of it is `:`
abbrev pub has_no_colon : List ℕ → Bool
has_no_colon name = list_all (λ b. not (b == colon)) name

abbrev pub have_plain_names : List Field → Bool
have_plain_names fields = list_all (λ f. has_no_colon f.name) fields

-- the parts are those of its method's target, and no field's name holds `:`
pub record IsRequest (r : HttpRequest) : Type 0 where
  pub parts : target_of r.method r.target ≡ Some (shown_target r)
  pub names : have_plain_names r.fields ≡ true
