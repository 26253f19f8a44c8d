-- The head of a request as it goes to the origin: RFC 9112 section 3.2.1 (origin-form), RFC 9110
-- sections 7.2 (Host) and 7.6.3 (Via).
use Rattle.std.specs.Prelude.{ℕ, List, [], ◌∷◌, ◌++◌, Bool, true, false, ◌==◌, if◌then◌else◌, codes, decimal, bytes_eq, drop}
use Rattle.std.specs.List.{after_first, take_while}
use Rattle.sq_base.specs.Addresses.{Address, address_text, is_colon}
use Rattle.sq_base.specs.Bytes.{lf, cr, space, slash, question}
use Rattle.sq_base.specs.Requests.{HttpRequest}
use Rattle.sq_base.specs.Targets.{in_authority}
use Rattle.sq_base.specs.declared.plans.BodyPlan.{BodyPlan}
use Rattle.sq_base.specs.declared.plans.BodyPlan.TheVariants as plan
use Rattle.sq_message.specs.FieldNames.{each_name, kept_lines, line_of}
use Rattle.sq_message.specs.declared.names.Direction.TheVariants as way

-- the end of a line
abbrev pub crlf : List ℕ
crlf = cr ∷ lf ∷ []

-- the authority of the target, as it was sent
abbrev pub authority_of : List ℕ → List ℕ → List ℕ
authority_of method target =
    if bytes_eq method (codes "CONNECT") then target
    else take_while in_authority (drop 2 (after_first is_colon target))

-- what stands for an empty path without a query
abbrev pub no_path : List ℕ → List ℕ
no_path method = if bytes_eq method (codes "OPTIONS") then codes "*" else codes "/"

-- the path and query as the origin gets them
abbrev pub origin_form : List ℕ → List ℕ → List ℕ
origin_form method [] = no_path method
origin_form method (b ∷ bs) = if b == question then slash ∷ b ∷ bs else b ∷ bs

abbrev pub request_line : HttpRequest → List ℕ
request_line r = r.method ++ space ∷ origin_form r.method r.path ++ codes " HTTP/1.1" ++ crlf

abbrev pub host_line : HttpRequest → List ℕ
host_line r = codes "Host: " ++ authority_of r.method r.target ++ crlf

-- the line of a body that goes out in chunks
abbrev pub coding_line : Bool → List ℕ
coding_line chunked = if chunked then codes "Transfer-Encoding: chunked" ++ crlf else []

-- the version that was received, and by whom
abbrev pub via_line : ℕ → List ℕ
via_line minor = codes "Via: 1." ++ decimal minor ++ codes " aclproxy" ++ crlf

-- the client's address
abbrev pub forwarded_line : Address → List ℕ
forwarded_line addr = codes "X-Forwarded-For: " ++ address_text addr ++ crlf

-- the line of a connection that closes
abbrev pub closing_line : Bool → List ℕ
closing_line closes = if closes then codes "Connection: close" ++ crlf else []

abbrev pub is_chunked : BodyPlan → Bool
is_chunked plan.None = false
is_chunked (plan.Length n) = false
is_chunked plan.Chunked = true
is_chunked plan.ToClose = false

-- the lines of the proxy, where names are tested so, and the empty line
unfoldable pub proxy_lines : (List ℕ → Bool) → ℕ → Address → Bool → List ℕ
proxy_lines test minor addr chunked =
    coding_line chunked ++ line_of test (codes "Via") (via_line minor)
    ++ line_of test (codes "X-Forwarded-For") (forwarded_line addr) ++ closing_line true ++ crlf

-- the head that the origin gets, where names of fields are tested so
unfoldable pub head_out_where : (List ℕ → Bool) → HttpRequest → Address → BodyPlan → List ℕ
head_out_where test r addr p =
    request_line r ++ host_line r ++ kept_lines test way.ToOrigin r.fields
    ++ proxy_lines test r.minor addr (is_chunked p)

-- the head that the origin gets
unfoldable pub head_out : HttpRequest → Address → BodyPlan → List ℕ
head_out r addr p = head_out_where each_name r addr p
