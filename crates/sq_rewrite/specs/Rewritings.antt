-- The question to a redirector, and what its reply makes of the request (configuration reference,
-- `url_rewrite_program`).
use Rattle.std.specs.Prelude.{◌≡◌, ℕ, List, ◌∷◌, ◌++◌, length, Bool, true, not, ◌&&◌, ◌||◌, ◌==◌, if◌then◌else◌, Some, None, codes, bytes_eq, ⊤}
use Rattle.std.specs.List.{find, list_all}
use Rattle.std.specs.Option.{option_map}
use Rattle.std.specs.Char.{is_ascii_graphic}
use Rattle.std.specs.declared.option.Option.{Option}
use Rattle.sq_base.specs.Addresses.{Address, address_text}
use Rattle.sq_base.specs.Bytes.{space}
use Rattle.sq_base.specs.Requests.{HttpRequest}
use Rattle.sq_base.specs.declared.helpers.Cause.TheVariants as cause
use Rattle.sq_base.specs.declared.helpers.Pair.{Pair}
use Rattle.sq_base.specs.declared.helpers.Reply.{Reply}
use Rattle.sq_base.specs.declared.helpers.Word.{Word}
use Rattle.sq_base.specs.declared.helpers.Word.TheVariants as word
use Rattle.sq_request.specs.Heads.{retargeted}
use Rattle.sq_rewrite.specs.declared.rewritings.Rewriting.{Rewriting}
use Rattle.sq_rewrite.specs.declared.rewritings.Rewriting.TheVariants as rewriting

-- the question: the target, the client's address with no name, no user, and the method
unfoldable pub question_text : HttpRequest → Address → List ℕ
question_text r addr = r.target ++ space ∷ address_text addr ++ codes "/- - " ++ r.method

-- the value of the first pair of this name
abbrev pub value_of : List ℕ → List Pair → Option (List ℕ)
value_of name pairs = option_map (λ p. p.value) (find (λ p. bytes_eq p.key name) pairs)

-- the status of a redirect with this name
abbrev pub code_named : List ℕ → Option ℕ
code_named name =
    if bytes_eq name (codes "301") then Some 301
    else (if bytes_eq name (codes "302") then Some 302
    else (if bytes_eq name (codes "303") then Some 303
    else (if bytes_eq name (codes "307") then Some 307
    else (if bytes_eq name (codes "308") then Some 308 else None))))

-- that of the pair `status`, and 302 where there is none
abbrev pub code_by : Option (List ℕ) → Option ℕ
code_by None = Some 302
code_by (Some name) = code_named name

-- a URL to which a client may be sent: one or more bytes of visible ASCII
abbrev pub is_url : List ℕ → Bool
is_url text = not (length text == 0) && list_all is_ascii_graphic text

abbrev pub redirect_by : Option ℕ → Option (List ℕ) → Option (ℕ × List ℕ)
redirect_by None url = None
redirect_by (Some code) None = None
redirect_by (Some code) (Some url) = if is_url url then Some (code, url) else None

-- the redirect of these pairs: its status and its URL
unfoldable pub redirect_of : List Pair → Option (ℕ × List ℕ)
redirect_of pairs = redirect_by (code_by (value_of (codes "status") pairs))
    (value_of (codes "url") pairs)

-- a request of scheme http
abbrev pub plain_only : Option HttpRequest → Option HttpRequest
plain_only None = None
plain_only (Some r) = if bytes_eq r.scheme (codes "http") then Some r else None

abbrev pub request_by : HttpRequest → Option (List ℕ) → Option HttpRequest
request_by r None = None
request_by r (Some target) = plain_only (retargeted r target)

-- the request of these pairs in place of this one, which is not CONNECT: its method, version and
-- fields, and the new target
unfoldable pub new_request : HttpRequest → List Pair → Option HttpRequest
new_request r pairs = if bytes_eq r.method (codes "CONNECT") then None
    else request_by r (value_of (codes "rewrite-url") pairs)

-- a redirect is before a new request
abbrev pub chosen : Option (ℕ × List ℕ) → Option HttpRequest → Rewriting
chosen (Some p) new = rewriting.Redirect p.0 p.1
chosen None (Some r) = rewriting.New r
chosen None None = rewriting.Same None

abbrev pub rewriting_by : Word → List Pair → HttpRequest → Rewriting
rewriting_by word.Yes pairs r = chosen (redirect_of pairs) (new_request r pairs)
rewriting_by word.No pairs r = rewriting.Same None
rewriting_by word.Broken pairs r = rewriting.Same (Some cause.Bh)

-- what a reply makes of the request that was asked
abbrev pub rewriting_of : Reply → HttpRequest → Rewriting
rewriting_of reply r = rewriting_by reply.word reply.pairs r

-- a status of a redirect
abbrev pub is_redirect_code : ℕ → Bool
is_redirect_code n = n == 301 || n == 302 || n == 303 || n == 307 || n == 308

-- a client is sent to a URL of visible ASCII, with a status of a redirect
pub record IsRedirect (code : ℕ) (url : List ℕ) : Type 0 where
  pub code_is : is_redirect_code code ≡ true
  pub url_is : is_url url ≡ true

-- a request in place of another: its method, version and fields, and the scheme http
pub record IsInPlaceOf (r new : HttpRequest) : Type 0 where
  pub method : new.method ≡ r.method
  pub minor : new.minor ≡ r.minor
  pub fields : new.fields ≡ r.fields
  pub scheme : new.scheme ≡ codes "http"

-- what may become of this request
abbrev pub MayBecome : HttpRequest → Rewriting → Type 0
MayBecome r (rewriting.Same cause) = ⊤
MayBecome r (rewriting.New new) = IsInPlaceOf r new
MayBecome r (rewriting.Redirect code url) = IsRedirect code url
