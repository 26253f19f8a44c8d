-- What a request says of its connection and of its body: RFC 9112 sections 9.3 and 9.6 (close), RFC
-- 9110 section 10.1.1 (100-continue).
use Rattle.std.specs.Prelude.{Bool, true, false, not, ◌&&◌, ◌||◌, ◌==◌, nat_lt, codes}
use Rattle.std.specs.List.{list_any}
use Rattle.std.specs.Str.{str_eq_ignore_ascii_case}
use Rattle.sq_base.specs.Requests.{HttpRequest}
use Rattle.sq_base.specs.declared.plans.BodyPlan.{BodyPlan}
use Rattle.sq_base.specs.declared.plans.BodyPlan.TheVariants as plan
use Rattle.sq_base.specs.declared.requests.Field.{Field}
use Rattle.sq_message.specs.FieldNames.{elements, is_one_of}

-- a Connection field that lists close
abbrev pub lists_close : Field → Bool
lists_close f = str_eq_ignore_ascii_case f.name (codes "connection")
    && is_one_of (elements f.value) (codes "close")

-- the connection closes behind the reply: the client's version is 1.0, or it names close
unfoldable pub wants_close : HttpRequest → Bool
wants_close r = r.minor == 0 || list_any lists_close r.fields

-- a body comes, of some bytes where its length is told
abbrev pub has_body : BodyPlan → Bool
has_body plan.None = false
has_body (plan.Length n) = nat_lt 0 n
has_body plan.Chunked = true
has_body plan.ToClose = true

-- an Expect field with the value 100-continue
abbrev pub expects_continue : Field → Bool
expects_continue f = str_eq_ignore_ascii_case f.name (codes "expect")
    && str_eq_ignore_ascii_case f.value (codes "100-continue")

-- the client waits until it hears that its body may come
unfoldable pub wants_continue : HttpRequest → BodyPlan → Bool
wants_continue r p = not (r.minor == 0) && has_body p && list_any expects_continue r.fields
