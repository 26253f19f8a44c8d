-- How the end of a body is found: RFC 9112 section 6.3, where everything that two recipients could
-- read differently is refused.
use Rattle.std.specs.Prelude.{ℕ, List, [], ◌∷◌, length, Bool, ◌&&◌, ◌||◌, ◌==◌, nat_le, nat_lt, if◌then◌else◌, codes, bytes_eq, Some, None, Ok, Err}
use Rattle.std.specs.Char.{is_ascii_digit}
use Rattle.std.specs.List.{list_all}
use Rattle.std.specs.Str.{str_eq_ignore_ascii_case}
use Rattle.std.specs.declared.option.Option.{Option}
use Rattle.std.specs.declared.result.Result.{Result}
use Rattle.sq_base.specs.Decimals.{number_limit, read_on}
use Rattle.sq_base.specs.Requests.{HttpRequest}
use Rattle.sq_base.specs.declared.plans.BodyPlan.{BodyPlan}
use Rattle.sq_base.specs.declared.plans.BodyPlan.TheVariants as plan
use Rattle.sq_base.specs.declared.requests.Field.{Field}
use Rattle.sq_rules.specs.Keys.{field_values}
use Rattle.sq_message.specs.declared.faults.BadBody.{BadBody}
use Rattle.sq_message.specs.declared.faults.BadBody.TheVariants.{BothLengths, BadLength, BadCoding}
use Rattle.sq_message.specs.declared.replies.ReplyHead.{ReplyHead}

-- the number of 1 to 19 digits, at most 2^63 - 1
unfoldable pub length_of : List ℕ → Option ℕ
length_of value =
    if nat_le 1 (length value) && nat_le (length value) 19 && list_all is_ascii_digit value
    && nat_lt (read_on 0 value) number_limit
    then Some (read_on 0 value) else None

abbrev pub by_length : Option ℕ → Result BodyPlan BadBody
by_length None = Err BadLength
by_length (Some n) = Ok (plan.Length n)

-- one Content-Length with a number
abbrev pub length_plan : List ℕ → List (List ℕ) → Result BodyPlan BadBody
length_plan value [] = by_length (length_of value)
length_plan value (other ∷ others) = Err BadLength

-- one Transfer-Encoding with the one value `chunked`
abbrev pub chunked_plan : List ℕ → List (List ℕ) → Result BodyPlan BadBody
chunked_plan value [] = if str_eq_ignore_ascii_case value (codes "chunked") then Ok plan.Chunked
    else Err BadCoding
chunked_plan value (other ∷ others) = Err BadCoding

-- which HTTP/1.0 does not know
abbrev pub coding_plan : ℕ → List ℕ → List (List ℕ) → Result BodyPlan BadBody
coding_plan minor value others = if minor == 0 then Err BadLength else chunked_plan value others

-- by the values of Transfer-Encoding and of Content-Length; otherwise the given plan
abbrev pub plan_by : BodyPlan → ℕ → List (List ℕ) → List (List ℕ) → Result BodyPlan BadBody
plan_by otherwise minor [] [] = Ok otherwise
plan_by otherwise minor [] (l ∷ ls) = length_plan l ls
plan_by otherwise minor (c ∷ cs) [] = coding_plan minor c cs
plan_by otherwise minor (c ∷ cs) (l ∷ ls) = Err BothLengths

abbrev pub fields_plan : BodyPlan → ℕ → List Field → Result BodyPlan BadBody
fields_plan otherwise minor fields =
    plan_by otherwise minor (field_values (codes "transfer-encoding") fields)
    (field_values (codes "content-length") fields)

-- the plan of a request's body: CONNECT has none
unfoldable pub request_plan : HttpRequest → Result BodyPlan BadBody
request_plan r = if bytes_eq r.method (codes "CONNECT") then Ok plan.None
    else fields_plan plan.None r.minor r.fields

-- a reply of this status has no body: 1xx, 204 and 304
abbrev pub is_bodiless : ℕ → Bool
is_bodiless status = (nat_le 100 status && nat_lt status 200) || status == 204 || status == 304

-- the plan of a reply's body: up to the close where no field says otherwise
unfoldable pub reply_plan : List ℕ → ReplyHead → Result BodyPlan BadBody
reply_plan method h = if bytes_eq method (codes "HEAD") || is_bodiless h.status then Ok plan.None
    else fields_plan plan.ToClose h.minor h.fields
