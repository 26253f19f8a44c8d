-- Which fields of heads go on (configuration reference, `request_header_access`,
-- `reply_header_access`).
use Rattle.std.specs.Prelude.{ℕ, List, Bool, true, false}
use Rattle.sq_base.specs.Addresses.{Address}
use Rattle.sq_base.specs.Requests.{HttpRequest}
use Rattle.sq_base.specs.declared.plans.BodyPlan.{BodyPlan}
use Rattle.sq_eval.specs.Takings.{fact_taken}
use Rattle.sq_message.specs.ReplyHeads.{reply_head_out_where}
use Rattle.sq_message.specs.RequestHeads.{head_out_where}
use Rattle.sq_message.specs.declared.replies.ReplyHead.{ReplyHead}
use Rattle.sq_message.specs.declared.replies.Shape.{Shape}
use Rattle.sq_rules.specs.Configurations.{Configuration}
use Rattle.sq_rules.specs.Verdicts.{name_allowed, name_allowed_over}
use Rattle.sq_rules.specs.declared.sights.Sight.{Sight}

-- which names of fields go on, in heads of requests and in those of replies
pub record HeaderAccess : Type 0 where
  pub request : List ℕ → Bool
  pub reply : List ℕ → Bool

-- what a configuration says of a check's fields
abbrev pub header_access : Configuration → Sight → HeaderAccess
header_access c s = record { request = name_allowed c s false; reply = name_allowed c s true }

-- the head of a request as the origin gets it from a configuration's rules
abbrev pub request_text : Configuration → Sight → HttpRequest → Address → BodyPlan → List ℕ
request_text c s r addr p = head_out_where (header_access c s).request r addr p

-- the head of a reply as the client gets it
abbrev pub reply_text : Configuration → Sight → ReplyHead → Shape → List ℕ
reply_text c s h shape = reply_head_out_where (header_access c s).reply h shape

-- the same over the facts of a check
abbrev pub allowed_by : Configuration → List Bool → Bool → List ℕ → Bool
allowed_by c facts reply name = name_allowed_over (fact_taken facts) c.acls c.headers reply name

abbrev pub access_by : Configuration → List Bool → HeaderAccess
access_by c facts = record { request = allowed_by c facts false; reply = allowed_by c facts true }
