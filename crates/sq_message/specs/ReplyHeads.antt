-- Heads of replies, as they come from the origin and as they go to the client: RFC 9112 section 4,
-- in the grammar of `httparse`.
use Rattle.std.specs.Prelude.{◌≡◌, ℕ, ◌≤◌, List, [], ◌∷◌, ◌++◌, length, map, Bool, if◌then◌else◌, nat_lt, codes, decimal, ⊤}
use Rattle.httparse.specs.Grammar.{ResponseHead, ReadsResponse, status_code, reason_phrase}
use Rattle.sq_base.specs.Bytes.{space}
use Rattle.sq_request.specs.Heads.{most_fields, field_of}
use Rattle.sq_message.specs.declared.faults.ReplyHeadFault.{ReplyHeadFault}
use Rattle.sq_message.specs.declared.faults.ReplyHeadFault.TheVariants.{BadHead, WantOfMemory}
use Rattle.sq_message.specs.declared.names.Direction.TheVariants as way
use Rattle.sq_message.specs.declared.replies.ReplyHead.{ReplyHead}
use Rattle.sq_message.specs.declared.replies.Shape.{Shape}
use Rattle.sq_message.specs.FieldNames.{each_name, kept_lines, line_of}
use Rattle.sq_message.specs.RequestHeads.{crlf, coding_line, via_line, closing_line}

-- a head has so many bytes at most
abbrev pub most_bytes : ℕ
most_bytes = 65536

-- the bytes are a head of the grammar and nothing more, within the limits
pub record IsReplyHead (head : List ℕ) (h : ResponseHead) : Type 0 where
  pub whole : ReadsResponse head h []
  pub small : length head ≤ most_bytes
  pub few : length h.fields ≤ most_fields

-- the parts of a head of the grammar
abbrev pub reply_of : ResponseHead → ReplyHead
reply_of h = record {
  minor = h.minor;
  status = status_code h;
  reason = reason_phrase h.reason;
  fields = map field_of h.fields;
}

-- the bytes are a head that has these parts
abbrev pub HasReply : List ℕ → ReplyHead → Type 0
HasReply head r = (h : ResponseHead) × IsReplyHead head h × (r ≡ reply_of h)

-- the bytes are refused so
abbrev pub RefusesReply : List ℕ → ReplyHeadFault → Type 0
RefusesReply head BadHead = (h : ResponseHead) → ¬ (IsReplyHead head h)
RefusesReply head WantOfMemory = ⊤

-- what stands in front of a number below 100, so that it has three digits
abbrev pub leading_zeros : ℕ → List ℕ
leading_zeros number = if nat_lt number 10 then codes "00"
    else (if nat_lt number 100 then codes "0" else [])

-- a status in three digits, as the grammar has it
abbrev pub status_text : ℕ → List ℕ
status_text status = leading_zeros status ++ decimal status

abbrev pub status_line : ReplyHead → List ℕ
status_line h = codes "HTTP/1.1 " ++ status_text h.status ++ space ∷ h.reason ++ crlf

-- the head that the client gets, where names of fields are tested so
unfoldable pub reply_head_out_where : (List ℕ → Bool) → ReplyHead → Shape → List ℕ
reply_head_out_where test h s =
    status_line h ++ kept_lines test way.ToClient h.fields ++ coding_line s.chunked
    ++ line_of test (codes "Via") (via_line h.minor) ++ closing_line s.closes ++ crlf

-- the head that the client gets
unfoldable pub reply_head_out : ReplyHead → Shape → List ℕ
reply_head_out h s = reply_head_out_where each_name h s
