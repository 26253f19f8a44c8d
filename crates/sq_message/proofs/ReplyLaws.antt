-- What the spans of a head say of a reply.
use Rattle.std.proofs.Common.{◌≡◌, ℕ, ◌≤◌, List, [], length, take, map, refl, sym, ap, ◌∙◌, arith}
use Rattle.httparse.proofs.GrammarLemmas.{response_unique}
use Rattle.httparse.specs.Grammar.{ResponseHead}
use Rattle.httparse.specs.Spans.{header_bytes, span_bytes}
use Rattle.httparse.specs.declared.spans.HeaderSpan.{HeaderSpan}
use Rattle.httparse.specs.declared.spans.ResponseSpans.{ResponseSpans}
use Rattle.sq_base.specs.declared.requests.Field.{Field}
use Rattle.sq_request.proofs.PairLaws.{fields_from_pairs}
use Rattle.sq_request.specs.Spans.{field_pair}
use Rattle.sq_message.proofs.FieldLaws.{count_of}
use Rattle.sq_message.specs.ReplyHeads.{IsReplyHead, HasReply, reply_of, most_bytes}
use Rattle.sq_message.specs.Spans.{CoversHead, HasMoreThan}
use Rattle.sq_message.specs.declared.replies.ReplyHead.{ReplyHead}

-- the bytes are one head at most
pub reply_one : (head : List ℕ) (a b : ReplyHead) → HasReply head a → HasReply head b → a ≡ b
reply_one head a b p q = p.2 ∙ ap reply_of (response_unique head p.0 q.0 [] [] p.1.whole q.1.whole).0 ∙ sym q.2

-- no head has more fields than the room
pub no_head : (head : List ℕ) (h : ResponseHead) → HasMoreThan 128 head → IsReplyHead head h → ⊥
no_head head h more is = omega (arith, more h is.whole, is.few)

-- the parts that were copied are those of the head
pub read_is : (head : List ℕ) (headers : List HeaderSpan) (s : ResponseSpans) (reason : List ℕ) (fs : List Field)
    → CoversHead head headers s → length headers ≤ 128
    → length head ≤ most_bytes → reason ≡ span_bytes head s.reason
    → map field_pair fs ≡ map (header_bytes head) (take s.headers headers)
    → HasReply head (record { minor = s.version; status = s.code; reason = reason; fields = fs })
read_is head headers s reason fs at room small r e =
    let h = at.0 in
    let covers = at.1 in
    let parts : record { minor = s.version; status = s.code; reason = reason; fields = fs } ≡ reply_of h =
    rw (covers.minor, covers.status, r ∙ covers.reason, fields_from_pairs fs h.fields (e ∙ covers.fields)) refl in (
      h,
      record { whole = covers.whole; small = small; few = count_of _ _ _ 128 _ h.fields covers.fields room },
      parts,
    )
