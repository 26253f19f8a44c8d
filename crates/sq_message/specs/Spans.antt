-- Where the parts of a whole head of a reply are: its status line (RFC 9112 section 4) and its
-- field lines (section 5).
use Rattle.std.specs.Prelude.{◌≡◌, ℕ, ◌<◌, ◌≤◌, List, [], length, map, take, All}
use Rattle.httparse.specs.Grammar.{ResponseHead, ReadsResponse, status_code, reason_phrase}
use Rattle.httparse.specs.Spans.{span_bytes, header_bytes, name_and_value, IsWithin, IsHeaderWithin}
use Rattle.httparse.specs.declared.spans.HeaderSpan.{HeaderSpan}
use Rattle.httparse.specs.declared.spans.ResponseSpans.{ResponseSpans}

-- the spans lie in so many bytes
pub record FitsIn (n : ℕ) (headers : List HeaderSpan) (s : ResponseSpans) : Type 0 where
  pub reason : IsWithin n s.reason
  pub count : s.headers ≤ length headers
  pub fields : All (IsHeaderWithin n) (take s.headers headers)

-- the bytes are the head h, and the spans cover its parts
pub record Covers (head : List ℕ) (headers : List HeaderSpan) (s : ResponseSpans)
    (h : ResponseHead) : Type 0 where
  pub whole : ReadsResponse head h []
  pub minor : s.version ≡ h.minor
  pub status : s.code ≡ status_code h
  pub reason : span_bytes head s.reason ≡ reason_phrase h.reason
  pub fields : map (header_bytes head) (take s.headers headers) ≡ map name_and_value h.fields

-- the spans are those of the head
abbrev pub CoversHead : List ℕ → List HeaderSpan → ResponseSpans → Type 0
CoversHead head headers s = (h : ResponseHead) × Covers head headers s h

-- each head that the bytes are has more fields than this
abbrev pub HasMoreThan : ℕ → List ℕ → Type 0
HasMoreThan room head = (h : ResponseHead) → ReadsResponse head h [] → room < length h.fields
