-- Where the parts of a whole head are: its request line (RFC 9112 section 3) and its field lines
-- (section 5).
use Rattle.std.specs.Prelude.{◌≡◌, ℕ, ◌<◌, ◌≤◌, List, length, map, take, All}
use Rattle.httparse.specs.Grammar.{RequestHead}
use Rattle.httparse.specs.Spans.{span_bytes, header_bytes, name_and_value, IsWithin, IsHeaderWithin}
use Rattle.httparse.specs.declared.spans.HeaderSpan.{HeaderSpan}
use Rattle.httparse.specs.declared.spans.RequestSpans.{RequestSpans}
use Rattle.sq_base.specs.declared.requests.Field.{Field}
use Rattle.sq_request.specs.Heads.{IsHead}

-- a field's name and value
abbrev pub field_pair : Field → List ℕ × List ℕ
field_pair f = (f.name, f.value)

-- the spans lie in so many bytes
pub record FitsIn (n : ℕ) (headers : List HeaderSpan) (spans : RequestSpans) : Type 0 where
  pub method : IsWithin n spans.method
  pub target : IsWithin n spans.path
  pub count : spans.headers ≤ length headers
  pub fields : All (IsHeaderWithin n) (take spans.headers headers)

-- the bytes are the head h, and the spans cover its parts
pub record Covers (head : List ℕ) (headers : List HeaderSpan) (spans : RequestSpans)
    (h : RequestHead) : Type 0 where
  pub whole : IsHead head h
  pub method : span_bytes head spans.method ≡ h.method
  pub target : span_bytes head spans.path ≡ h.target
  pub minor : spans.version ≡ h.minor
  pub fields : map (header_bytes head) (take spans.headers headers) ≡ map name_and_value h.fields

-- the spans are those of the head
abbrev pub CoversHead : List ℕ → List HeaderSpan → RequestSpans → Type 0
CoversHead head headers spans = (h : RequestHead) × Covers head headers spans h

-- each head that the bytes are has more fields than this
abbrev pub HasMoreThan : ℕ → List ℕ → Type 0
HasMoreThan room head = (h : RequestHead) → IsHead head h → room < length h.fields

-- the spans cover these parts of a head's first line
pub record CoversLine (head : List ℕ) (spans : RequestSpans) (method_text target_text : List ℕ)
    (version : ℕ) : Type 0 where
  pub method : span_bytes head spans.method ≡ method_text
  pub target : span_bytes head spans.path ≡ target_text
  pub minor : spans.version ≡ version
