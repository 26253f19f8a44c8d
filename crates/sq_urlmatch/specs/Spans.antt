-- Spans of numbers: the addresses of one kind that a range holds.
use Rattle.std.specs.Prelude.{ℕ, ◌<◌, ◌≤◌, List, Bool, false, if◌then◌else◌, ◌&&◌, nat_le, Some, None}
use Rattle.std.specs.List.{list_any, AllPairs}
use Rattle.std.specs.declared.option.Option.{Option}
use Rattle.sq_base.specs.Addresses.{Address}
use Rattle.sq_urlmatch.specs.declared.spans.Span.{Span}

-- the span holds the number
abbrev pub in_span : Span → ℕ → Bool
in_span s n = nat_le s.first n && nat_le n s.last

-- some span holds it
abbrev pub in_spans : List Span → ℕ → Bool
in_spans spans n = list_any (λ s. in_span s n) spans

-- the spans of the address's kind, IPv4 first, hold it
abbrev pub has_address : List Span × List Span → Address → Bool
has_address kinds a = if a.v6 then in_spans kinds.1 a.number else in_spans kinds.0 a.number

-- the span holds it, where there is one
abbrev pub in_part : Option Span → ℕ → Bool
in_part None n = false
in_part (Some s) n = in_span s n

-- the one begins no later than the other, and ends before the other begins
pub record IsBefore (s t : Span) : Type 0 where
  pub rises : s.first ≤ t.first
  pub ends : s.last < t.first

-- each span is before all later ones
abbrev pub AreApart : List Span → Type 0
AreApart spans = AllPairs IsBefore spans
