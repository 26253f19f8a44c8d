-- Spans that share a number as one, and spans that are apart.
use mathlib.Core.Bool.{or-false}
use Rattle.std.proofs.Common.{◌≡◌, ℕ, ◌+◌, ◌-◌, ◌<◌, ◌≤◌, List, ◌++◌, ◌∷◌, [], length, get_or, take, drop, Bool, true, false, ◌&&◌, ◌||◌, ltb, leb, max, arith, inl, inr, sym, ◌∙◌, ap, refl, subst}
use Rattle.std.proofs.lemmas.Bool.{and_left, and_parts, cases_eq, le-leb, leb-true}
use Rattle.std.proofs.lemmas.Bool.Decides.{nat_tests}
use Rattle.std.proofs.lemmas.List.{take_all}
use Rattle.std.proofs.lemmas.List.Elements.{All-push}
use Rattle.std.proofs.lemmas.List.Folds.{list_any-append, list_any_more}
use Rattle.std.specs.List.{All}
use Rattle.std.specs.List.Sorted.{IsPartitionedBy, IsPartitionPoint}
use Rattle.sq_urlmatch.proofs.SearchLaws.{decided}
use Rattle.sq_urlmatch.specs.Spans.{in_span, in_spans, AreApart, IsBefore}
use Rattle.sq_urlmatch.specs.declared.spans.Span.{Span}

-- two spans that share a number are one
pub joined : (a b c d n : ℕ) → a ≤ c → c ≤ b
    → (leb a n && leb n (max b d)) ≡ ((leb a n && leb n b) || (leb c n && leb n d))
joined a b c d n low high = grind (arith, nat_tests)

or_grouped : (a b c : Bool) → (a || (b || c)) ≡ ((a || b) || c)
or_grouped true b c = refl
or_grouped false b c = refl

-- a test more on both sides
pub one_more : (m o f t s : Bool) → (m || o) ≡ (f || t) → (m || (o || s)) ≡ (f || (t || s))
one_more m o f t s e = or_grouped m o s ∙ ap (λ x. x || s) e ∙ sym (or_grouped f t s)

-- a span that is pushed, and the next one
pub pushed : (spans : List Span) (o : Span) (n : ℕ) → in_spans (spans ++ o ∷ []) n ≡ (in_spans spans n || in_span o n)
pushed spans o n = list_any-append (λ s. in_span s n) spans (o ∷ [])
    ∙ ap (λ x. in_spans spans n || x) (or-false (in_span o n))

-- what stands before a span that is done stands before the next one
pub before_next : (spans : List Span) (o s : Span) → All (λ t. IsBefore t o) spans → o.first ≤ s.first
    → o.last < s.first → All (λ t. IsBefore t s) (spans ++ o ∷ [])
before_next spans o s all rises ends =
    All-push (λ t. IsBefore t s) spans o
    (λ k d within. let h = all k d within in let lower = h.rises in let apart = h.ends in
    record { rises = omega arith; ends = omega arith })
    (record { rises = rises; ends = ends })

-- the same before a span that begins where this one does
pub before_same : (spans : List Span) (o s : Span) → All (λ t. IsBefore t o) spans → o.first ≡ s.first
    → All (λ t. IsBefore t s) spans
before_same spans o s all same = λ k d within. let h = all k d within in let lower = h.rises in let apart = h.ends in
    record { rises = omega arith; ends = omega arith }

-- a span that ends before another begins does not hold what the other holds or precedes
past : (s t : Span) (n : ℕ) → s.last < t.first → t.first ≤ n → in_span s n ≡ true → ⊥
past s t n apart begun holds = let below = leb-true n s.last (and_parts (leb s.first n) (leb n s.last) holds).1 in
    absurd (omega arith)

-- of spans that are apart, the last one that begins up to a number decides
pub span_decides : (spans : List Span) (p n : ℕ) (d : Span) → AreApart spans → p ≤ length spans →
    IsPartitionPoint (λ s. leb s.first n ≡ true) (λ s. leb s.first n ≡ false) spans p →
    in_spans spans n ≡ (ltb 0 p && in_span (get_or spans (p - 1) d) n)
span_decides spans p n d apart fits point =
    decided (λ s. in_span s n) spans p d fits
    (λ k after within. and_left (leb (get_or spans k d).first n) (leb n (get_or spans k d).last)
    (point.1 k d after within))
    (λ i j earlier before holds.
    absurd (past (get_or spans i d) (get_or spans j d) n (apart i j d earlier (omega arith)).ends
    (leb-true (get_or spans j d).first n (point.0 j d (omega arith) before)) holds))

-- a search among spans that are apart is one among numbers in order
pub apart_parted : (spans : List Span) (n : ℕ) → AreApart spans → IsPartitionedBy (λ s. leb s.first n) spans
apart_parted spans n apart = λ i j d le within begun.
    elim (cases_eq i j) [
      | inl same ↦ subst (λ k. leb (get_or spans k d).first n ≡ true) (sym same) begun
      | inr other ↦
          let lower = (apart i j d (omega arith) within).rises in
          let below = leb-true (get_or spans j d).first n begun in
          le-leb (get_or spans i d).first n (omega arith)
    ]

-- a span that goes into the open one, and one that does not
pub merge_same : (spans : List Span) (o first : Span) (rest : List Span) (i n : ℕ) (d : Span) → i < length rest →
    o.first ≤ (get_or rest i d).first → (get_or rest i d).first ≤ o.last
    → (in_spans spans n || in_span o n) ≡ (in_span first n || in_spans (take i rest) n) →
    (in_spans spans n || in_span (record o { last = max o.last (get_or rest i d).last }) n)
    ≡ (in_span first n || in_spans (take (i + 1) rest) n)
merge_same spans o first rest i n d within low high e =
    let s = get_or rest i d in
    ap (λ t. in_spans spans n || t) (joined o.first o.last s.first s.last n low high)
    ∙ one_more (in_spans spans n) (in_span o n) (in_span first n) (in_spans (take i rest) n) (in_span s n) e
    ∙ ap (λ t. in_span first n || t) (sym (list_any_more (λ t. in_span t n) rest i d within))

pub next_same : (spans : List Span) (o first : Span) (rest : List Span) (i n : ℕ) (d : Span) → i < length rest →
    (in_spans spans n || in_span o n) ≡ (in_span first n || in_spans (take i rest) n) →
    (in_spans (spans ++ o ∷ []) n || in_span (get_or rest i d) n) ≡ (in_span first n || in_spans (take (i + 1) rest) n)
next_same spans o first rest i n d within e =
    let s = get_or rest i d in
    ap (λ t. t || in_span s n) (pushed spans o n ∙ e)
    ∙ sym (or_grouped (in_span first n) (in_spans (take i rest) n) (in_span s n))
    ∙ ap (λ t. in_span first n || t) (sym (list_any_more (λ t. in_span t n) rest i d within))

-- a list is its first value and its others
pub whole_again : (spans : List Span) (d : Span) → 1 ≤ length spans
    → get_or spans 0 d ∷ take (length spans - 1) (drop 1 spans) ≡ spans
whole_again [] d h = absurd (omega arith)
whole_again (s ∷ ss) d h = let long : length (s ∷ ss) - 1 ≡ length ss = omega arith in
    rw long (ap (λ t. s ∷ t) (take_all (length ss) ss (omega arith)))
