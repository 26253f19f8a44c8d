use mathlib.Core.Bool.{or-false}
use Rattle.std.proofs.Common.{◌≡◌, ◌++◌, ◌∷◌, [], ◌||◌, ◌≤◌, ◌<◌, suc, arith, ap, subst, sym, ◌∙◌, get_or, length, max}
use Rattle.std.proofs.lemmas.List.{get_or_default}
use Rattle.std.specs.List.{All}
use Rattle.sq_urlmatch.proofs.MergeLaws.{before_next, before_same, merge_same, next_same}
use Rattle.sq_urlmatch.proofs.SearchLaws.{pairs_push}
use Rattle.sq_urlmatch.specs.Spans.{in_span, in_spans, AreApart, IsBefore}
use Rattle.sq_urlmatch.specs.declared.spans.Span.{Span}
use Rattle.sq_urlmatch.proofs.spans.apart_from.Goals as goal
use Rattle.sq_urlmatch.proofs.spans.apart_from.Goals.{then-span-open, else-span-open+in_ok-push}

pub loop-span-init : goal.loop-span-init
loop-span-init c = record {
  same = λ n. rw c.new-spans.ensures.items (sym (or-false (in_span c.args.first n)));
  apart = rw c.new-spans.ensures.items (λ i j d earlier within. absurd (omega arith));
  before = rw c.new-spans.ensures.items (λ k d within. absurd (omega arith));
  low = λ k d after within. c.requires 0 (suc k) d (omega arith) (omega arith);
}

pub loop-span-preserved : goal.loop-span-preserved
loop-span-preserved c =
    let spans = c.loop-span.spans.items in
    let o = c.loop-span.open in
    let rest = c.args.rest.now in
    let i = c.loop-span.span-index in
    let d : Span = record { first = 0; last = 0 } in
    let s = get_or rest i d in
    let within : i < length rest = c.loop-span-test.true in
    let low : o.first ≤ s.first = c.loop-span.invariant.low i d (omega arith) within in
    let now = c.if-span-open.open in
    elim c.if-span-open.branch [
      | then-span-open w ↦
          let same : c.if-span-open.spans.items ≡ spans = ap (λ v. v.items) w.spans-is in
          let wider : now ≡ record o { last = max o.last s.last } = w.open-is
          ∙ ap (λ n. record o { last = n }) w.max.ensures in
          let begins : now.first ≡ o.first = ap (λ (t : Span). t.first) wider in
          record {
            same = λ n. ap (λ l. in_spans l n || in_span now n) same ∙ ap (λ t. in_spans spans n || in_span t n) wider
                ∙ merge_same spans o c.args.first rest i n d within low w.if-span-open.true
                (c.loop-span.invariant.same n);
            apart = subst (λ l. AreApart l) (sym same) c.loop-span.invariant.apart;
            before = subst (λ l. All (λ t. IsBefore t now) l) (sym same)
                (before_same spans o now c.loop-span.invariant.before (sym begins));
            low = λ k e after inside. subst (λ x. x ≤ (get_or rest k e).first) (sym begins)
                (c.loop-span.invariant.low k e (omega arith) inside);
          }
      | else-span-open+in_ok-push w ↦
          let more : c.if-span-open.spans.items ≡ spans ++ o ∷ [] = ap (λ v. v.items) w.spans-is
          ∙ w.in_ok-push.ensures.items in
          let next : now ≡ s = w.open-is in
          record {
            same = λ n. ap (λ l. in_spans l n || in_span now n) more
                ∙ ap (λ t. in_spans (spans ++ o ∷ []) n || in_span t n) next
                ∙ next_same spans o c.args.first rest i n d within (c.loop-span.invariant.same n);
            apart = subst (λ l. AreApart l) (sym more)
                (pairs_push IsBefore spans o c.loop-span.invariant.apart c.loop-span.invariant.before);
            before = subst (λ l. All (λ t. IsBefore t now) l) (sym more)
                (subst (λ t. All (λ u. IsBefore u t) (spans ++ o ∷ [])) (sym next)
                (before_next spans o s c.loop-span.invariant.before low w.if-span-open.false));
            low = λ k e after inside. subst (λ (t : Span). t.first ≤ (get_or rest k e).first)
                (get_or_default rest i e d within ∙ sym next)
                (c.requires (suc i) (suc k) e (omega arith) (omega arith));
          }
    ]

pub returns-clause-apart : goal.returns-clause-apart
returns-clause-apart c =
    rw c.in_ok-push-2.ensures.items
    (pairs_push IsBefore c.loop-span.spans.items c.loop-span.open c.loop-span.invariant.apart
    c.loop-span.invariant.before)
