use Rattle.std.proofs.Common.{sym, rules}
use Rattle.std.proofs.lemmas.List.Sorted.{IsNonDecreasingBy-from_sort_by_key, list_any-IsPermutation}
use Rattle.sq_urlmatch.specs.Spans.{in_span}
use Rattle.sq_urlmatch.proofs.spans.sorted.Goals as goal

pub returns-clause-same : goal.returns-clause-same
returns-clause-same c = λ n. sym (list_any-IsPermutation (λ s. in_span s n) _ _ c.in_ok-sort_by_key.ensures.permutation)

pub returns-clause-rising : goal.returns-clause-rising
returns-clause-rising c = IsNonDecreasingBy-from_sort_by_key (λ s. s.first) _ c.in_ok-sort_by_key.ensures.sorted
    (λ a r q k. search rules)
