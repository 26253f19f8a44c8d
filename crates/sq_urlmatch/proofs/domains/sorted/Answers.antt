use Rattle.std.proofs.Common.{◌≡◌, sym, rules}
use Rattle.std.proofs.lemmas.List.Sorted.{All-permutation, IsNonDecreasingBy-from_sort_by_key, list_any-IsPermutation}
use Rattle.sq_urlmatch.specs.Names.{hash_of, is_at, place_of}
use Rattle.sq_urlmatch.specs.declared.names.Name.{Name}
use Rattle.sq_urlmatch.proofs.domains.sorted.Goals as goal

pub returns-clause-same : goal.returns-clause-same
returns-clause-same c = λ host. sym
    (list_any-IsPermutation (λ n. is_at n host) _ _ c.in_ok-sort_by_key.ensures.permutation)

pub returns-clause-hashed : goal.returns-clause-hashed
returns-clause-hashed c = All-permutation (λ (n : Name). n.hash ≡ hash_of n.name) _ _
    c.in_ok-sort_by_key.ensures.permutation c.requires.hashed

pub returns-clause-rising : goal.returns-clause-rising
returns-clause-rising c = IsNonDecreasingBy-from_sort_by_key (λ (n : Name). place_of n.hash c.args.shift) _
    c.in_ok-sort_by_key.ensures.sorted (λ a r q k. search rules)
