-- Rules of pools: they name acls that are there, and what is taken of external acls does not matter to them.
use Rattle.std.proofs.Common.{◌≡◌, ℕ, suc, List, [], ◌∷◌, length, Bool, true, false, ◌&&◌, not, if◌then◌else◌, Some, refl, sym, ap, ◌∙◌, slice_get, slice_index_or}
use Rattle.std.specs.List.{list_all}
use Rattle.sq_base.specs.Addresses.{Address}
use Rattle.sq_rules.proofs.FactLaws as fact_laws
use Rattle.sq_rules.proofs.ValueLaws.{AgreeOnLeaves, fast_rules}
use Rattle.sq_rules.specs.Configurations.{Configuration, are_known, are_known_bodies, has_buckets, is_fast_rule, is_known_rule, is_leaf_body, is_pool, slow_ones, some_slow}
use Rattle.sq_rules.specs.Facts.{body_fact, facts_of}
use Rattle.sq_rules.specs.Values.{taken_at, taken_of_acl, taken_of_body, value_if}
use Rattle.sq_rules.specs.Verdicts.{default_of, is_in_pool, is_passed_over, outcome_so_far, pool_from}
use Rattle.sq_rules.specs.declared.configs.Acl.{Acl}
use Rattle.sq_rules.specs.declared.configs.Body.{Body}
use Rattle.sq_rules.specs.declared.configs.Body.TheVariants as body
use Rattle.sq_rules.specs.declared.configs.Rule.{Rule}
use Rattle.sq_rules.specs.declared.pools.Pool.{Pool}
use Rattle.sq_rules.specs.declared.sights.Sight.{Sight}
use Rattle.sq_eval.specs.Takings as by
use Rattle.sq_eval.specs.declared.taking.Helpers.TheVariants as helpers

left : (a b : Bool) → (a && b) ≡ true → a ≡ true
left true b e = refl
left false b e = cc

right : (a b : Bool) → (a && b) ≡ true → b ≡ true
right true b e = e
right false b e = cc

both_hold : (a b : Bool) → a ≡ true → b ≡ true → (a && b) ≡ true
both_hold a b e f = rw e f

rules_known : (acls : List Acl) (rules : List Rule) → list_all (is_fast_rule acls) rules ≡ true
    → list_all (is_known_rule (length acls)) rules ≡ true
rules_known acls [] fast = refl
rules_known acls (r ∷ rules) fast =
    both_hold (is_known_rule (length acls) r) (list_all (is_known_rule (length acls)) rules)
    (left (is_known_rule (length acls) r) (not (some_slow (slow_ones acls) r.terms))
    (left (is_fast_rule acls r) (list_all (is_fast_rule acls) rules) fast))
    (rules_known acls rules (right (is_fast_rule acls r) (list_all (is_fast_rule acls) rules) fast))

-- a rule of which no term asks a helper names acls that are there
pub fast_known : (acls : List Acl) (r : Rule) → is_fast_rule acls r ≡ true
    → are_known (length acls) r.terms ≡ true
fast_known acls r fast = left (is_known_rule (length acls) r) (not (some_slow (slow_ones acls) r.terms)) fast

pool_fast : (acls : List Acl) (p : Pool) → is_pool acls p ≡ true → list_all (is_fast_rule acls) p.lists ≡ true
pool_fast acls p is = right (has_buckets p.class (length p.pairs)) (list_all (is_fast_rule acls) p.lists) is

-- the rules of a pool name acls that are there
pub pool_known : (acls : List Acl) (p : Pool) → is_pool acls p ≡ true
    → list_all (is_known_rule (length acls)) p.lists ≡ true
pool_known acls p is = rules_known acls p.lists (pool_fast acls p is)

leaf_taken : (c : Configuration) (facts : List Bool) (s : Sight) (p : ℕ) (a : Acl) (b : Body)
    → facts ≡ facts_of c.acls s → slice_get c.acls p ≡ Some a → a.body ≡ b → is_leaf_body b ≡ true
    → by.read_of_body c facts helpers.Nobody p b ≡ taken_of_body c s [] p b
leaf_taken c facts s p a (body.Leaf l) is here known leaf =
    ap value_if (ap (λ fs. slice_index_or fs p false) is ∙ fact_laws.fact_at c.acls s p a here ∙ ap (body_fact s) known)
leaf_taken c facts s p a (body.External class arguments) is here known leaf = absurd (cc)
leaf_taken c facts s p a (body.AnyOf terms) is here known leaf = absurd (cc)
leaf_taken c facts s p a (body.AllOf lines) is here known leaf = absurd (cc)

leaves_agree : (c : Configuration) (facts : List Bool) (s : Sight) → facts ≡ facts_of c.acls s
    → AgreeOnLeaves c.acls (by.taken_by c facts helpers.Nobody) (taken_at c s [])
leaves_agree c facts s is p a here leaf =
    ap (by.read_of_acl c facts helpers.Nobody p) here ∙ leaf_taken c facts s p a a.body is here refl leaf
    ∙ sym (ap (taken_of_acl c s [] p) here)

pools_same : (c : Configuration) (facts : List Bool) (s : Sight) (a : Address)
    → are_known_bodies (length c.classes) 0 c.acls ≡ true → facts ≡ facts_of c.acls s
    → (place : ℕ) (pools : List Pool) → list_all (is_pool c.acls) pools ≡ true
    → pool_from (by.taken_by c facts helpers.Nobody) c.acls a place pools
    ≡ pool_from (taken_at c s []) c.acls a place pools
pools_same c facts s a known is place [] are = refl
pools_same c facts s a known is place (p ∷ pools) are =
    ap (λ v. if not (is_passed_over a p) && (outcome_so_far v).allow then Some place
    else pool_from (by.taken_by c facts helpers.Nobody) c.acls a (suc place) pools)
    (fast_rules (by.taken_by c facts helpers.Nobody) (taken_at c s []) (length c.classes) c.acls known
    (leaves_agree c facts s is) (default_of p.lists) 1 p.lists
    (pool_fast c.acls p (left (is_pool c.acls p) (list_all (is_pool c.acls) pools) are)))
    ∙ ap (λ o. if not (is_passed_over a p) && is_in_pool (taken_at c s []) c.acls p then Some place else o)
    (pools_same c facts s a known is (suc place) pools (right (is_pool c.acls p) (list_all (is_pool c.acls) pools) are))

-- over the facts of a check, its pool is the one that the definitions give
pub pool_is : (c : Configuration) (facts : List Bool) (s : Sight) (a : Address)
    → are_known_bodies (length c.classes) 0 c.acls ≡ true → list_all (is_pool c.acls) c.pools ≡ true
    → facts ≡ facts_of c.acls s → s.addr ≡ a
    → pool_from (by.taken_by c facts helpers.Nobody) c.acls a 0 c.pools
    ≡ pool_from (taken_at c s []) c.acls s.addr 0 c.pools
pool_is c facts s a known are is same =
    pools_same c facts s a known is 0 c.pools are ∙ ap (λ b. pool_from (taken_at c s []) c.acls b 0 c.pools) (sym same)
