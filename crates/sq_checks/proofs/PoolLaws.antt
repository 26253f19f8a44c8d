-- The pool of a check is there, and takes its client.
use Rattle.std.proofs.Common.{◌≡◌, ℕ, ◌-◌, ◌≤◌, suc, List, [], ◌∷◌, Bool, true, false, ◌&&◌, not, Some, None, IfSome, refl, sym, ap, ◌∙◌, arith, inl, inr}
use Rattle.std.specs.declared.option.Option.{Option}
use Rattle.sq_base.proofs.CommonLaws.{chosen}
use Rattle.sq_base.specs.Addresses.{Address}
use Rattle.sq_rules.specs.Configurations.{Configuration}
use Rattle.sq_rules.specs.Values.{taken_at}
use Rattle.sq_rules.specs.Verdicts.{is_in_pool, is_passed_over, pool_from, pool_of}
use Rattle.sq_rules.specs.declared.configs.Acl.{Acl}
use Rattle.sq_rules.specs.declared.pools.Pool.{Pool}
use Rattle.sq_rules.specs.declared.sights.Sight.{Sight}
use Rattle.sq_rules.specs.declared.values.TermValue.{TermValue}
use Rattle.sq_checks.specs.Records.{takes_client}

left : (a b : Bool) → (a && b) ≡ true → a ≡ true
left true b h = refl
left false b h = cc

pool_found : (taken : ℕ → TermValue) (acls : List Acl) (a : Address) (place : ℕ) (pools : List Pool) (p : ℕ)
    → pool_from taken acls a place pools ≡ Some p
    → (place ≤ p) × (takes_client pools a (p - place) ≡ true)
pool_found taken acls a place [] p e = absurd cc
pool_found taken acls a place (q ∷ pools) p e =
    elim (chosen (not (is_passed_over a q) && is_in_pool taken acls q) (Some place)
    (pool_from taken acls a (suc place) pools) (Some p) e) [
      | inl h ↦
          let same : place ≡ p = cc (h.1) in
          let zero : p - place ≡ 0 = omega arith in
          (omega arith, rw zero (left (not (is_passed_over a q)) (is_in_pool taken acls q) h.0))
      | inr h ↦
          let rest = pool_found taken acls a (suc place) pools p h.1 in
          let next : p - place ≡ suc (p - suc place) = omega (arith, rest.0) in
          (omega (arith, rest.0), rw next rest.1)
    ]

-- for a pool from the first place on
pub pool_takes : (taken : ℕ → TermValue) (acls : List Acl) (a : Address) (pools : List Pool) (p : ℕ)
    → pool_from taken acls a 0 pools ≡ Some p → takes_client pools a p ≡ true
pool_takes taken acls a pools p e =
    let same : p - 0 ≡ p = omega arith in
    ap (takes_client pools a) (sym same) ∙ (pool_found taken acls a 0 pools p e).1

-- for the pool of a check, if it has one
pub pool_some : (o : Option ℕ) (c : Configuration) (s : Sight) → o ≡ pool_of c s
    → IfSome o (λ p. takes_client c.pools s.addr p ≡ true)
pool_some None c s e = tt
pool_some (Some p) c s e = pool_takes (taken_at c s []) c.acls s.addr c.pools p (sym e)
