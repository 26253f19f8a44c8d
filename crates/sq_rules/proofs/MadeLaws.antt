-- Parts that are made one after another, each behind those that are made, as loops make them.
use Rattle.std.proofs.Common.{◌≡◌, suc, List, [], ◌∷◌, ◌++◌, length, append_assoc, append-nil, refl, subst, ◌∙◌, arith, Ok, Err}
use Rattle.std.proofs.lemmas.List.{length_push}
use Rattle.std.specs.declared.result.Result.{Result}
use Rattle.sq_base.specs.Results.{◌>>=◌}
use Rattle.sq_rules.specs.Building.{each_made, pool_made, pools_made}
use Rattle.sq_rules.specs.declared.configs.Acl.{Acl}
use Rattle.sq_rules.specs.declared.parts.BuildFault.{BuildFault}
use Rattle.sq_rules.specs.declared.parts.PoolPart.{PoolPart}
use Rattle.sq_rules.specs.declared.pools.Pool.{Pool}

-- what is made of each of some parts, behind what is made
abbrev pub made_behind : {A B : Type 0} → (A → Result B BuildFault) → List B → List A → Result (List B) BuildFault
made_behind make done [] = Ok done
made_behind make done (x ∷ xs) = make x >>= λ y. made_behind make (done ++ y ∷ []) xs

-- the first of some and then the others, or all
one_first : {B : Type 0} (r : Result (List B) BuildFault) (done : List B) (y : B)
    → (r >>= λ ys. Ok ((done ++ y ∷ []) ++ ys)) ≡ ((r >>= λ ys. Ok (y ∷ ys)) >>= λ ys. Ok (done ++ ys))
one_first (Ok ys) done y = rw append_assoc refl
one_first (Err e) done y = refl

next_made : {B : Type 0} (r : Result B BuildFault) (behind : List B → Result (List B) BuildFault)
    (others : Result (List B) BuildFault) (done : List B)
    → ((y : B) → behind (done ++ y ∷ []) ≡ (others >>= λ ys. Ok ((done ++ y ∷ []) ++ ys)))
    → (r >>= λ y. behind (done ++ y ∷ [])) ≡ ((r >>= λ y. others >>= λ ys. Ok (y ∷ ys)) >>= λ ys. Ok (done ++ ys))
next_made (Ok y) behind others done same = same y ∙ one_first others done y
next_made (Err e) behind others done same = refl

made_all : {A B : Type 0} (make : A → Result B BuildFault) (xs : List A) (done : List B)
    → made_behind make done xs ≡ (each_made make xs >>= λ ys. Ok (done ++ ys))
made_all make [] done = rw append-nil refl
made_all make (x ∷ xs) done = next_made (make x) (λ more. made_behind make more xs) (each_made make xs) done
    (λ y. made_all make xs (done ++ y ∷ []))

whole : {B : Type 0} (r : Result (List B) BuildFault) → (r >>= λ ys. Ok ([] ++ ys)) ≡ r
whole (Ok ys) = refl
whole (Err e) = refl

-- behind nothing
pub made_first : {A B : Type 0} (make : A → Result B BuildFault) (xs : List A)
    → made_behind make [] xs ≡ each_made make xs
made_first make xs = made_all make xs [] ∙ whole (each_made make xs)

-- the same for pools, which know their places
abbrev pub pools_behind : List Acl → List Pool → List PoolPart → Result (List Pool) BuildFault
pools_behind acls done [] = Ok done
pools_behind acls done (p ∷ parts) = pool_made acls (length done) p >>= λ made. pools_behind acls (done ++ made ∷ [])
    parts

pools_all : (acls : List Acl) (parts : List PoolPart) (done : List Pool)
    → pools_behind acls done parts ≡ (pools_made acls (length done) parts >>= λ ys. Ok (done ++ ys))
pools_all acls [] done = rw append-nil refl
pools_all acls (p ∷ parts) done =
    next_made (pool_made acls (length done) p) (λ more. pools_behind acls more parts)
    (pools_made acls (suc (length done)) parts) done
    (λ y. let long : length (done ++ y ∷ []) ≡ suc (length done) = omega (arith, length_push done y) in
    subst (λ k. pools_behind acls (done ++ y ∷ []) parts
    ≡ (pools_made acls k parts >>= λ ys. Ok ((done ++ y ∷ []) ++ ys))) long (pools_all acls parts (done ++ y ∷ [])))

pub pools_first : (acls : List Acl) (parts : List PoolPart) → pools_behind acls [] parts ≡ pools_made acls 0 parts
pools_first acls parts = pools_all acls parts [] ∙ whole (pools_made acls 0 parts)
