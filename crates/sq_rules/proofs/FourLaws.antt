-- The four acls of one of type `dst` behind others: their names are free, and they nest no deeper than they may.
use Rattle.std.proofs.Common.{◌≡◌, ℕ, suc, max, List, [], ◌∷◌, ◌++◌, length, take, Bool, true, false, ◌&&◌, refl, ap, subst, ◌∙◌, arith, Some, None, slice_get, nat_le, append_assoc}
use Rattle.std.proofs.lemmas.List.{length_push}
use Rattle.std.specs.Prelude.{codes, slice_index_or}
use Rattle.sq_base.specs.declared.addresses.Range.{Range}
use Rattle.sq_rules.proofs.AclLaws.{nestings_longer}
use Rattle.sq_rules.proofs.LookupLaws.{end_apart, ends_apart, free_push, get_end, get_front}
use Rattle.sq_rules.proofs.TableLaws.{nesting_at, nestings_length}
use Rattle.sq_rules.specs.Building.{place_of}
use Rattle.sq_rules.specs.Configurations.{nesting_of, nestings}
use Rattle.sq_rules.specs.Limits.{nesting_limit}
use Rattle.sq_rules.specs.Lookups.{asking_acl, begins_literal, either_acl, holds_all, looked_up, lookup_name, named_acl, named_name, values_acl}
use Rattle.sq_rules.specs.declared.configs.Acl.{Acl}
use Rattle.sq_rules.specs.declared.configs.Body.{Body}
use Rattle.sq_rules.specs.declared.configs.Body.TheVariants as body

-- the acls so far, after each of the four
abbrev pub with_one : List Acl → List ℕ → List Range → List Acl
with_one acls n v = acls ++ values_acl n v ∷ []

abbrev pub with_two : List Acl → List ℕ → List Range → List Acl
with_two acls n v = with_one acls n v ++ asking_acl n ∷ []

abbrev pub with_three : List Acl → List ℕ → List Range → List Acl
with_three acls n v = with_two acls n v ++ named_acl (length acls) n ∷ []

-- each name is free when its acl comes
pub lookup_free : (acls : List Acl) (n : List ℕ) (v : List Range) → place_of acls (lookup_name n) ≡ None
    → place_of (with_one acls n v) (lookup_name n) ≡ None
lookup_free acls n v free = free_push (λ a. a.name) acls (values_acl n v) (lookup_name n) free
    (ends_apart n (codes " literal") (codes " lookup") refl)

pub named_free : (acls : List Acl) (n : List ℕ) (v : List Range) → place_of acls (named_name n) ≡ None
    → place_of (with_two acls n v) (named_name n) ≡ None
named_free acls n v free =
    free_push (λ a. a.name) (with_one acls n v) (asking_acl n) (named_name n)
    (free_push (λ a. a.name) acls (values_acl n v) (named_name n) free
    (ends_apart n (codes " literal") (codes " named") refl))
    (ends_apart n (codes " lookup") (codes " named") refl)

pub name_free : (acls : List Acl) (n : List ℕ) (v : List Range) → place_of acls n ≡ None
    → place_of (with_three acls n v) n ≡ None
name_free acls n v free =
    free_push (λ a. a.name) (with_two acls n v) (named_acl (length acls) n) n
    (free_push (λ a. a.name) (with_one acls n v) (asking_acl n) n
    (free_push (λ a. a.name) acls (values_acl n v) n free (end_apart n (codes "literal") 32))
    (end_apart n (codes "lookup") 32))
    (end_apart n (codes "named") 32)

-- how deep they nest
leaf_flat : (before : List ℕ) (b : Body) → holds_all b ≡ true → nesting_of before b ≡ 0
leaf_flat before (body.Leaf l) is = refl
leaf_flat before (body.External class arguments) is = cc
leaf_flat before (body.AnyOf terms) is = cc
leaf_flat before (body.AllOf lines) is = cc

-- `dst literal` stands first, also where more stand behind
first_flat : (acls more : List Acl) → begins_literal acls ≡ true → slice_index_or (nestings (acls ++ more)) 0 0 ≡ 0
first_flat [] more is = cc
first_flat (a ∷ acls) more is = nesting_at (a ∷ acls ++ more) 0 a refl
    ∙ leaf_flat (take 0 (nestings (a ∷ acls ++ more))) a.body (and_second _ (holds_all a.body) is)
  where
    and_second : (x y : Bool) → (x && y) ≡ true → y ≡ true
    and_second true y e = e
    and_second false y e = cc

long_one : (acls : List Acl) (n : List ℕ) (v : List Range) → length (with_one acls n v) ≡ suc (length acls)
long_one acls n v = omega (arith, length_push acls (values_acl n v))

pub long_two : (acls : List Acl) (n : List ℕ) (v : List Range) → length (with_two acls n v) ≡ suc (suc (length acls))
long_two acls n v = omega (arith, length_push (with_one acls n v) (asking_acl n), long_one acls n v)

asking_flat : (acls : List Acl) (n : List ℕ) (v : List Range)
    → slice_index_or (nestings (with_two acls n v)) (suc (length acls)) 0 ≡ 0
asking_flat acls n v = nesting_at (with_two acls n v) (suc (length acls)) (asking_acl n)
    (subst (λ k. slice_get (with_two acls n v) k ≡ Some (asking_acl n)) (long_one acls n v)
    (get_end (with_one acls n v) (asking_acl n)))

one_deep : (i j : ℕ) → i ≡ 0 → j ≡ 0 → suc (max (max i (max j 0)) 0) ≡ 1
one_deep i j e f = rw (e, f) refl

pub named_deep : (acls : List Acl) (n : List ℕ) (v : List Range) → begins_literal acls ≡ true
    → nesting_of (nestings (with_two acls n v)) (named_acl (length acls) n).body ≡ 1
named_deep acls n v is =
    let first : slice_index_or (nestings (with_two acls n v)) 0 0 ≡ 0 =
    ap (λ l. slice_index_or (nestings l) 0 0) (append_assoc acls (values_acl n v ∷ []) (asking_acl n ∷ []))
    ∙ first_flat acls (values_acl n v ∷ asking_acl n ∷ []) is in
    one_deep _ _ first (asking_flat acls n v)

pub named_shallow : (acls : List Acl) (n : List ℕ) (v : List Range) → begins_literal acls ≡ true
    → nat_le (nesting_of (nestings (with_two acls n v)) (named_acl (length acls) n).body) nesting_limit ≡ true
named_shallow acls n v is = rw (named_deep acls n v is) refl

index_end : (xs : List ℕ) (y : ℕ) → slice_index_or (xs ++ y ∷ []) (length xs) 0 ≡ y
index_end [] y = refl
index_end (x ∷ xs) y = index_end xs y

pub named_index : (acls : List Acl) (n : List ℕ) (v : List Range) → begins_literal acls ≡ true
    → slice_index_or (nestings (with_three acls n v)) (suc (suc (length acls))) 0 ≡ 1
named_index acls n v is =
    let long : length (nestings (with_two acls n v)) ≡ suc (suc (length acls)) = nestings_length (with_two acls n v)
    ∙ long_two acls n v in
    ap (λ l. slice_index_or l (suc (suc (length acls))) 0)
    (nestings_longer [] (with_two acls n v) (named_acl (length acls) n))
    ∙ subst (λ k. slice_index_or
    (nestings (with_two acls n v) ++ nesting_of (nestings (with_two acls n v)) (named_acl (length acls) n).body ∷ []) k
    0 ≡ nesting_of (nestings (with_two acls n v)) (named_acl (length acls) n).body) long
    (index_end (nestings (with_two acls n v))
    (nesting_of (nestings (with_two acls n v)) (named_acl (length acls) n).body))
    ∙ named_deep acls n v is

pub values_flat : (acls : List Acl) (n : List ℕ) (v : List Range)
    → slice_index_or (nestings (with_three acls n v)) (length acls) 0 ≡ 0
values_flat acls n v =
    nesting_at (with_three acls n v) (length acls) (values_acl n v)
    (get_front (with_two acls n v) (named_acl (length acls) n) (length acls) (omega (arith, long_two acls n v))
    ∙ get_front (with_one acls n v) (asking_acl n) (length acls) (omega (arith, long_one acls n v))
    ∙ get_end acls (values_acl n v))

two_deep : (i j : ℕ) → i ≡ 0 → j ≡ 1 → nat_le (suc (max i (max j 0))) nesting_limit ≡ true
two_deep i j e f = rw (e, f) refl

pub either_shallow : (acls : List Acl) (n : List ℕ) (v : List Range) → begins_literal acls ≡ true
    → nat_le (nesting_of (nestings (with_three acls n v)) (either_acl (length acls) n).body) nesting_limit ≡ true
either_shallow acls n v is = two_deep _ _ (values_flat acls n v) (named_index acls n v is)

-- the four, one after the other, are all
pub all_four : (acls : List Acl) (n : List ℕ) (v : List Range)
    → with_three acls n v ++ either_acl (length acls) n ∷ [] ≡ acls ++ looked_up (length acls) n v
all_four acls n v = behind acls (values_acl n v) (asking_acl n) (named_acl (length acls) n) (either_acl (length acls) n)
  where
    behind : (xs : List Acl) (a b c e : Acl)
        → (((xs ++ a ∷ []) ++ b ∷ []) ++ c ∷ []) ++ e ∷ [] ≡ xs ++ a ∷ b ∷ c ∷ e ∷ []
    behind [] a b c e = refl
    behind (x ∷ xs) a b c e = ap (λ l. x ∷ l) (behind xs a b c e)
